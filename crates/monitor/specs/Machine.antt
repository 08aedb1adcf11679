-- The machine: how a table is built, and what the monitor does with a step. Each call is refused by the first test that
-- fails; a refused one leaves the table as it was. The width w is the number of rights.
use Rattle.std.specs.Prelude.{ℕ, Bool, false, not, ◌&&◌, length, Some, None, Ok, Err, Option, Result, ◌==◌, nat_lt}
use Rattle.rights.specs.Limits.{max_subject_types, max_object_types, max_subjects, max_objects}
use Rattle.rights.specs.Refusals.{demand, settle}
use Rattle.rights.specs.Sets.{has, add, remove}
use Rattle.rights.specs.declared.refusal.Refusal.{Refusal}
use Rattle.rights.specs.declared.refusal.Refusal.TheVariants.{OutOfRange, SameSubject, LimitReached, NotPermitted, NotOwner, NotHeld}
use Rattle.books.specs.Meaning.{Meaning}
use Rattle.monitor.specs.declared.step.Step.{Step}
use Rattle.monitor.specs.declared.step.Step.TheVariants.{Create, Transform, Grant, Revoke}
use Rattle.monitor.specs.declared.step.Done.{Done}
use Rattle.monitor.specs.declared.step.Done.TheVariants.{Made, Added, Taken}
use Rattle.monitor.specs.States.{State, object, type_of, cell, is_subject, in_table, with_subject, with_object, with_cell}

-- where there is room, the table with one more subject or object, and its number
abbrev pub more_subjects : State → ℕ → Result (State × ℕ) Refusal
more_subjects S u =
    demand (nat_lt (length S.subjects) max_subjects) LimitReached (Ok (with_subject S u, length S.subjects))

abbrev pub more_objects : State → ℕ → Result (State × ℕ) Refusal
more_objects S t =
    demand (nat_lt (length S.objects) max_objects) LimitReached (Ok (with_object S t, length S.objects))

-- Building a table: one more subject, one more object, one more right in a cell.
abbrev pub build_subject : State → ℕ → State × Result ℕ Refusal
build_subject S u = settle S (demand (nat_lt u max_subject_types) OutOfRange (more_subjects S u))

abbrev pub build_object : State → ℕ → State × Result ℕ Refusal
build_object S t = settle S (demand (nat_lt t max_object_types) OutOfRange (more_objects S t))

abbrev pub build_holding : ℕ → State → ℕ → ℕ → ℕ → State × Result (Unit {0}) Refusal
build_holding w S s o r =
    settle S
    (demand (in_table S s o && nat_lt r w) OutOfRange
    (Ok (with_cell S s o (add (cell S s o) r), tt)))

-- r joins the cell of d for o; the answer says whether it was new there
abbrev pub join : State → ℕ → ℕ → ℕ → State × Done
join S d o r = (with_cell S d o (add (cell S d o) r), Added (not (has (cell S d o) r)))

-- s makes an object of type t, and gets this set for it, if the book has a creation
abbrev pub make : State → ℕ → ℕ → Option ℕ → Result (State × Done) Refusal
make S s t None = Err NotPermitted
make S s t (Some rights) =
    demand (nat_lt (length S.objects) max_objects) LimitReached
    (Ok (with_cell (with_object S t) s (length S.objects) rights, Made (length S.objects)))

-- does who holds this set own the object?
abbrev pub owns : Option ℕ → ℕ → Bool
owns None held = false
owns (Some mark) held = has held mark

abbrev pub outcome : ℕ → Meaning → State → Step → Result (State × Done) Refusal
outcome w m S (Create s t) =
    demand (is_subject S s && nat_lt t max_object_types) OutOfRange
    (make S s t (m.creation (type_of S s) t))
outcome w m S (Transform s o r) =
    demand (in_table S s o && nat_lt r w) OutOfRange
    (demand (has (m.may_add (type_of S s) (object S o).type (cell S s o)) r) NotPermitted
    (Ok (join S s o r)))
outcome w m S (Grant s d o r) =
    demand (in_table S s o && in_table S d o && nat_lt r w) OutOfRange
    (demand (not (s == d)) SameSubject
    (demand (has (m.may_give (type_of S s) (type_of S d) (object S o).type (cell S s o)) r) NotPermitted
    (Ok (join S d o r))))
outcome w m S (Revoke s d o r) =
    demand (in_table S s o && in_table S d o && nat_lt r w) OutOfRange
    (demand (owns m.owner (cell S s o)) NotOwner
    (demand (has (cell S d o) r) NotHeld
    (Ok (with_cell S d o (remove (cell S d o) r), Taken))))

abbrev pub perform : ℕ → Meaning → State → Step → State × Result Done Refusal
perform w m S step = settle S (outcome w m S step)
