-- One step of the monitor: what it may change, and what it keeps.
use Rattle.std.proofs.Common.{◌≡◌, ℕ, ◌+◌, ◌<◌, ◌≤◌, Bool, true, false, not, ◌&&◌, T, eqb, ltb, List, [], ◌∷◌, ◌++◌, length, set, replicate, Some, None, Option, Result, refl, ap, ◌∙◌, inl, inr, arith, length-append, length-set}
use lib.Seq.{set-append_seam}
use Rattle.std.proofs.lemmas.Bool.{cases_eq}
use Rattle.std.proofs.lemmas.Grind.{common_steps}
use Rattle.rights.specs.Limits.{max_object_types, max_objects}
use Rattle.rights.specs.Sets.{nothing, has, add, remove}
use Rattle.rights.specs.Refusals.{demand, settle}
use Rattle.rights.specs.declared.refusal.Refusal.{Refusal}
use Rattle.rights.specs.declared.refusal.Refusal.TheVariants.{OutOfRange, SameSubject, LimitReached, NotPermitted, NotOwner, NotHeld}
use Rattle.books.specs.Meaning.{Meaning}
use Rattle.monitor.specs.declared.step.Step.{Step}
use Rattle.monitor.specs.declared.step.Step.TheVariants.{Create, Transform, Grant, Revoke}
use Rattle.monitor.specs.declared.step.Done.{Done}
use Rattle.monitor.specs.States.{Object, State, object, type_of, cell, is_subject, in_table, with_object, with_cell, WellFormed}
use Rattle.monitor.specs.Machine.{make, owns, perform}
use Rattle.monitor.proofs.Obedience.{object_same, object_other, same_but}
use Rattle.safety.specs.declared.question.Move.{Move}
use Rattle.safety.specs.declared.question.Move.TheVariants.{Add, Give}
use Rattle.safety.specs.declared.question.Call.{Call}
use Rattle.safety.specs.declared.question.Call.TheVariants.{Act, Ask}
use Rattle.safety.specs.Runs.{after, after_calls}
use Rattle.safety.specs.Rule.{receiver, right, apart, allowance, fresh}
use Rattle.safety.specs.Laws.{Inside}

abbrev pub an_object : ℕ → List ℕ → Object
an_object t cells = record { type = t; cells = cells }

-- the table with one object more
abbrev pub with_made : State → ℕ → List ℕ → State
with_made S t new = record { subjects = S.subjects; objects = S.objects ++ (an_object t new ∷ []) }

object_old : (S : State) (t : ℕ) (new : List ℕ) (i : ℕ) → i < length S.objects → object (with_made S t new) i ≡ object S i
object_old S t new i l = grind (arith, common_steps)

pub object_new : (S : State) (t : ℕ) (new : List ℕ) → object (with_made S t new) (length S.objects) ≡ an_object t new
object_new S t new = grind (arith, common_steps)

pub objects_more : (S : State) (t : ℕ) (new : List ℕ) → length (with_made S t new).objects ≡ length S.objects + 1
objects_more S t new = length-append S.objects (an_object t new ∷ [])

-- a create puts the new object with its cells
pub created : (S : State) (c t rights : ℕ)
    → with_cell (with_object S t) c (length S.objects) rights ≡ with_made S t (fresh (length S.subjects) c rights)
created S c t rights =
    let k = length S.objects in
    let empty = replicate (length S.subjects) nothing in
    ap (λ (x : Object). record { subjects = S.subjects; objects = set (with_object S t).objects k (an_object x.type (set x.cells c rights)) })
    (object_new S t empty)
    ∙ ap (λ (xs : List Object). record { subjects = S.subjects; objects = xs }) (set-append_seam S.objects (an_object t empty) [] (an_object t (set empty c rights)))

-- what holds of each object after a change
pub each_cell : (Q : ℕ → Object → Type 0) (S : State) (d o x : ℕ) → o < length S.objects
    → ((i : ℕ) → i < length S.objects → Q i (object S i)) → Q o (an_object (object S o).type (set (object S o).cells d x))
    → (i : ℕ) → i < length (with_cell S d o x).objects → Q i (object (with_cell S d o x) i)
each_cell Q S d o x l old here i li =
    elim (cases_eq i o) [
      | inl e ↦ rw (e, object_same S d o x l) here
      | inr ne ↦ rw (object_other S d o x l i ne) (old i (omega (arith, (same_but S d o x l).count)))
    ]

pub each_made : (Q : ℕ → Object → Type 0) (S : State) (t : ℕ) (new : List ℕ)
    → ((i : ℕ) → i < length S.objects → Q i (object S i)) → Q (length S.objects) (an_object t new)
    → (i : ℕ) → i < length (with_made S t new).objects → Q i (object (with_made S t new) i)
each_made Q S t new old here i li =
    elim (cases_eq i (length S.objects)) [
      | inl e ↦ rw (e, object_new S t new) here
      | inr ne ↦ let l : i < length S.objects = omega (arith, objects_more S t new) in
          rw (object_old S t new i l) (old i l)
    ]

-- What a step keeps: it is refused, or it adds an object, or it moves in a column, or it takes a right from a cell.
module _ (w : ℕ) (m : Meaning) (S : State) (P : State → Type 0) (here : P S)
    (creates : (c t rights : ℕ) → c < length S.subjects → m.creation (type_of S c) t ≡ Some rights → length S.objects < max_objects
    → P (with_made S t (fresh (length S.subjects) c rights)))
    (moves : (o : ℕ) (v : Move) → o < length S.objects → Inside w S.subjects v → T (apart v)
    → T (has (allowance m S.subjects (object S o).type (object S o).cells v) (right v)) → P (with_cell S (receiver v) o (add (cell S (receiver v) o) (right v))))
    (leaves : (o d r : ℕ) → o < length S.objects → P (with_cell S d o (remove (cell S d o) r))) where
  unless : (b : Bool) (e : Refusal) (next : Result (State × Done) Refusal) → (T b → P (settle S next).0) → P (settle S (demand b e next)).0
  unless true e next f = f tt
  unless false e next f = here

  creating : (c t : ℕ) → c < length S.subjects → (made : Option ℕ) → m.creation (type_of S c) t ≡ made → P (settle S (make S c t made)).0
  creating c t l None e = here
  creating c t l (Some rights) e =
      unless (ltb (length S.objects) max_objects) LimitReached _ (λ room.
      rw (created S c t rights) (creates c t rights l e (grind arith)))

  pub perform_keeps : (x : Step) → P (perform w m S x).0
  perform_keeps (Create c t) =
      unless (is_subject S c && ltb t max_object_types) OutOfRange _ (λ h. creating c t (grind arith) (m.creation (type_of S c) t) refl)
  perform_keeps (Transform s o r) =
      unless (in_table S s o && ltb r w) OutOfRange _ (λ h.
      unless (has (m.may_add (type_of S s) (object S o).type (cell S s o)) r) NotPermitted _ (λ allowed.
      moves o (Add s r) (grind arith) (grind arith) tt allowed))
  perform_keeps (Grant s d o r) =
      unless (in_table S s o && in_table S d o && ltb r w) OutOfRange _ (λ h.
      unless (not (eqb s d)) SameSubject _ (λ differ.
      unless (has (m.may_give (type_of S s) (type_of S d) (object S o).type (cell S s o)) r) NotPermitted _ (λ allowed.
      moves o (Give s d r) (grind arith) (grind arith) differ allowed)))
  perform_keeps (Revoke s d o r) =
      unless (in_table S s o && in_table S d o && ltb r w) OutOfRange _ (λ h.
      unless (owns m.owner (cell S s o)) NotOwner _ (λ owner.
      unless (has (cell S d o) r) NotHeld _ (λ held. leaves o d r (grind arith))))

-- what each step keeps, a list of steps keeps, and a list of calls
pub run_keeps : (w : ℕ) (m : Meaning) (P : State → Type 0) → ((S : State) → P S → (x : Step) → P (perform w m S x).0)
    → (S : State) → P S → (xs : List Step) → P (after w m S xs)
run_keeps w m P step S h [] = h
run_keeps w m P step S h (x ∷ xs) = run_keeps w m P step (perform w m S x).0 (step S h x) xs

pub calls_keep : (w : ℕ) (m : Meaning) (P : State → Type 0) → ((S : State) → P S → (x : Step) → P (perform w m S x).0)
    → (S : State) → P S → (calls : List Call) → P (after_calls w m S calls)
calls_keep w m P step S h [] = h
calls_keep w m P step S h (Act x ∷ calls) = calls_keep w m P step (perform w m S x).0 (step S h x) calls
calls_keep w m P step S h (Ask q ∷ calls) = calls_keep w m P step S h calls

-- A step keeps the table well-formed, and removes no object.
pub well_cell : (S : State) → WellFormed S → (d o x : ℕ) → o < length S.objects → WellFormed (with_cell S d o x)
well_cell S wf d o x l = record {
  few = wf.few;
  square = each_cell (λ i c. length c.cells ≡ length S.subjects) S d o x l wf.square (length-set (object S o).cells d x ∙ wf.square o l);
}

pub length_fresh : (k c rights : ℕ) → length (fresh k c rights) ≡ k
length_fresh k c rights = grind (arith, common_steps)

pub well_made : (S : State) → WellFormed S → (c t rights : ℕ) → WellFormed (with_made S t (fresh (length S.subjects) c rights))
well_made S wf c t rights =
    let k = length S.subjects in
    record {
      few = wf.few;
      square = each_made (λ i x. length x.cells ≡ k) S t (fresh k c rights) wf.square (length_fresh k c rights);
    }

pub well_step : (w : ℕ) (m : Meaning) (S : State) → WellFormed S → (x : Step) → WellFormed (perform w m S x).0
well_step w m S wf =
    perform_keeps w m S WellFormed wf
    (λ c t rights l e room. well_made S wf c t rights)
    (λ o v l i p h. well_cell S wf (receiver v) o _ l)
    (λ o d r l. well_cell S wf d o _ l)

pub grows_step : (w : ℕ) (m : Meaning) (n : ℕ) (S : State) → n ≤ length S.objects → (x : Step) → n ≤ length (perform w m S x).0.objects
grows_step w m n S h =
    perform_keeps w m S (λ U. n ≤ length U.objects) h
    (λ c t rights l e room. omega (arith, objects_more S t (fresh (length S.subjects) c rights)))
    (λ o v l i p a. omega (arith, (same_but S (receiver v) o (add (cell S (receiver v) o) (right v)) l).count))
    (λ o d r l. omega (arith, (same_but S d o (remove (cell S d o) r) l).count))
