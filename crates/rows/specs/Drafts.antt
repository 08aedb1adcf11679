-- A draft of a rule book, by number, and its declarations. Each is refused by the first test that fails, in the order
-- 10, 8, 9, 20; a refused one leaves the draft as it was.
use Rattle.std.specs.Prelude.{ℕ, ◌+◌, Bool, true, not, ◌&&◌, ◌||◌, List, length, is_some, Some, None, Ok, Err, Option, Result, ◌==◌, nat_lt}
use Rattle.rights.specs.Limits.{max_rights, max_subject_types, max_object_types, max_rows}
use Rattle.rights.specs.Refusals.{demand, settle}
use Rattle.rights.specs.declared.refusal.Refusal.{Refusal}
use Rattle.rights.specs.declared.refusal.Refusal.TheVariants.{Repeated, EmptyNeed, OutOfRange, LimitReached}
use Rattle.rows.specs.Lists.{twice, all_below, set_of}
use Rattle.rows.specs.Rules.{Rule, Book, empty_book, created, more_rules, more_creations, marked}

-- how many rights and types are declared: these numbers may be used
pub record Counts : Type 0 where
  pub rights : ℕ
  pub subject_types : ℕ
  pub object_types : ℕ

pub record Declared : Type 0 where
  pub counts : Counts
  pub book : Book

abbrev pub nothing_declared : Declared
nothing_declared = record {
  counts = record { rights = 0; subject_types = 0; object_types = 0 };
  book = empty_book;
}

-- one more of a kind, unless there are as many as there may be; the answer is its number
abbrev pub declare_one : Declared → ℕ → ℕ → Counts → Declared × Result ℕ Refusal
declare_one d n limit counts =
    settle d (demand (nat_lt n limit) LimitReached (Ok (record { counts = counts; book = d.book }, n)))

abbrev pub declare_right : Declared → Declared × Result ℕ Refusal
declare_right d =
    declare_one d d.counts.rights max_rights
    (record { rights = d.counts.rights + 1; subject_types = d.counts.subject_types; object_types = d.counts.object_types })

abbrev pub declare_subject_type : Declared → Declared × Result ℕ Refusal
declare_subject_type d =
    declare_one d d.counts.subject_types max_subject_types
    (record { rights = d.counts.rights; subject_types = d.counts.subject_types + 1; object_types = d.counts.object_types })

abbrev pub declare_object_type : Declared → Declared × Result ℕ Refusal
declare_object_type d =
    declare_one d d.counts.object_types max_object_types
    (record { rights = d.counts.rights; subject_types = d.counts.subject_types; object_types = d.counts.object_types + 1 })

-- the right that marks an owner
abbrev pub declare_owner : Declared → ℕ → Declared × Result (Unit {0}) Refusal
declare_owner d r =
    settle d
    (demand (nat_lt r d.counts.rights) OutOfRange
    (demand (not (is_some d.book.mark)) Repeated
    (Ok (record { counts = d.counts; book = marked d.book r }, tt))))

-- what a creator of type u gets for a new object of type o
abbrev pub declare_creation : Declared → ℕ → ℕ → List ℕ → Declared × Result (Unit {0}) Refusal
declare_creation d u o gets =
    settle d
    (demand (nat_lt u d.counts.subject_types && nat_lt o d.counts.object_types && all_below d.counts.rights gets) OutOfRange
    (demand (not (is_some (created u o d.book.creations) || twice gets)) Repeated
    (Ok (record { counts = d.counts; book = more_creations d.book (record { by = u; on = o; gets = set_of gets }) }, tt))))

-- is the receiver's type declared? A transform has no receiver
abbrev pub receiver_declared : Counts → Option ℕ → Bool
receiver_declared n None = true
receiver_declared n (Some v) = nat_lt v n.subject_types

-- the rule that a row declares, but for the limit on rows
abbrev pub rule_from : Counts → ℕ → Option ℕ → ℕ → List ℕ → List ℕ → Result Rule Refusal
rule_from n u receiver o need gives =
    demand (nat_lt u n.subject_types && receiver_declared n receiver && nat_lt o n.object_types && all_below n.rights need && all_below n.rights gives) OutOfRange
    (demand (not (twice need || twice gives)) Repeated
    (demand (not (length need == 0)) EmptyNeed
    (Ok (record { by = u; receiver = receiver; on = o; need = set_of need; gives = set_of gives }))))

abbrev pub with_rule : Declared → Result Rule Refusal → Result (Declared × Unit {0}) Refusal
with_rule d (Err e) = Err e
with_rule d (Ok rule) =
    demand (nat_lt (length d.book.rules) max_rows) LimitReached
    (Ok (record { counts = d.counts; book = more_rules d.book rule }, tt))

-- a transform row, which has no receiver, or a grant row
abbrev pub declare_row : Declared → ℕ → Option ℕ → ℕ → List ℕ → List ℕ → Declared × Result (Unit {0}) Refusal
declare_row d u receiver o need gives = settle d (with_rule d (rule_from d.counts u receiver o need gives))
