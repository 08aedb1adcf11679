-- The declarations of a scheme with names. Each is refused by the first test that fails, in the order: a new name that is
-- no word (2, 5 or else 3), 10, 8, 9, 20.
use Rattle.std.specs.Prelude.{ℕ, Bool, not, ◌||◌, List, [], ◌∷◌, ◌++◌, length, is_some, Some, None, Ok, Err, Option, Result, nat_lt}
use Rattle.rights.specs.Limits.{max_rights, max_subject_types, max_object_types}
use Rattle.rights.specs.Refusals.{demand}
use Rattle.rights.specs.declared.refusal.Refusal.{Refusal}
use Rattle.rights.specs.declared.refusal.Refusal.TheVariants.{Repeated, LimitReached}
use Rattle.rows.specs.Drafts.{Declared, declare_owner, declare_creation, declare_row}
use Rattle.grammar.specs.Words.{not_a_word}
use Rattle.entries.specs.Lookup.{place_of}
use Rattle.meaning.specs.Named.{Named, numbered}

-- refused where something is wrong
abbrev pub unless_wrong : {A : Type 0} → Option Refusal → Result A Refusal → Result A Refusal
unless_wrong None next = next
unless_wrong (Some e) next = Err e

-- has one of them the name?
abbrev pub taken : List ℕ → List (List ℕ) → Bool
taken name names = is_some (place_of name names)

-- a new name of its kind: a word, not yet taken, within the limit; the answer is its number
abbrev pub new_name : List ℕ → Bool → List (List ℕ) → ℕ → (List (List ℕ) → Named) → Result (Named × ℕ) Refusal
new_name name is_taken names limit with_names =
    unless_wrong (not_a_word name)
    (demand (not is_taken) Repeated
    (demand (nat_lt (length names) limit) LimitReached
    (Ok (with_names (names ++ (name ∷ [])), length names))))

abbrev pub right_named : Named → List ℕ → Result (Named × ℕ) Refusal
right_named s name =
    new_name name (taken name s.names.rights) s.names.rights max_rights
    (λ more. record { names = record { rights = more; subject_types = s.names.subject_types; object_types = s.names.object_types }; book = s.book })

-- subject types and object types share one set of names
abbrev pub type_taken : Named → List ℕ → Bool
type_taken s name = taken name s.names.subject_types || taken name s.names.object_types

abbrev pub subject_type_named : Named → List ℕ → Result (Named × ℕ) Refusal
subject_type_named s name =
    new_name name (type_taken s name) s.names.subject_types max_subject_types
    (λ more. record { names = record { rights = s.names.rights; subject_types = more; object_types = s.names.object_types }; book = s.book })

abbrev pub object_type_named : Named → List ℕ → Result (Named × ℕ) Refusal
object_type_named s name =
    new_name name (type_taken s name) s.names.object_types max_object_types
    (λ more. record { names = record { rights = s.names.rights; subject_types = s.names.subject_types; object_types = more }; book = s.book })

-- what a declaration by number does to the book
abbrev pub by_number : {A : Type 0} → Named → Declared × Result A Refusal → Result (Named × A) Refusal
by_number s (d, Ok x) = Ok (record { names = s.names; book = d.book }, x)
by_number s (d, Err e) = Err e

abbrev pub owner_set : Named → ℕ → Result (Named × Unit {0}) Refusal
owner_set s r = by_number s (declare_owner (numbered s) r)

abbrev pub creation_added : Named → ℕ → ℕ → List ℕ → Result (Named × Unit {0}) Refusal
creation_added s u o gets = by_number s (declare_creation (numbered s) u o gets)

-- a transform row, which has no receiver, or a grant row
abbrev pub row_added : Named → ℕ → Option ℕ → ℕ → List ℕ → List ℕ → Result (Named × Unit {0}) Refusal
row_added s u receiver o need gives = by_number s (declare_row (numbered s) u receiver o need gives)
