-- Calls that may want memory, and one more name.
use Rattle.std.specs.Prelude.{◌≡◌, ℕ, Bool, not, List, [], ◌∷◌, ◌++◌, length, Ok, Err, Result, nat_lt}
use Rattle.rights.specs.Refusals.{demand}
use Rattle.rights.specs.declared.refusal.Refusal.{Refusal}
use Rattle.rights.specs.declared.refusal.Refusal.TheVariants.{Repeated, LimitReached}
use Rattle.words.specs.declared.stop.Failed.{Failed}
use Rattle.words.specs.declared.stop.Failed.TheVariants.{Memory, Because}
use Rattle.grammar.specs.Words.{not_a_word}
use Rattle.meaning.specs.Declarations.{unless_wrong}

-- A call on a state did what was to be done. Refused, or for want of memory, it leaves the state as it was.
abbrev pub CarriedOut : {S A E : Type 0} → Result (S × A) E → S → S → Result A (Failed E) → Type 0
CarriedOut due before after (Ok x) = due ≡ Ok (after, x)
CarriedOut due before after (Err (Because e)) = (due ≡ Err e) × (after ≡ before)
CarriedOut due before after (Err Memory) = after ≡ before

-- one more name, if it is a word, is not taken and is within the limit
abbrev pub entered : List (List ℕ) → Bool → List ℕ → ℕ → Result (List (List ℕ) × Unit {0}) Refusal
entered names is_taken name limit =
    unless_wrong (not_a_word name)
    (demand (not is_taken) Repeated
    (demand (nat_lt (length names) limit) LimitReached
    (Ok (names ++ (name ∷ []), tt))))
