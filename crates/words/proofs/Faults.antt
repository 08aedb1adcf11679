-- A name, byte by byte: what is wrong with it from a place on.
use Rattle.std.proofs.Common.{◌≡◌, ℕ, ◌+◌, ◌<◌, cond, List, length, get_or, drop, Some, Option, sym, refl, ap, ◌∙◌, add-one, arith, drop-cons}
use Rattle.std.proofs.lemmas.Bool.{lt-ltb, le-ltb, eq-eqb}
use Rattle.rights.specs.declared.refusal.Refusal.{Refusal}
use Rattle.rights.specs.declared.refusal.Refusal.TheVariants.{LineBroken, WordTooLong}
use Rattle.grammar.specs.Bytes.{Class, word_byte, opening, closing, space, line_end, bad, class}
use Rattle.grammar.specs.Reader.{reason}
use Rattle.grammar.specs.Words.{word_step, word_fault, not_a_word}

-- a byte that is no byte of a word is refused for the reader's reason, and so is a byte behind a full word
other_stops : (c : Class) (k : ℕ) (later : Option Refusal) → (c ≡ word_byte → ⊥) → word_step c k later ≡ Some (reason c 0 k)
other_stops word_byte k later h = absurd (h refl)
other_stops opening k later h = refl
other_stops closing k later h = refl
other_stops space k later h = refl
other_stops line_end k later h = refl
other_stops bad k later h = refl

full_stops : (c : Class) (k : ℕ) (later : Option Refusal) → k ≡ 24 → word_step c k later ≡ Some (reason c 0 k)
full_stops word_byte k later h =
    ap (λ t. cond t later (Some WordTooLong)) (le-ltb k 24 (omega arith))
    ∙ ap (λ t. Some (cond t WordTooLong LineBroken)) (sym (eq-eqb k 24 h))
full_stops opening k later h = refl
full_stops closing k later h = refl
full_stops space k later h = refl
full_stops line_end k later h = refl
full_stops bad k later h = refl

module _ (name : List ℕ) where
  -- nothing is wrong up to the place `at`
  abbrev pub RightUpTo : ℕ → Type 0
  RightUpTo at = not_a_word name ≡ word_fault at (drop at name)

  at_byte : (at : ℕ) → at < length name
      → word_fault at (drop at name) ≡ word_step (class (get_or name at 0)) at (word_fault (at + 1) (drop (at + 1) name))
  at_byte at h = rw (drop-cons name at 0 h, add-one)

  pub one_more : (at : ℕ) → RightUpTo at → at < length name → at < 24 → class (get_or name at 0) ≡ word_byte → RightUpTo (at + 1)
  one_more at so h short w =
      so ∙ at_byte at h
      ∙ ap (λ c. word_step c at (word_fault (at + 1) (drop (at + 1) name))) w
      ∙ ap (λ t. cond t (word_fault (at + 1) (drop (at + 1) name)) (Some WordTooLong)) (lt-ltb at 24 short)

  pub wrong_byte : (at : ℕ) → RightUpTo at → at < length name → (class (get_or name at 0) ≡ word_byte → ⊥)
      → not_a_word name ≡ Some (reason (class (get_or name at 0)) 0 at)
  wrong_byte at so h w = so ∙ at_byte at h ∙ other_stops (class (get_or name at 0)) at _ w

  pub too_long : (at : ℕ) → RightUpTo at → at < length name → at ≡ 24
      → not_a_word name ≡ Some (reason (class (get_or name at 0)) 0 at)
  too_long at so h e = so ∙ at_byte at h ∙ full_stops (class (get_or name at 0)) at _ e
