-- The bytes are a word exactly when nothing is wrong with them.
use Rattle.std.proofs.Common.{◌≡◌, ℕ, suc, ◌+◌, ◌≤◌, Bool, true, false, cond, eqb, ltb, List, [], ◌∷◌, length, Some, None, Option, refl, ap, ◌∙◌, arith}
use Rattle.std.proofs.lemmas.Bool.{lt-ltb, ltb-true, ne_eqb, eqb-false}
use Rattle.rights.specs.declared.refusal.Refusal.{Refusal}
use Rattle.rights.specs.declared.refusal.Refusal.TheVariants.{LineBroken, WordTooLong}
use Rattle.grammar.specs.Bytes.{Class, word_byte, opening, closing, space, line_end, bad, class}
use Rattle.grammar.specs.Items.{WordBytes}
use Rattle.grammar.specs.Words.{word_step, word_fault, WordsJudged}

some_none : {B : Type 0} (e : Refusal) → ◌≡◌ {A = Option Refusal} (Some e) None → B
some_none e h = absurd (let z : ◌≡◌ {A = ℕ} 0 1 = cc in omega arith)

none_wrong_from : (k : ℕ) (w : List ℕ) → WordBytes w → 1 ≤ k + length w → k + length w ≤ 24 → word_fault k w ≡ None
none_wrong_from k [] bytes some short =
    ap (λ t. cond t (Some LineBroken) None) (ne_eqb k 0 (λ e. omega arith))
none_wrong_from k (b ∷ w) bytes some short =
    ap (λ c. word_step c k (word_fault (suc k) w)) bytes.0
    ∙ ap (λ t. cond t (word_fault (suc k) w) (Some WordTooLong)) (lt-ltb k 24 (omega arith))
    ∙ none_wrong_from (suc k) w bytes.1 (omega arith) (omega arith)

-- what stands before the end of a word, where nothing is wrong
room_left : (t : Bool) (later : Option Refusal) → cond t later (Some WordTooLong) ≡ None → (t ≡ true) × (later ≡ None)
room_left true later h = (refl, h)
room_left false later h = some_none WordTooLong h

abbrev Goes_on : Class → ℕ → Option Refusal → Type 0
Goes_on c k later = (c ≡ word_byte) × (ltb k 24 ≡ true) × (later ≡ None)

goes_on : (c : Class) (k : ℕ) (later : Option Refusal) → word_step c k later ≡ None → Goes_on c k later
goes_on word_byte k later h = let r = room_left (ltb k 24) later h in (refl, r.0, r.1)
goes_on bad k later h = some_none _ h
goes_on opening k later h = some_none _ h
goes_on closing k later h = some_none _ h
goes_on space k later h = some_none _ h
goes_on line_end k later h = some_none _ h

ends_none : (t : Bool) → cond t (Some LineBroken) None ≡ None → t ≡ false
ends_none true h = some_none LineBroken h
ends_none false h = refl

only_words_from : (k : ℕ) (w : List ℕ) → k ≤ 24 → word_fault k w ≡ None
    → WordBytes w × (1 ≤ k + length w) × (k + length w ≤ 24)
only_words_from k [] short h =
    let some : k ≡ 0 → ⊥ = eqb-false k 0 (ends_none (eqb k 0) h) in
    (tt, omega arith, omega arith)
only_words_from k (b ∷ w) short h =
    let on = goes_on (class b) k (word_fault (suc k) w) h in
    let more = only_words_from (suc k) w (ltb-true k 24 on.1) on.2 in
    ((on.0, more.0), omega (arith, more.1), omega (arith, more.2))

pub words_judged : WordsJudged
words_judged = record {
  none_wrong = λ w g. none_wrong_from 0 w g.bytes (omega (arith, g.some)) (omega (arith, g.short));
  only_words = λ w h.
      let g = only_words_from 0 w (omega arith) h in
      record { some = omega (arith, g.1); short = omega (arith, g.2); bytes = g.0 };
}
