-- The parts of a text between its line ends, as `split` and `splitn` give them.
use Rattle.std.proofs.Common.{◌≡◌, ℕ, zero, suc, ◌+◌, ◌-◌, ◌<◌, ◌≤◌, Bool, true, false, cond, List, [], ◌∷◌, ◌++◌, length, sym, refl, ap, subst, ◌∙◌, arith, ◌⊎◌, inl, inr, Option, Some, None, MatchOption, Bor, take, drop}
use Rattle.std.specs.declared.slice.SplitN.{SplitN}
use denote.Param.Members.{Mut}
use Rattle.std.specs.Bool.{MatchBool}
use Rattle.std.specs.Option.{unwrap_or, is_some}
use Rattle.std.specs.Fn.{ComputesKey}
use Rattle.std.specs.Iterator.{YieldsThen, SkipsThenYields}
use Rattle.std.specs.List.{IsFirstMatchOrLen}
use Rattle.std.specs.Slice.Iter.{split_steps, split_rest, split_done, split_callee, splitn_parts, splitn_count}
use Rattle.std.proofs.lemmas.List.{take_at, drop_at, drop-drop, append-nil, length-append}
use Rattle.std.proofs.lemmas.List.Sums.{position_or_len_is}
use Rattle.std.proofs.lemmas.Bool.{true≢false, cond-true, cond-false, MatchBool-at_true}
use Rattle.faults.specs.Lines.{is_end, after_ends, from_line, first_line}
use Rattle.faults.proofs.Ends.{end, more, nothing_of_nothing}

-- a part that reaches up to a line end, with what is left behind it; or all of the text
abbrev IsCut : Bool → List ℕ → List ℕ → List ℕ → Type 0
IsCut all text part left = MatchBool all (text ≡ part) ((y : ℕ) × (text ≡ part ++ (y ∷ left)))

cut : (text part tail : List ℕ) → text ≡ part ++ tail → IsFirstMatchOrLen is_end text (length part)
    → (part ≡ first_line text) × (drop 1 tail ≡ more text)
cut text part tail e h =
    let within : length part ≤ length text = omega (arith, ap length e, length-append part tail) in
    let at : length part ≡ end text =
    sym (position_or_len_is is_end text (length part) 0 within (λ k l. h.0 k 0 (omega arith) l) (λ l. h.1 l 0)) in
    let behind : drop 1 tail ≡ drop (end text + 1) (part ++ tail) =
    ap (drop 1) (sym (drop_at part tail (end text) at)) ∙ drop-drop 1 (end text) (part ++ tail) in
    (sym (take_at part tail (end text) at) ∙ ap (take (end text)) (sym e), behind ∙ ap (drop (end text + 1)) (sym e))

part_is : (text part left : List ℕ) (all : Bool) → IsCut all text part left
    → IsFirstMatchOrLen is_end text (length part) → (part ≡ first_line text) × (cond all [] left ≡ more text)
part_is text part left true e h = cut text part [] (e ∙ sym (append-nil part)) h
part_is text part left false e h = cut text part (e.0 ∷ left) e.1 h

abbrev Part : Type 0
Part = Bor (List ℕ)

skips : (r : Option Part) (m n : ℕ) → MatchOption r (m ≤ n) (λ _. m ≡ n) → (m ≤ n) × (is_some r ≡ true → m ≡ n)
skips None m n l = (l, λ e. absurd (true≢false (sym e)))
skips (Some x) m n l = (omega (arith, l), λ e. l)

module _ {F : Type 0} (g : Mut F (Bor ℕ × Unit {0}) Bool) where
  -- the first part that `split` gives
  pub first_part : (s t : _) (r : Option Part) (none : Part) (text : List ℕ) → split_rest s ≡ text
      → split_done s ≡ false → ComputesKey g is_end (split_callee s) → split_steps g s r t
      → (unwrap_or r none).now ≡ first_line text
  first_part s t None none text is live tests k = absurd (true≢false (sym k.0 ∙ live))
  first_part s t (Some x) none text is live tests k =
      (part_is (split_rest s) x.now (split_rest t) (split_done t) k.1 (k.2 is_end tests).1).0 ∙ ap first_line is

  module _ (s : SplitN ℕ F) where
    abbrev all : Bool
    all = split_done (splitn_parts s)

    abbrev rest : List ℕ
    rest = split_rest (splitn_parts s)

    abbrev left : List ℕ
    left = cond all [] rest

    abbrev Tests : (ℕ → Bool) → Type 0
    Tests p = ComputesKey g p (split_callee (splitn_parts s))

  -- a step of `splitn`
  abbrev steps : SplitN ℕ F → Option Part → SplitN ℕ F → Type 0
  steps s r t =
      (splitn_count t ≡ splitn_count s - 1) × MatchOption r ((splitn_count s ≡ 0) ⊎ (all s ≡ true))
      (λ x. (0 < splitn_count s) × (splitn_count s ≡ 1 → all t ≡ true) × IsCut (all t) (rest s) x.now (rest t)
      × (all s ≡ false)
      × (1 < splitn_count s → (p : ℕ → Bool) → Tests s p → Tests t p × IsFirstMatchOrLen p (rest s) (length x.now)))

  module _ (t : SplitN ℕ F) (none : Part) (empty : none.now ≡ []) where
    -- the last part that the count allows is all that is left
    last_step : (line : ℕ) (s : SplitN ℕ F) (r : Option Part) → splitn_count s ≡ line → steps s r t
        → (is_some r ≡ true → 0 ≡ line - 1) → (unwrap_or r none).now ≡ from_line line (left s)
    last_step zero s None count k only = empty
    last_step zero s (Some x) count k only = absurd (omega (arith, k.1.0))
    last_step (suc n) s None count k only = elim k.1 [
      | inl none ↦ absurd (omega (arith, none))
      | inr all ↦ empty ∙ sym (ap (after_ends n) (cond-true _ [] (rest s) all) ∙ nothing_of_nothing n)
    ]
    last_step (suc zero) s (Some x) count k only =
        let (some, last, part, live, found) = k.1 in
        sym (MatchBool-at_true _ _ (last count) part) ∙ sym (cond-false _ [] (rest s) live)
    last_step (suc (suc n)) s (Some x) count k only = absurd (omega (arith, only refl))

    -- the last of as many parts as the line's number, or nothing where fewer come
    part_at : (line : ℕ) (s : SplitN ℕ F) (xs : List Part) (r : Option Part) → splitn_count s ≡ line → Tests s is_end
        → YieldsThen steps s xs r t → (length xs ≤ line - 1) × (is_some r ≡ true → length xs ≡ line - 1)
        → (unwrap_or r none).now ≡ from_line line (left s)
    part_at line s [] r count tests y l = last_step line s r count (subst (λ v. steps v r t) (sym y.1) y.2) l.1
    part_at zero s (x ∷ xs) r count tests y l = absurd (omega (arith, l.0))
    part_at (suc zero) s (x ∷ xs) r count tests y l = absurd (omega (arith, l.0))
    part_at (suc (suc n)) s (x ∷ xs) r count tests y l =
        let (u, (j, k, ys), k') = y in
        let (some, last, part, live, found) = k.1 in
        let (tests', first) = found (omega (arith, count)) is_end tests in
        let behind = (part_is (rest s) x.now (rest j) (all j) part first).1 in
        let m : (length xs ≤ suc n - 1) × (is_some r ≡ true → length xs ≡ suc n - 1) =
        (omega (arith, l.0), λ e. omega (arith, l.1 e)) in
        part_at (suc n) j xs r (k.0 ∙ omega (arith, count)) tests' (u, ys, k') m
        ∙ ap (after_ends n) (behind ∙ ap more (sym (cond-false _ [] (rest s) live)))

    -- what `nth` gives
    pub nth_part : (line n : ℕ) (s : SplitN ℕ F) (r : Option Part) (text : List ℕ) → rest s ≡ text → all s ≡ false
        → Tests s is_end → splitn_count s ≡ line → n ≡ line - 1 → SkipsThenYields steps s n r t
        → (unwrap_or r none).now ≡ from_line line text
    nth_part line n s r text is live tests count e ran =
        let (xs, y, l) = ran in
        let m = skips r (length xs) (line - 1) (subst (λ k. MatchOption r (length xs ≤ k) (λ _. length xs ≡ k)) e l) in
        part_at line s xs r count tests y m ∙ ap (from_line line) (cond-false _ [] (rest s) live ∙ is)
