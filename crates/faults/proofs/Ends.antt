-- A text and its first line end.
use Rattle.std.proofs.Common.{◌≡◌, ℕ, zero, suc, ◌+◌, ◌<◌, ◌≤◌, cond, List, [], ◌∷◌, ◌++◌, length, drop, sym, refl, ap, ◌∙◌, arith}
use Rattle.std.specs.List.{position_or_len, after_first}
use Rattle.std.proofs.lemmas.List.{get_or-take, take-append-drop, drop_more, length-drop, length-take, take_all, drop_all}
use Rattle.std.proofs.lemmas.List.Sums.{sum_by-append, sum_by-cons, sum_by-le, fails_before_first, passes_at_first}
use Rattle.std.proofs.lemmas.Bool.{eqb-true, cond-false}
use Rattle.faults.specs.Lines.{is_end, after_ends, from_line, first_line, ends_in}

-- 1 at a line end
abbrev pub one : ℕ → ℕ
one b = cond (is_end b) 1 0

module _ (text : List ℕ) where
  -- the place of the first line end, or the text's length
  abbrev pub end : ℕ
  end = position_or_len is_end text

  -- the text after its first line end
  abbrev pub more : List ℕ
  more = after_first is_end text

  pub at_end : end < length text → drop end text ≡ 10 ∷ more
  at_end l = drop_more text end 0 l ∙ ap (λ b. b ∷ more) (eqb-true _ 10 (passes_at_first is_end text 0 l))

  pub cut_at_end : end < length text → text ≡ first_line text ++ (10 ∷ more)
  cut_at_end l = sym (take-append-drop end text) ∙ ap (λ s. first_line text ++ s) (at_end l)

  pub no_end_before : ends_in (first_line text) ≡ 0
  no_end_before =
      omega (
        arith,
        sum_by-le one 0 (first_line text) (λ k d l.
            let before : k < end = omega (arith, length-take end text) in
            let same = get_or-take end text k d before in
            omega (arith, cond-false {A = ℕ} _ 1 0 (ap is_end same ∙ fails_before_first is_end text k d before))),
      )

  pub ends_counted : end < length text → ends_in text ≡ 1 + ends_in more
  ends_counted l =
      let sum = sum_by-append one (first_line text) (10 ∷ more) in
      omega (arith, ap ends_in (cut_at_end l), sum, sum_by-cons one 10 more, no_end_before)

  pub no_end_at_all : length text ≤ end → ends_in text ≡ 0
  no_end_at_all l = ap ends_in (sym (take_all end text l)) ∙ no_end_before

  pub nothing_after : length text ≤ end → more ≡ []
  nothing_after l = drop_all (end + 1) text (omega arith)

pub nothing_of_nothing : (k : ℕ) → after_ends k [] ≡ []
nothing_of_nothing zero = refl
nothing_of_nothing (suc k) = nothing_of_nothing k

after_within : (k : ℕ) (text : List ℕ) → length (after_ends k text) ≤ length text
after_within zero text = omega arith
after_within (suc k) text = omega (arith, after_within k (more text), length-drop (end text + 1) text)

pub rest_within : (line : ℕ) (text : List ℕ) → length (from_line line text) ≤ length text
rest_within zero text = omega arith
rest_within (suc k) text = after_within k text
