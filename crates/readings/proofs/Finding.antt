-- Names looked up one by one: the numbers so far, and those that are left.
use Rattle.std.proofs.Common.{◌≡◌, ℕ, ◌+◌, ◌<◌, List, [], ◌∷◌, ◌++◌, length, get_or, drop, Ok, Err, Result, sym, refl, ap, ◌∙◌, append_assoc}
use Rattle.std.proofs.lemmas.List.{at_drop_more}
use Rattle.rights.specs.declared.refusal.Refusal.{Refusal}
use Rattle.words.specs.declared.tree.Word.{Word}
use Rattle.meaning.specs.Schemes.{and_then, found, all_found}
use Rattle.forms.specs.Views.{name_at, names_at}

abbrev pub with_found : List ℕ → Result (List ℕ) Refusal → Result (List ℕ) Refusal
with_found ks (Ok more) = Ok (ks ++ more)
with_found ks (Err e) = Err e

one_found : (ks : List ℕ) (k : ℕ) (r : Result (List ℕ) Refusal) → with_found ks (and_then r (λ ms. Ok (k ∷ ms))) ≡ with_found (ks ++ (k ∷ [])) r
one_found ks k (Ok more) = ap (λ l. Ok l) (sym (append_assoc ks (k ∷ []) more))
one_found ks k (Err e) = refl

module _ (line : List ℕ) (names : List Word) (known : List (List ℕ)) where
  abbrev pub left : ℕ → Result (List ℕ) Refusal
  left i = all_found (names_at line (drop i names)) known

  module _ (i : ℕ) (d : Word) (l : i < length names) (ks : List ℕ) where
    abbrev w : Word
    w = get_or names i d

    here : left i ≡ and_then (found (name_at line w) known) (λ k. and_then (left (i + 1)) (λ ms. Ok (k ∷ ms)))
    here = at_drop_more (λ l. all_found (names_at line l) known) names i d l

    pub found_here : (k : ℕ) → Ok k ≡ found (name_at line w) known → with_found ks (left i) ≡ with_found (ks ++ (k ∷ [])) (left (i + 1))
    found_here k e =
        ap (with_found ks) (here ∙ ap (λ r. and_then r (λ k. and_then (left (i + 1)) (λ ms. Ok (k ∷ ms)))) (sym e)) ∙ one_found ks k (left (i + 1))

    pub missing_here : (e : Refusal) → Err e ≡ found (name_at line w) known → with_found ks (left i) ≡ Err e
    missing_here e h = ap (with_found ks) (here ∙ ap (λ r. and_then r (λ k. and_then (left (i + 1)) (λ ms. Ok (k ∷ ms)))) (sym h))
