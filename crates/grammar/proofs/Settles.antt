-- A refusal, as the words have it, is what the reader answers.
use Rattle.std.proofs.Common.{◌≡◌, ℕ, List, [], ◌∷◌, ◌++◌, length, sym, refl, ◌∙◌, subst, append_assoc}
use Rattle.grammar.specs.Reader.{Reading, formed, not_read, read}
use Rattle.grammar.specs.Claims.{BeginsLine, Stopped, RefusedAt, RefusalsSettle}
use Rattle.rights.specs.declared.refusal.Refusal.{Refusal}
use Rattle.grammar.proofs.Claims.{only_good_lines, refused_at_first}

-- two ways to cut one text: the cuts are at one place, or one cut is before the other
data Cuts : List ℕ → List ℕ → List ℕ → List ℕ → Type 0 where
  same : {xs ys : List ℕ} → Cuts xs ys xs ys
  first : {xs ys : List ℕ} (b : ℕ) (zs : List ℕ) → Cuts xs (b ∷ (zs ++ ys)) (xs ++ (b ∷ zs)) ys
  second : {xs ys : List ℕ} (b : ℕ) (zs : List ℕ) → Cuts (xs ++ (b ∷ zs)) ys xs (b ∷ (zs ++ ys))

cuts_more : {xs ys us vs : List ℕ} (b : ℕ) → Cuts xs ys us vs → Cuts (b ∷ xs) ys (b ∷ us) vs
cuts_more b same = same
cuts_more b (first c zs) = first c zs
cuts_more b (second c zs) = second c zs

cuts : (xs ys us vs : List ℕ) → xs ++ ys ≡ us ++ vs → Cuts xs ys us vs
cuts [] ys [] vs e = subst (λ l. Cuts [] ys [] l) e same
cuts [] ys (b ∷ us) vs e = subst (λ l. Cuts [] l (b ∷ us) vs) (sym e) (first {xs = []} {ys = vs} b us)
cuts (b ∷ xs) ys [] vs e = subst (λ l. Cuts (b ∷ xs) ys [] l) e (second {xs = []} {ys = ys} b xs)
cuts (b ∷ xs) ys (c ∷ us) vs e =
    let head : b ≡ c = cc in
    let tail : xs ++ ys ≡ us ++ vs = cc in
    subst (λ x. Cuts (b ∷ xs) ys (x ∷ us) vs) head (cuts_more b (cuts xs ys us vs tail))

-- a beginning of a beginning
begins_less : (xs zs : List ℕ) (b : ℕ) → BeginsLine (xs ++ (b ∷ zs)) → BeginsLine (xs ++ (b ∷ []))
begins_less xs zs b (more, (F, g, e)) =
    (zs ++ more, (F, g, append_assoc xs (b ∷ []) (zs ++ more) ∙ sym (append_assoc xs (b ∷ zs) more) ∙ e))

same_number : (n m : Refusal) (xs ys : List ℕ) → Stopped n xs ys → Stopped m xs ys → n ≡ m
same_number n m xs [] h k = h ∙ sym k
same_number n m xs (b ∷ ys) h k = h.1 ∙ sym k.1

-- two that stop at one text stop at one place, with one number
meet : (n k : ℕ) (m l : Refusal) (xs ys us vs : List ℕ) → Cuts xs ys us vs → n ≡ length xs → k ≡ length us → BeginsLine xs → BeginsLine us → Stopped m xs ys → Stopped l us vs → (n ≡ k) × (m ≡ l)
meet n k m l xs ys us vs same e f p q h j = (e ∙ sym f, same_number m l xs ys h j)
meet n k m l xs ys us vs (first b zs) e f p q h j = absurd (h.0 (begins_less xs zs b q))
meet n k m l xs ys us vs (second b zs) e f p q h j = absurd (j.0 (begins_less us zs b p))

settled : (text : List ℕ) (n : Refusal) (k : ℕ) → RefusedAt text n k → (r : Reading) → read text ≡ r → r ≡ not_read n k
settled text n k R (formed F rest) e =
    let h = only_good_lines text F rest e in
    absurd (R.no_line F rest h.0 h.1)
settled text n k R (not_read m l) e =
    let S = refused_at_first text m l e in
    let both = meet l k m n S.front S.rest R.front R.rest (cuts S.front S.rest R.front R.rest (sym S.parts ∙ R.parts))
    S.offset R.offset S.begins R.begins S.stopped R.stopped in
    let places : l ≡ k = both.0 in
    let reasons : m ≡ n = both.1 in
    cc

pub refusals_settle : RefusalsSettle
refusals_settle text n k R = settled text n k R (read text) refl
