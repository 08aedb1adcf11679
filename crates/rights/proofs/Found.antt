-- What a program's search says of `first`: the first number at which f gives something, or that there is none.
use Rattle.std.proofs.Common.{◌≡◌, ℕ, zero, suc, ◌<◌, ◌⊎◌, Some, None, Option, refl, ap, ◌∙◌, inl, inr, le_of_suc-le-suc, not-suc-le-zero, arith}
use Rattle.rights.specs.Firsts.{first, or_else}

pub first_is_none : {A : Type 0} (k : ℕ) (f : ℕ → Option A) → ((i : ℕ) → i < k → f i ≡ None) → first k f ≡ None
unfolding first
first_is_none zero f h = refl
first_is_none (suc k) f h =
    ap (λ o. or_else o (first k (λ i. f (suc i)))) (h zero (omega arith)) ∙ first_is_none k (λ i. f (suc i)) (λ i l. h (suc i) (omega arith))

pub first_is : {A : Type 0} (k : ℕ) (f : ℕ → Option A) (i : ℕ) (x : A) → i < k → f i ≡ Some x → ((j : ℕ) → j < i → f j ≡ None) → first k f ≡ Some x
unfolding first
first_is zero f i x l e h = absurd (not-suc-le-zero l)
first_is (suc k) f zero x l e h = ap (λ o. or_else o (first k (λ i. f (suc i)))) e
first_is (suc k) f (suc i) x l e h =
    ap (λ o. or_else o (first k (λ i. f (suc i)))) (h zero (omega arith))
    ∙ first_is k (λ i. f (suc i)) i x (le_of_suc-le-suc l) e (λ j lj. h (suc j) (omega arith))

-- what was found, f gave somewhere
else_some : {A : Type 0} (o other : Option A) (x : A) → or_else o other ≡ Some x → (o ≡ Some x) ⊎ (other ≡ Some x)
else_some None other x e = inr e
else_some (Some y) other x e = inl e

pub first_gave : {A : Type 0} (k : ℕ) (f : ℕ → Option A) (x : A) → first k f ≡ Some x → (i : ℕ) × (i < k) × (f i ≡ Some x)
unfolding first
first_gave zero f x e = absurd (let z : ◌≡◌ {A = ℕ} 0 1 = cc in omega arith)
first_gave (suc k) f x e =
    elim (else_some (f zero) (first k (λ i. f (suc i))) x e) [
      | inl here ↦ (zero, omega arith, here)
      | inr there ↦ let found = first_gave k (λ i. f (suc i)) x there in (suc found.0, let l = found.1 in omega arith, found.2)
    ]
