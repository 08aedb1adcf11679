-- A search that may come upon something: what is known where it does not, and of what it comes upon.
use Rattle.std.proofs.Common.{◌≡◌, ℕ, zero, suc, ◌<◌, Some, None, Option, refl, le_of_suc-le-suc, not-suc-le-zero, arith}
use Rattle.rights.specs.Firsts.{first, or_else}

-- N where there is none, P of what there is
abbrev pub Split : {A : Type 0} → Option A → Type 0 → (A → Type 0) → Type 0
Split None N P = N
Split (Some x) N P = P x

pub split_none : {A : Type 0} (o : Option A) (N L : Type 0) (P : A → Type 0) → (N → L) → Split o N P → Split o L P
split_none None N L P f h = f h
split_none (Some x) N L P f h = h

-- the equation that leads to each case
pub split_is : {A : Type 0} (o : Option A) (N : Type 0) (P : A → Type 0) → Split o N P → Split o ((o ≡ None) × N) P
split_is None N P h = (refl, h)
split_is (Some x) N P h = h

-- the second search knows that the first came upon nothing
pub or_else_split : {A : Type 0} (a b : Option A) (N L : Type 0) (P : A → Type 0)
    → Split a N P → (N → Split b L P) → Split (or_else a b) (N × L) P
or_else_split None None N L P h k = (h, k h)
or_else_split None (Some y) N L P h k = k h
or_else_split (Some x) b N L P h k = h

all_below : (N : ℕ → Type 0) (k : ℕ) → N zero × ((i : ℕ) → i < k → N (suc i)) → (i : ℕ) → i < suc k → N i
all_below N k h zero l = h.0
all_below N k h (suc i) l = h.1 i (le_of_suc-le-suc l)

-- a search by number, which at each number knows that the lower ones gave nothing
pub first_split : {A : Type 0} (k : ℕ) (f : ℕ → Option A) (N : ℕ → Type 0) (P : A → Type 0)
    → ((i : ℕ) → i < k → ((j : ℕ) → j < i → N j) → Split (f i) (N i) P) → Split (first k f) ((i : ℕ) → i < k → N i) P
unfolding first
first_split zero f N P h = λ i l. absurd (not-suc-le-zero l)
first_split (suc k) f N P h =
    split_none (first (suc k) f) (N zero × ((i : ℕ) → i < k → N (suc i))) ((i : ℕ) → i < suc k → N i) P (all_below N k)
    (or_else_split (f zero) (first k (λ i. f (suc i))) (N zero) ((i : ℕ) → i < k → N (suc i)) P
    (h zero (omega arith) (λ j l. absurd (not-suc-le-zero l)))
    (λ none. first_split k (λ i. f (suc i)) (λ i. N (suc i)) P (λ i l lower. h (suc i) (omega arith) (all_below N i (none, lower)))))
