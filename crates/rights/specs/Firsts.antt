-- The first that a search by number comes upon.
use Rattle.std.specs.Prelude.{ℕ, zero, suc, Some, None, Option}

abbrev pub or_else : {A : Type 0} → Option A → Option A → Option A
or_else None other = other
or_else (Some x) other = Some x

-- the first that f gives at 0, 1, .. below k
unfoldable pub first : {A : Type 0} → ℕ → (ℕ → Option A) → Option A
first zero f = None
first (suc k) f = let later = first k (λ i. f (suc i)) in or_else (f zero) later
