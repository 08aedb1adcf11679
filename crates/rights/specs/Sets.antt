-- A set of rights, as a number: right r is in it where its binary digit r is 1.
-- Nothing here fixes how many rights there are: where it matters, the width w is a parameter.
use Rattle.std.specs.Prelude.{◌≡◌, ℕ, zero, suc, ◌/◌, ◌%◌, ◌^◌, ◌<◌, Bool, false, cond, not, ◌&&◌, ◌||◌, T, Some, None, Option, ◌==◌, bit_and, bit_or, bit_xor}
use Rattle.rights.specs.Firsts.{first}

-- the set without any right
abbrev pub nothing : ℕ
nothing = 0

-- is r in the set?
unfoldable pub has : ℕ → ℕ → Bool
has rights r = rights / 2 ^ r % 2 == 1

-- the set with r
unfoldable pub add : ℕ → ℕ → ℕ
add rights r = bit_or rights (2 ^ r)

-- the set without r
unfoldable pub remove : ℕ → ℕ → ℕ
remove rights r = cond (has rights r) (bit_xor rights (2 ^ r)) rights

-- what is in one of the two
unfoldable pub either : ℕ → ℕ → ℕ
either a b = bit_or a b

-- is each right of the first set in the second?
unfoldable pub inside : ℕ → ℕ → Bool
inside small large = bit_and small large == small

-- the same as a statement
abbrev pub Within : ℕ → ℕ → Type 0
Within small large = (r : ℕ) → T (has small r) → T (has large r)

-- the rights below k
unfoldable pub below : ℕ → ℕ
below zero = nothing
below (suc k) = add (below k) k

-- the lowest right of the set, among those below w
abbrev pub lowest_right : ℕ → ℕ → Option ℕ
lowest_right w rights = first w (λ r. cond (has rights r) (Some r) None)

-- the set without that right
abbrev pub leave_out : ℕ → Option ℕ → ℕ
leave_out rights None = rights
leave_out rights (Some r) = remove rights r

-- What these come to, whatever the digits: a set is known by its rights.
pub record SetLaws : Type 0 where
  pub none : (q : ℕ) → has nothing q ≡ false
  pub added : (rights r q : ℕ) → has (add rights r) q ≡ (has rights q || q == r)
  pub removed : (rights r q : ℕ) → has (remove rights r) q ≡ (has rights q && not (q == r))
  pub joined : (a b q : ℕ) → has (either a b) q ≡ (has a q || has b q)
  pub within : (small large : ℕ) → T (inside small large) → Within small large
  pub covered : (small large : ℕ) → Within small large → T (inside small large)
  pub initial : (k q : ℕ) → T (has (below k) q) → q < k
  pub filled : (k q : ℕ) → q < k → T (has (below k) q)
  -- in w digits there are only rights below w
  pub narrow : (w rights q : ℕ) → rights < 2 ^ w → T (has rights q) → q < w
  -- sets with the same rights are one set
  pub same : (a b : ℕ) → ((q : ℕ) → has a q ≡ has b q) → a ≡ b
