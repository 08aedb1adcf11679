-- Cells of one column: what a right that joins or leaves changes, and how many rights are missing in all.
use Rattle.std.proofs.Common.{◌≡◌, ℕ, ◌*◌, ◌<◌, ◌≤◌, not, T, ◌⊎◌, List, length, get_or, set, inl, inr, arith}
use Rattle.std.specs.Prelude.{sum_by}
use Rattle.std.proofs.lemmas.Grind.{common_steps}
use Rattle.std.proofs.lemmas.List.Sums.{sum_by-le, sum_by-set}
use Rattle.rights.specs.Sets.{nothing, has, add, remove, Within}
use Rattle.rights.proofs.SetLaws.{add_keeps, add_only, remove_only}
use Rattle.rights.proofs.Counting.{lacks, lacks_le, lacks_add_lt}
use Rattle.safety.specs.Rule.{held}

-- r joins the cell of d; r leaves it
abbrev pub join : List ℕ → ℕ → ℕ → List ℕ
join cells d r = set cells d (add (held cells d) r)

abbrev pub leave : List ℕ → ℕ → ℕ → List ℕ
leave cells d r = set cells d (remove (held cells d) r)

-- cell by cell
abbrev pub Below : List ℕ → List ℕ → Type 0
Below a b = (e : ℕ) → Within (held a e) (held b e)

pub join_keeps : (cells : List ℕ) (d r : ℕ) → Below cells (join cells d r)
join_keeps cells d r e q t = grind (arith, common_steps, add_keeps)

join_only : (cells : List ℕ) (d r e q : ℕ) → T (has (held (join cells d r) e) q) → ((e ≡ d) × (q ≡ r)) ⊎ T (has (held cells e) q)
join_only cells d r e q t = grind (arith, common_steps, add_only)

pub leave_below : (cells : List ℕ) (d r : ℕ) → Below (leave cells d r) cells
leave_below cells d r e q t = grind (arith, common_steps, remove_only)

pub below_trans : (a b c : List ℕ) → Below a b → Below b c → Below a c
below_trans a b c f g e q t = g e q (f e q t)

pub join_below : (a b : List ℕ) (d r : ℕ) → Below a b → T (has (held b d) r) → Below (join a d r) b
join_below a b d r f h e q t = elim (join_only a d r e q t) [ inl p ↦ rw (p.0, p.1) h | inr u ↦ f e q u ]

-- how many of the n rights are missing, over all the cells
abbrev pub missing : ℕ → List ℕ → ℕ
missing n cells = sum_by (lacks n) cells

pub missing_le : (n : ℕ) (cells : List ℕ) → missing n cells ≤ length cells * n
missing_le n cells = sum_by-le (lacks n) n cells (λ k d l. lacks_le n (get_or cells k d))

pub missing_join : (n : ℕ) (cells : List ℕ) (d r : ℕ) → d < length cells → r < n → T (not (has (held cells d) r))
    → missing n (join cells d r) < missing n cells
missing_join n cells d r h l t =
    omega (arith, sum_by-set (lacks n) cells d (add (held cells d) r) nothing h, lacks_add_lt n (held cells d) r l t)
