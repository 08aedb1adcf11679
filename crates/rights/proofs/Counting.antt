-- How many rights a set lacks: the measure of whatever only adds rights.
use Rattle.std.proofs.Common.{ℕ, zero, suc, ◌+◌, ◌<◌, ◌≤◌, Bool, true, false, cond, not, T, subst, inl, inr, arith}
use Rattle.std.proofs.lemmas.Bool.{cases_eq}
use Rattle.rights.specs.Sets.{has, add}
use Rattle.rights.proofs.SetLaws.{add_has, add_keeps}

-- how many of the rights below n are not in the set
pub lacks : ℕ → ℕ → ℕ
lacks zero H = 0
lacks (suc n) H = lacks n H + cond (has H n) 0 1

one_at_most : (b : Bool) → cond b 0 1 ≤ 1
one_at_most true = omega arith
one_at_most false = omega arith

pub lacks_le : (n H : ℕ) → lacks n H ≤ n
unfolding lacks
lacks_le zero H = omega arith
lacks_le (suc n) H = omega (arith, lacks_le n H, one_at_most (has H n))

fewer : (a b : Bool) → (T b → T a) → cond a 0 1 ≤ cond b 0 1
fewer true b f = omega arith
fewer false true f = absurd (f tt)
fewer false false f = omega arith

lacks_add_le : (n H r : ℕ) → lacks n (add H r) ≤ lacks n H
unfolding lacks
lacks_add_le zero H r = omega arith
lacks_add_le (suc n) H r = omega (arith, lacks_add_le n H r, fewer (has (add H r) n) (has H n) (add_keeps H r n))

one_less : (a b : Bool) → T a → T (not b) → cond a 0 1 < cond b 0 1
one_less true false t u = omega arith
one_less true true t u = absurd u
one_less false b t u = absurd t

pub lacks_add_lt : (n H r : ℕ) → r < n → T (not (has H r)) → lacks n (add H r) < lacks n H
unfolding lacks
lacks_add_lt zero H r h t = absurd (omega arith)
lacks_add_lt (suc n) H r h t =
    elim (cases_eq r n) [
      | inl e ↦ omega (arith, lacks_add_le n H r, subst (λ x. cond (has (add H r) x) 0 1 < cond (has H x) 0 1) e (one_less (has (add H r) r) (has H r) (add_has H r) t))
      | inr ne ↦ let l : r < n = omega arith in
          omega (arith, lacks_add_lt n H r l t, fewer (has (add H r) n) (has H n) (add_keeps H r n))
    ]
