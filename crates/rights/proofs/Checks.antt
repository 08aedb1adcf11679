-- What an accepted or refused check says, and how demands come out.
use Rattle.std.proofs.Common.{◌≡◌, ℕ, ◌<◌, ◌≤◌, Bool, true, false, cond, T, ltb, is_ok, Ok, Err, Result, sym, refl, ap, arith}
use Rattle.std.proofs.lemmas.Bool.{ltb-true, ltb-false}
use Rattle.rights.specs.declared.refusal.Refusal.{Refusal}
use Rattle.rights.specs.declared.refusal.Refusal.TheVariants.{OutOfRange}
use Rattle.rights.specs.Refusals.{checked, demand, settle}

checked_ok_at : (b : Bool) (n m : ℕ) → Ok m ≡ cond b (Ok n) (Err OutOfRange) → (m ≡ n) × (b ≡ true)
checked_ok_at true n m e = (cc, refl)
checked_ok_at false n m e = absurd (let z : ◌≡◌ {A = ℕ} 0 1 = cc in omega arith)

pub checked_ok : (limit n m : ℕ) → Ok m ≡ checked limit n → (m ≡ n) × (n < limit)
checked_ok limit n m e = let p = checked_ok_at (ltb n limit) n m e in (p.0, ltb-true n limit p.1)

checked_err_at : (b : Bool) (n : ℕ) (e : Refusal) → Err e ≡ cond b (Ok n) (Err OutOfRange) → (e ≡ OutOfRange) × (b ≡ false)
checked_err_at false n e h = (cc, refl)
checked_err_at true n e h = absurd (let z : ◌≡◌ {A = ℕ} 0 1 = cc in omega arith)

pub checked_err : (limit n : ℕ) (e : Refusal) → Err e ≡ checked limit n → (e ≡ OutOfRange) × (limit ≤ n)
checked_err limit n e h = let p = checked_err_at (ltb n limit) n e h in (p.0, ltb-false n limit p.1)

pub demand_met : {A : Type 0} (b : Bool) (e : Refusal) (next : Result A Refusal) → b ≡ true → demand b e next ≡ next
demand_met b e next h = ap (λ t. demand t e next) h

pub demand_failed : {A : Type 0} (b : Bool) (e : Refusal) (next : Result A Refusal) → b ≡ false → demand b e next ≡ Err e
demand_failed b e next h = ap (λ t. demand t e next) h

-- what was accepted met its demand
pub demand_ok : {A : Type 0} (b : Bool) (e : Refusal) (next : Result A Refusal) (x : A) → Ok x ≡ demand b e next → (b ≡ true) × (Ok x ≡ next)
demand_ok true e next x h = (refl, h)
demand_ok false e next x h = absurd (let z : ◌≡◌ {A = ℕ} 0 1 = cc in omega arith)

-- accepted, as a statement
pub t_demand : {A : Type 0} (b : Bool) (e : Refusal) (next : Result A Refusal) → T (is_ok (demand b e next)) → T b × T (is_ok next)
t_demand true e next t = (tt, t)
t_demand false e next t = absurd t

pub demand_T : {A : Type 0} (b : Bool) (e : Refusal) (next : Result A Refusal) → T b → T (is_ok next) → T (is_ok (demand b e next))
demand_T true e next t u = u
demand_T false e next t u = absurd t

pub settle_ok : {S A : Type 0} (before : S) (r : Result (S × A) Refusal) → is_ok (settle before r).1 ≡ is_ok r
settle_ok before (Ok done) = refl
settle_ok before (Err e) = refl

pub settle_done : {S A : Type 0} (before : S) (r : Result (S × A) Refusal) (x : A) → (settle before r).1 ≡ Ok x → Ok ((settle before r).0, x) ≡ r
settle_done before (Ok done) x h = let e : done.1 ≡ x = cc in (λ k. Ok (done.0, sym e k))
settle_done before (Err e) x h = absurd (let z : ◌≡◌ {A = ℕ} 0 1 = cc in omega arith)

pub settle_refused : {S A : Type 0} (before : S) (r : Result (S × A) Refusal) (e : Refusal) → (settle before r).1 ≡ Err e → (settle before r).0 ≡ before
settle_refused before (Ok done) e h = absurd (let z : ◌≡◌ {A = ℕ} 0 1 = cc in omega arith)
settle_refused before (Err d) e h = refl
