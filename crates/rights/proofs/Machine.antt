-- The words of a program against the sets of the definitions: one law each, over the width w.
use Rattle.std.proofs.Common.{◌≡◌, ℕ, zero, suc, ◌-◌, ◌*◌, ◌/◌, ◌%◌, ◌^◌, ◌<◌, Bool, true, false, cond, T, eqb, Some, None, sym, refl, ap, ◌∙◌, subst, ⊎_elim, pow-suc, arith}
use lib.Bits.{bit_and, bit_or, bit_xor, and_mask, or_shifted_r}
use lib.Count.{count_trailing_zeros, under}
use Rattle.std.proofs.lemmas.Nat.{one_shl, pow_pos}
use Rattle.std.proofs.lemmas.Bool.{cases_eq, cases_lt, eq-eqb, ne_eqb, both_ways}
use Rattle.rights.specs.Sets.{has, add, remove, below, nothing, lowest_right}
use Rattle.rights.proofs.Digits.{has_half, has_none, has_past}
use Rattle.rights.proofs.Found.{first_is, first_is_none, first_gave}

-- `(set >> r) & 1 == 1`
pub has_word : (set r : ℕ) → eqb (bit_and (set / 2 ^ r) 1) 1 ≡ has set r
unfolding has
has_word set r = ap (λ x. eqb x 1) (and_mask (set / 2 ^ r) 1)

-- `set | (1 << r)`
pub add_word : (w set r : ℕ) → r < w → bit_or set ((1 * 2 ^ r) % 2 ^ w) ≡ add set r
unfolding add
add_word w set r l = ap (bit_or set) (one_shl r w l)

-- `set ^ (1 << r)` where r is in it
pub remove_word : (w set r : ℕ) → r < w → has set r ≡ true → bit_xor set ((1 * 2 ^ r) % 2 ^ w) ≡ remove set r
unfolding remove
remove_word w set r l e = ap (bit_xor set) (one_shl r w l) ∙ ap (λ b. cond b (bit_xor set (2 ^ r)) set) (sym e)

pub remove_absent : (set r : ℕ) → has set r ≡ false → set ≡ remove set r
unfolding remove
remove_absent set r e = ap (λ b. cond b (bit_xor set (2 ^ r)) set) (sym e)

-- `(1 << r) - 1`
below_power : (k : ℕ) → below k ≡ 2 ^ k - 1
unfolding below add
below_power zero = refl
below_power (suc k) =
    let some = pow_pos k in
    ap (λ x. bit_or x (2 ^ k)) (below_power k) ∙ (let e : 1 * 2 ^ k ≡ 2 ^ k = omega arith in
    let joint = ap (bit_or (2 ^ k - 1)) (sym e) ∙ or_shifted_r 1 k (2 ^ k - 1) (omega arith) in
    omega (arith, pow-suc 2 k))

pub below_word : (w r : ℕ) → r < w → (1 * 2 ^ r) % 2 ^ w - 1 ≡ below r
below_word w r l = ap (λ x. x - 1) (one_shl r w l) ∙ sym (below_power r)

-- `set.trailing_zeros()`
below_half : (w a : ℕ) → a < 2 ^ suc w → a / 2 < 2 ^ w
below_half w a h = omega (arith, pow-suc 2 w)

under_zero : (d t : ℕ) → d ≡ 0 → under d t ≡ suc t
under_zero zero t e = refl
under_zero (suc d) t e = absurd (omega arith)

under_one : (d t : ℕ) → 0 < d → under d t ≡ 0
under_one zero t h = absurd (omega arith)
under_one (suc d) t h = refl

has_zero : (a : ℕ) → has a 0 ≡ eqb (a % 2) 1
unfolding has
has_zero a = let e : a / 1 % 2 ≡ a % 2 = omega arith in ap (λ x. eqb x 1) e

trailing_in : (w a : ℕ) → 0 < a → a < 2 ^ w → has a (count_trailing_zeros w a) ≡ true
unfolding count_trailing_zeros
trailing_in zero a p h = absurd (omega arith)
trailing_in (suc w) a p h =
    ⊎_elim
    (λ e. ap (has a) (under_zero (a % 2) _ e) ∙ sym (has_half a _) ∙ trailing_in w (a / 2) (omega arith) (below_half w a h))
    (λ ne. ap (has a) (under_one (a % 2) _ (omega arith)) ∙ has_zero a ∙ eq-eqb (a % 2) 1 (omega arith))
    (cases_eq (a % 2) 0)

trailing_below : (w a k : ℕ) → k < count_trailing_zeros w a → has a k ≡ false
unfolding count_trailing_zeros
trailing_below zero a k h = absurd (omega arith)
trailing_below (suc w) a zero h =
    ⊎_elim
    (λ e. has_zero a ∙ ne_eqb (a % 2) 1 (λ q. omega arith))
    (λ ne. absurd (let z = under_one (a % 2) (count_trailing_zeros w (a / 2)) (omega arith) in omega arith))
    (cases_eq (a % 2) 0)
trailing_below (suc w) a (suc k) h =
    ⊎_elim
    (λ e. sym (has_half a k) ∙ trailing_below w (a / 2) k (let z = under_zero (a % 2) (count_trailing_zeros w (a / 2)) e in omega arith))
    (λ ne. absurd (let z = under_one (a % 2) (count_trailing_zeros w (a / 2)) (omega arith) in omega arith))
    (cases_eq (a % 2) 0)

pub trailing_lt : (w a : ℕ) → 0 < a → a < 2 ^ w → count_trailing_zeros w a < w
trailing_lt w a p h =
    ⊎_elim (λ l. l) (λ past. absurd (both_ways _ (has_past w a _ h past) (trailing_in w a p h))) (cases_lt (count_trailing_zeros w a) w)

-- what a search by number gives where r is in the set, and where it is not
chosen : (a r : ℕ) (b : Bool) → has a r ≡ b → cond (has a r) (Some r) None ≡ cond b (Some r) None
chosen a r b e = ap (λ x. cond x (Some r) None) e

pub lowest_word : (w a : ℕ) → 0 < a → a < 2 ^ w → lowest_right w a ≡ Some (count_trailing_zeros w a)
lowest_word w a p h =
    first_is w _ (count_trailing_zeros w a) (count_trailing_zeros w a) (trailing_lt w a p h) (chosen a (count_trailing_zeros w a) true (trailing_in w a p h))
    (λ k l. chosen a k false (trailing_below w a k l))

pub lowest_none : (w : ℕ) → lowest_right w nothing ≡ None
lowest_none w = first_is_none w _ (λ r l. chosen nothing r false (has_none r))

-- what the lowest is, if there is one
chosen_in : (r q : ℕ) (b : Bool) → cond b (Some q) None ≡ Some r → (q ≡ r) × T b
chosen_in r q true e = (cc, tt)
chosen_in r q false e = absurd (let z : ◌≡◌ {A = ℕ} 0 1 = cc in omega arith)

pub lowest_in : (w a r : ℕ) → lowest_right w a ≡ Some r → T (has a r)
lowest_in w a r e =
    let found = first_gave w (λ q. cond (has a q) (Some q) None) r e in
    let here = chosen_in r found.0 (has a found.0) found.2 in
    subst (λ q. T (has a q)) here.0 here.1
