-- The laws of sets of rights: all that other proofs know of them.
use Rattle.std.proofs.Common.{◌≡◌, ℕ, zero, suc, ◌^◌, ◌<◌, ◌≤◌, Bool, true, false, cond, not, ◌&&◌, ◌||◌, T, eqb, ◌⊎◌, sym, refl, ap, ◌∙◌, subst, inl, inr, arith, eqb→eq}
use mathlib.Core.Bool.{or_assoc}
use lib.Bits.{bit_and, bit_xor, and_le_r, or_zero_l, or_zero_r}
use lib.Dec.{eqb_refl}
use Rattle.std.proofs.lemmas.Bool.{cases_lt, cases_eq, eq-eqb, ne_eqb}
use Rattle.rights.specs.Sets.{nothing, has, add, remove, either, inside, Within, below, SetLaws}
use Rattle.rights.proofs.Truth.{t_or, or_T_left, or_T_right, T_and}
use Rattle.rights.proofs.Digits.{one_of, has_and, has_or, has_xor, has_none, has_one, has_past, same_rights}

pub added : (H r q : ℕ) → has (add H r) q ≡ (has H q || eqb q r)
unfolding add
added H r q = has_or H (2 ^ r) q ∙ ap (λ b. has H q || b) (has_one r q)

pub joined : (a b q : ℕ) → has (either a b) q ≡ (has a q || has b q)
unfolding either
joined a b q = has_or a b q

-- with h = has H q
flip_same : (h : Bool) → h ≡ true → one_of h true ≡ (h && false)
flip_same true e = refl
flip_same false e = sym e

flip_other : (h : Bool) → one_of h false ≡ (h && true)
flip_other true = refl
flip_other false = refl

keep_same : (h : Bool) → h ≡ false → h ≡ (h && false)
keep_same true e = e
keep_same false e = refl

keep_other : (h : Bool) → h ≡ (h && true)
keep_other true = refl
keep_other false = refl

removed_at : (H r q : ℕ) (b : Bool) → has H r ≡ b → has (cond b (bit_xor H (2 ^ r)) H) q ≡ (has H q && not (eqb q r))
removed_at H r q true e =
    has_xor H (2 ^ r) q ∙ ap (one_of (has H q)) (has_one r q)
    ∙ elim (cases_eq q r) [
      | inl p ↦ subst (λ b. one_of (has H q) b ≡ (has H q && not b)) (sym (eq-eqb q r p)) (flip_same (has H q) (ap (has H) p ∙ e))
      | inr n ↦ subst (λ b. one_of (has H q) b ≡ (has H q && not b)) (sym (ne_eqb q r n)) (flip_other (has H q))
    ]
removed_at H r q false e =
    elim (cases_eq q r) [
      | inl p ↦ subst (λ b. has H q ≡ (has H q && not b)) (sym (eq-eqb q r p)) (keep_same (has H q) (ap (has H) p ∙ e))
      | inr n ↦ subst (λ b. has H q ≡ (has H q && not b)) (sym (ne_eqb q r n)) (keep_other (has H q))
    ]

pub removed : (H r q : ℕ) → has (remove H r) q ≡ (has H q && not (eqb q r))
unfolding remove
removed H r q = removed_at H r q (has H r) refl

pub inside_within : (small large : ℕ) → T (inside small large) → Within small large
unfolding inside
inside_within small large t r h =
    let e = eqb→eq (bit_and small large) small t in
    (T_and (has small r) (has large r) (subst T (has_and small large r) (subst (λ x. T (has x r)) (sym e) h))).1

and_when : (x y : Bool) → (T x → T y) → (x && y) ≡ x
and_when true true f = refl
and_when true false f = absurd (f tt)
and_when false y f = refl

within_and : (small large : ℕ) → Within small large → bit_and small large ≡ small
within_and small large h =
    same_rights (bit_and small large) small (λ r. has_and small large r ∙ and_when (has small r) (has large r) (h r))

pub within_inside : (small large : ℕ) → Within small large → T (inside small large)
unfolding inside
within_inside small large h = subst (λ x. T (eqb x small)) (sym (within_and small large h)) (eqb_refl small)

-- a part is no larger a number than the whole
pub within_le : (small large : ℕ) → Within small large → small ≤ large
within_le small large h = omega (arith, within_and small large h, and_le_r small large)

-- membership after a change, as statements
pub add_has : (H r : ℕ) → T (has (add H r) r)
add_has H r = rw (added H r r) (or_T_right (has H r) (eqb r r) (eqb_refl r))

pub add_keeps : (H r q : ℕ) → T (has H q) → T (has (add H r) q)
add_keeps H r q t = rw (added H r q) (or_T_left (has H q) (eqb q r) t)

pub add_only : (H r q : ℕ) → T (has (add H r) q) → (q ≡ r) ⊎ T (has H q)
add_only H r q t =
    elim (t_or (has H q) (eqb q r) (rw (added H r q) at t)) [ inl h ↦ inr h | inr h ↦ inl (eqb→eq q r h) ]

pub remove_only : (H r q : ℕ) → T (has (remove H r) q) → T (has H q)
remove_only H r q t = (T_and (has H q) (not (eqb q r)) (rw (removed H r q) at t)).0

pub remove_gone : (H r : ℕ) → T (has (remove H r) r) → ⊥
remove_gone H r t =
    let u = (T_and (has H r) (not (eqb r r)) (rw (removed H r r) at t)).1 in
    subst (λ b. T (not b)) (eq-eqb r r refl) u

-- taking a right out makes the number smaller
pub remove_lt : (H r : ℕ) → T (has H r) → remove H r < H
remove_lt H r t =
    let le = within_le (remove H r) H (remove_only H r) in
    elim (cases_eq (remove H r) H) [
      | inl e ↦ absurd (remove_gone H r (subst (λ x. T (has x r)) (sym e) t))
      | inr ne ↦ omega arith
    ]

pub none_has : (q : ℕ) → T (has nothing q) → ⊥
none_has q t = subst T (has_none q) t

-- sets side by side
pub either_within : (a b c d : ℕ) → Within a c → Within b d → Within (either a b) (either c d)
either_within a b c d f g r t =
    subst T (sym (joined c d r))
    (elim (t_or (has a r) (has b r) (subst T (joined a b r) t)) [
      | inl h ↦ or_T_left (has c r) (has d r) (f r h)
      | inr h ↦ or_T_right (has c r) (has d r) (g r h)
    ])

pub either_assoc : (a b c : ℕ) → either (either a b) c ≡ either a (either b c)
either_assoc a b c =
    same_rights (either (either a b) c) (either a (either b c)) (λ q.
    joined (either a b) c q ∙ ap (λ x. x || has c q) (joined a b q) ∙ or_assoc (has a q) (has b q) (has c q)
    ∙ ap (λ x. has a q || x) (sym (joined b c q)) ∙ sym (joined a (either b c) q))

pub either_none : (a : ℕ) → either nothing a ≡ a
unfolding either
either_none a = or_zero_l a

pub none_either : (a : ℕ) → either a nothing ≡ a
unfolding either
none_either a = or_zero_r a

swap_last : (a b c : Bool) → ((a || b) || c) ≡ ((a || c) || b)
swap_last true b c = refl
swap_last false true true = refl
swap_last false true false = refl
swap_last false false true = refl
swap_last false false false = refl

pub add_comm : (H r q : ℕ) → add (add H r) q ≡ add (add H q) r
add_comm H r q =
    same_rights (add (add H r) q) (add (add H q) r) (λ x.
    added (add H r) q x ∙ ap (λ b. b || eqb x q) (added H r x) ∙ swap_last (has H x) (eqb x r) (eqb x q)
    ∙ ap (λ b. b || eqb x r) (sym (added H q x)) ∙ sym (added (add H q) r x))

-- a set given under a condition
pub when_within : (a b : Bool) (gives : ℕ) → (T a → T b) → Within (cond a gives nothing) (cond b gives nothing)
when_within true true gives f r t = t
when_within true false gives f r t = absurd (f tt)
when_within false b gives f r t = absurd (none_has r t)

pub initial : (k q : ℕ) → T (has (below k) q) → q < k
unfolding below
initial zero q t = absurd (none_has q t)
initial (suc k) q t =
    elim (add_only (below k) k q t) [ inl e ↦ omega arith | inr u ↦ let l = initial k q u in omega arith ]

pub filled : (k q : ℕ) → q < k → T (has (below k) q)
unfolding below
filled zero q l = absurd (omega arith)
filled (suc k) q l =
    elim (cases_eq q k) [
      | inl e ↦ subst (λ x. T (has (add (below k) k) x)) (sym e) (add_has (below k) k)
      | inr ne ↦ add_keeps (below k) k q (filled k q (omega arith))
    ]

pub narrow : (w H q : ℕ) → H < 2 ^ w → T (has H q) → q < w
narrow w H q fits t =
    elim (cases_lt q w) [ inl l ↦ l | inr past ↦ absurd (subst T (has_past w H q fits past) t) ]

pub set_laws : SetLaws
set_laws = record {
  none = has_none;
  added = added;
  removed = removed;
  joined = joined;
  within = inside_within;
  covered = within_inside;
  initial = initial;
  filled = filled;
  narrow = narrow;
  same = same_rights;
}
