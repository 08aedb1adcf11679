-- What a digit of a number says, over any width.
use Rattle.std.proofs.Common.{◌≡◌, ℕ, zero, suc, ◌+◌, ◌-◌, ◌*◌, ◌/◌, ◌%◌, ◌^◌, ◌<◌, ◌≤◌, Bool, true, false, cond, not, ◌&&◌, ◌||◌, T, eqb, sym, refl, ap, ◌∙◌, subst, inl, inr, pow-suc, one-add, arith, pow_pos, pow_mono, pow-add, shr-shr}
use native.Mathlib.Nat.{mul-mod_left, div_self, div-eq_of_lt, zero-div}
use lib.Bits.{bit_and, bit_or, bit_xor, and_shr, and_mod, or_shr, or_mod, xor_shr, xor_mod}
use lib.Pow.{shl-shr}
use Rattle.std.proofs.lemmas.Nat.{mod_below, pow_below}
use Rattle.std.proofs.lemmas.Bool.{cases_order, eq-eqb, ne_eqb}
use Rattle.rights.specs.Sets.{has}

-- An operation on numbers that goes digit by digit is known by what it does to one digit.
module _ (op : ℕ → ℕ → ℕ) (on : Bool → Bool → Bool)
    (shr : (a b k : ℕ) → op a b / 2 ^ k ≡ op (a / 2 ^ k) (b / 2 ^ k)) (low : (a b k : ℕ) → op a b % 2 ^ k ≡ op (a % 2 ^ k) (b % 2 ^ k))
    (at00 : eqb (op 0 0) 1 ≡ on false false) (at01 : eqb (op 0 1) 1 ≡ on false true) (at10 : eqb (op 1 0) 1 ≡ on true false)
    (at11 : eqb (op 1 1) 1 ≡ on true true) where
  digit : (x y : ℕ) → x < 2 → y < 2 → eqb (op x y) 1 ≡ on (eqb x 1) (eqb y 1)
  digit zero zero p q = at00
  digit zero (suc zero) p q = at01
  digit zero (suc (suc y)) p q = absurd (omega arith)
  digit (suc zero) zero p q = at10
  digit (suc zero) (suc zero) p q = at11
  digit (suc zero) (suc (suc y)) p q = absurd (omega arith)
  digit (suc (suc x)) y p q = absurd (omega arith)

  has_op : (a b r : ℕ) → has (op a b) r ≡ on (has a r) (has b r)
  unfolding has
  has_op a b r =
      let e : op a b / 2 ^ r % 2 ≡ op (a / 2 ^ r % 2) (b / 2 ^ r % 2)
      = ap (λ x. x % 2) (shr a b r) ∙ low (a / 2 ^ r) (b / 2 ^ r) 1 in
      ap (λ x. eqb x 1) e ∙ digit (a / 2 ^ r % 2) (b / 2 ^ r % 2) (mod_below (a / 2 ^ r) 2 (omega arith)) (mod_below (b / 2 ^ r) 2 (omega arith))

-- one of the two and not both
abbrev pub one_of : Bool → Bool → Bool
one_of a b = cond a (not b) b

pub has_and : (a b r : ℕ) → has (bit_and a b) r ≡ (has a r && has b r)
has_and = has_op bit_and (λ x y. x && y) and_shr and_mod refl refl refl refl

pub has_or : (a b r : ℕ) → has (bit_or a b) r ≡ (has a r || has b r)
has_or = has_op bit_or (λ x y. x || y) or_shr or_mod refl refl refl refl

pub has_xor : (a b r : ℕ) → has (bit_xor a b) r ≡ one_of (has a r) (has b r)
has_xor = has_op bit_xor one_of xor_shr xor_mod refl refl refl refl

pub has_none : (r : ℕ) → has 0 r ≡ false
unfolding has
has_none r = ap (λ x. eqb (x % 2) 1) (zero-div (2 ^ r))

-- the power of two alone
one_below : (q r : ℕ) → q < r → 2 ^ r / 2 ^ q % 2 ≡ 0
one_below q r h =
    let j = r - suc q in
    let e : r ≡ suc j + q = omega arith in
    let f : 2 ^ r / 2 ^ q ≡ 2 ^ j * 2
    = ap (λ x. 2 ^ x / 2 ^ q) e ∙ ap (λ x. x / 2 ^ q) (pow-add 2 (suc j) q) ∙ shl-shr (2 ^ suc j) q ∙ pow-suc 2 j in
    ap (λ x. x % 2) f ∙ mul-mod_left (2 ^ j) 2

one_same : (r : ℕ) → 2 ^ r / 2 ^ r % 2 ≡ 1
one_same r = ap (λ x. x % 2) (div_self (pow_pos r))

one_above : (q r : ℕ) → r < q → 2 ^ r / 2 ^ q % 2 ≡ 0
one_above q r h = ap (λ x. x % 2) (div-eq_of_lt (pow_below r q h))

pub has_one : (r q : ℕ) → has (2 ^ r) q ≡ eqb q r
unfolding has
has_one r q =
    elim (cases_order q r) [
      | inl e ↦ ap (λ x. eqb (2 ^ r / 2 ^ x % 2) 1) e ∙ ap (λ x. eqb x 1) (one_same r) ∙ sym (eq-eqb q r e)
      | inr o ↦ elim o [
        | inl h ↦ ap (λ x. eqb x 1) (one_below q r h) ∙ sym (ne_eqb q r (λ e. omega arith))
        | inr h ↦ ap (λ x. eqb x 1) (one_above q r h) ∙ sym (ne_eqb q r (λ e. omega arith))
      ]
    ]

-- past the width there is nothing
pub has_past : (w a r : ℕ) → a < 2 ^ w → w ≤ r → has a r ≡ false
unfolding has
has_past w a r h l =
    let le : 2 ^ w ≤ 2 ^ r = pow_mono l in
    ap (λ x. eqb (x % 2) 1) (div-eq_of_lt (omega arith))

-- the lowest digit, and the digits above it
pub has_half : (a r : ℕ) → has (a / 2) r ≡ has a (suc r)
unfolding has
has_half a r = ap (λ x. eqb (x % 2) 1) (shr-shr a 1 r ∙ ap (λ x. a / 2 ^ x) (one-add r))

same_digits : (x y : ℕ) → x < 2 → y < 2 → eqb x 1 ≡ eqb y 1 → x ≡ y
same_digits zero zero p q e = refl
same_digits zero (suc zero) p q e = absurd (subst T (sym e) tt)
same_digits zero (suc (suc y)) p q e = absurd (omega arith)
same_digits (suc zero) zero p q e = absurd (subst T e tt)
same_digits (suc zero) (suc zero) p q e = refl
same_digits (suc zero) (suc (suc y)) p q e = absurd (omega arith)
same_digits (suc (suc x)) y p q e = absurd (omega arith)

has_lowest : (a b : ℕ) → has a 0 ≡ has b 0 → a % 2 ≡ b % 2
unfolding has
has_lowest a b e =
    let p : a / 1 % 2 ≡ b / 1 % 2 = same_digits (a / 1 % 2) (b / 1 % 2) (mod_below (a / 1) 2 (omega arith)) (mod_below (b / 1) 2 (omega arith)) e in
    omega arith

-- two numbers with the same digits are one
same_from : (n a b : ℕ) → a ≤ n → b ≤ n → ((r : ℕ) → has a r ≡ has b r) → a ≡ b
same_from zero a b p q h = omega arith
same_from (suc n) a b p q h =
    let halves : a / 2 ≡ b / 2 = same_from n (a / 2) (b / 2) (omega arith) (omega arith) (λ r. has_half a r ∙ h (suc r) ∙ sym (has_half b r)) in
    let low = has_lowest a b (h 0) in
    omega arith

pub same_rights : (a b : ℕ) → ((r : ℕ) → has a r ≡ has b r) → a ≡ b
same_rights a b h = same_from (a + b) a b (omega arith) (omega arith) h
