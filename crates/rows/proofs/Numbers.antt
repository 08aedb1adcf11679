-- Lists of numbers: one more at the end, as a set, and that a list with nothing twice is short.
use Rattle.std.proofs.Common.{◌≡◌, ℕ, ◌+◌, ◌<◌, ◌≤◌, Bool, true, false, not, ◌||◌, T, eqb, ltb, List, [], ◌∷◌, ◌++◌, length, get_or, take, drop, sym, refl, ap, ◌∙◌, subst, inl, inr, arith}
use Rattle.std.proofs.Math.Bool.{or_comm}
use Rattle.std.proofs.lemmas.List.{take_more, take-append-drop}
use Rattle.std.proofs.lemmas.List.Folds.{list_any-append}
use Rattle.std.proofs.lemmas.List.Recursion.{or_push}
use Rattle.std.proofs.lemmas.List.Sums.{AllPass-from_list_all, list_all-from_AllPass}
use Rattle.std.proofs.lemmas.Bool.{and_parts, or_cases, or_parts, or_left, or_right, ltb-true, lt-ltb, eq-eqb, ne_eqb, cases_eq, false≢true}
use Rattle.rights.specs.Sets.{nothing, has, add}
use Rattle.rights.proofs.Digits.{has_none}
use Rattle.rights.proofs.SetLaws.{added, add_comm}
use Rattle.rights.proofs.Counting.{lacks, lacks_le, lacks_add_lt}
use Rattle.rows.specs.Lists.{listed, twice, all_below, set_of}

pub all_below_more : (m n : ℕ) → m ≤ n → (xs : List ℕ) → all_below m xs ≡ true → all_below n xs ≡ true
all_below_more m n l xs h =
    list_all-from_AllPass (λ x. ltb x n) xs (λ k d i. lt-ltb _ n
    (let small = ltb-true (get_or xs k d) m (AllPass-from_list_all (λ x. ltb x m) xs h k d i) in omega arith))

-- the set of a list has what the list has
eqb_comm : (x y : ℕ) → eqb x y ≡ eqb y x
eqb_comm x y = elim (cases_eq x y) [ inl e ↦ eq-eqb x y e ∙ sym (eq-eqb y x (sym e)) | inr ne ↦ ne_eqb x y ne ∙ sym (ne_eqb y x (λ e. ne (sym e))) ]

pub set_of_has : (xs : List ℕ) (x : ℕ) → has (set_of xs) x ≡ listed x xs
set_of_has [] x = has_none x
set_of_has (y ∷ ys) x = added (set_of ys) y x ∙ ap (λ b. b || eqb x y) (set_of_has ys x) ∙ or_comm (listed x ys) (eqb x y)

set_of_push : (xs : List ℕ) (x : ℕ) → set_of (xs ++ x ∷ []) ≡ add (set_of xs) x
set_of_push [] x = refl
set_of_push (y ∷ ys) x = ap (λ s. add s y) (set_of_push ys x) ∙ add_comm (set_of ys) x y

listed_push : (z : ℕ) (xs : List ℕ) (x : ℕ) → listed z (xs ++ x ∷ []) ≡ (listed z xs || eqb z x)
listed_push z xs x = or_push (listed z) (eqb z) refl (λ _ _. refl) xs x

shuffle : (a e t h : Bool) → ((a || e) || (t || h)) ≡ ((a || t) || (e || h))
shuffle true e t h = refl
shuffle false true true h = refl
shuffle false true false h = refl
shuffle false false t h = refl

pub twice_push : (xs : List ℕ) (x : ℕ) → twice (xs ++ x ∷ []) ≡ (twice xs || listed x xs)
twice_push [] x = refl
twice_push (y ∷ ys) x =
    ap (λ b. b || twice (ys ++ x ∷ [])) (listed_push y ys x) ∙ ap (λ b. (listed y ys || eqb y x) || b) (twice_push ys x)
    ∙ shuffle (listed y ys) (eqb y x) (twice ys) (listed x ys) ∙ ap (λ b. (listed y ys || twice ys) || (b || listed x ys)) (eqb_comm y x)

twice_front : (xs ys : List ℕ) → twice xs ≡ true → twice (xs ++ ys) ≡ true
twice_front [] ys h = absurd (false≢true h)
twice_front (x ∷ xs) ys h =
    elim (or_cases (listed x xs) (twice xs) h) [
      | inl e ↦ or_left (listed x (xs ++ ys)) (twice (xs ++ ys)) (list_any-append (eqb x) xs ys ∙ or_left (listed x xs) (listed x ys) e)
      | inr e ↦ or_right (listed x (xs ++ ys)) (twice (xs ++ ys)) (twice_front xs ys e)
    ]

-- a loop over the list: at a number that is in the set of those passed, and at a new one
module _ (xs : List ℕ) (i x all : ℕ) (l : i < length xs) (is : x ≡ get_or xs i 0) (set : all ≡ set_of (take i xs)) where
  next : take (i + 1) xs ≡ take i xs ++ x ∷ []
  next = take_more xs i 0 l ∙ ap (λ y. take i xs ++ y ∷ []) (sym is)

  passed : has all x ≡ listed x (take i xs)
  passed = ap (λ s. has s x) set ∙ set_of_has (take i xs) x

  pub twice_found : has all x ≡ true → twice xs ≡ true
  twice_found h =
      let here = ap twice next ∙ twice_push (take i xs) x ∙ or_right (twice (take i xs)) (listed x (take i xs)) (sym passed ∙ h) in
      ap twice (sym (take-append-drop (i + 1) xs)) ∙ twice_front (take (i + 1) xs) (drop (i + 1) xs) here

  pub twice_not_yet : has all x ≡ false → twice (take i xs) ≡ false → twice (take (i + 1) xs) ≡ false
  twice_not_yet h none =
      ap twice next ∙ twice_push (take i xs) x ∙ ap (λ b. b || listed x (take i xs)) none ∙ sym passed ∙ h

  pub set_grows : add all x ≡ set_of (take (i + 1) xs)
  set_grows = ap (λ s. add s x) set ∙ sym (set_of_push (take i xs) x) ∙ ap set_of (sym next)

-- a list of numbers below n with nothing twice has at most n places
apart_few : (n : ℕ) (xs : List ℕ) → all_below n xs ≡ true → twice xs ≡ false → length xs + lacks n (set_of xs) ≤ n
apart_few n [] b a = omega (arith, lacks_le n nothing)
apart_few n (x ∷ xs) b a =
    let p = and_parts (ltb x n) (all_below n xs) b in
    let q = or_parts (listed x xs) (twice xs) a in
    let new = subst (λ t. T (not t)) (sym (set_of_has xs x ∙ q.0)) tt in
    omega (arith, apart_few n xs p.1 q.1, lacks_add_lt n (set_of xs) x (ltb-true x n p.0) new)

pub apart_short : (n : ℕ) (xs : List ℕ) → all_below n xs ≡ true → twice xs ≡ false → length xs ≤ n
apart_short n xs b a = let few = apart_few n xs b a in omega arith
