-- Where names stand, in a list of names and in a longer one, and lists in which no name stands twice.
use Rattle.std.proofs.Common.{◌≡◌, ℕ, zero, suc, ◌+◌, ◌<◌, false, ◌||◌, T, eqb, ◌⊎◌, List, [], ◌∷◌, ◌++◌, length, get_or, is_some, Some, None, Option, sym, refl, ap, ◌∙◌, subst, inl, inr, append-nil, arith, eqb→eq}
use Rattle.std.proofs.lemmas.List.{length-append, get_or_append_left, get_or-append-add}
use Rattle.std.proofs.lemmas.Bool.{or_parts, eq-eqb}
use Rattle.rights.specs.Sets.{has}
use Rattle.rights.proofs.Truth.{T_true, t_or, or_T_left, or_T_right}
use Rattle.rows.specs.Lists.{listed, set_of}
use Rattle.rows.proofs.Numbers.{set_of_has}
use Rattle.entries.specs.Lookup.{place_of}
use Rattle.entries.proofs.Places.{found_first, found_none}
use Rattle.meaning.specs.Declarations.{taken}
use Rattle.meaning.specs.Means.{Exactly, In, Stands, Apart, NamesOne}

-- in a list, by place
pub in_at : {A : Type 0} (xs : List A) (k : ℕ) (d : A) → k < length xs → In (get_or xs k d) xs
in_at [] k d l = absurd (omega arith)
in_at (x ∷ xs) zero d l = inl refl
in_at (x ∷ xs) (suc k) d l = inr (in_at xs k d (omega arith))

pub place_in : {A : Type 0} (x d : A) (xs : List A) → In x xs → (k : ℕ) × (k < length xs) × (get_or xs k d ≡ x)
place_in x d [] i = absurd i
place_in x d (y ∷ ys) (inl e) = (zero, omega arith, sym e)
place_in x d (y ∷ ys) (inr i) = let (k, l, e) = place_in x d ys i in (suc k, omega arith, e)

-- one more, between two lists
in_between : {A : Type 0} (x y : A) (xs ys : List A) → In x ((xs ++ (y ∷ [])) ++ ys) → (x ≡ y) ⊎ In x (xs ++ ys)
in_between x y [] ys i = i
in_between x y (z ∷ xs) ys (inl e) = inr (inl e)
in_between x y (z ∷ xs) ys (inr i) = elim (in_between x y xs ys i) [ inl e ↦ inl e | inr j ↦ inr (inr j) ]

pub in_front : {A : Type 0} (x : A) (xs ys : List A) → In x xs → In x (xs ++ ys)
in_front x [] ys i = absurd i
in_front x (z ∷ xs) ys (inl e) = inl e
in_front x (z ∷ xs) ys (inr i) = inr (in_front x xs ys i)

pub in_last : {A : Type 0} (x : A) (xs : List A) → In x (xs ++ (x ∷ []))
in_last x [] = inl refl
in_last x (z ∷ xs) = inr (in_last x xs)

pub in_push : {A : Type 0} (x y : A) (xs : List A) → In x (xs ++ (y ∷ [])) → In x xs ⊎ (x ≡ y)
in_push x y xs i =
    elim (in_between x y xs [] (subst (In x) (sym (append-nil (xs ++ (y ∷ [])))) i)) [
      | inl e ↦ inr e
      | inr j ↦ inl (subst (In x) (append-nil xs) j)
    ]

in_either : {A : Type 0} (x : A) (xs ys : List A) → In x (xs ++ ys) → In x xs ⊎ In x ys
in_either x [] ys i = inr i
in_either x (z ∷ xs) ys (inl e) = inl (inl e)
in_either x (z ∷ xs) ys (inr i) = elim (in_either x xs ys i) [ inl j ↦ inl (inr j) | inr j ↦ inr j ]

-- nothing stands twice in the list
abbrev pub Differ : List (List ℕ) → Type 0
Differ [] = Unit {0}
Differ (x ∷ xs) = (In x xs → ⊥) × Differ xs

pub differ_between : (n : List ℕ) (xs ys : List (List ℕ)) → (In n (xs ++ ys) → ⊥) → Differ (xs ++ ys) → Differ ((xs ++ (n ∷ [])) ++ ys)
differ_between n [] ys new d = (new, d)
differ_between n (x ∷ xs) ys new (other, d) = (
  λ i. elim (in_between x n xs ys i) [ inl e ↦ new (inl (sym e)) | inr j ↦ other j ],
  differ_between n xs ys (λ i. new (inr i)) d,
)

pub differ_push : (n : List ℕ) (xs : List (List ℕ)) → (In n xs → ⊥) → Differ xs → Differ (xs ++ (n ∷ []))
differ_push n xs new d =
    subst Differ (append-nil (xs ++ (n ∷ [])))
    (differ_between n xs [] (λ i. new (subst (In n) (append-nil xs) i)) (subst Differ (sym (append-nil xs)) d))

pub differ_apart : (names : List (List ℕ)) → Differ names → Apart names
differ_apart [] d name i j a b = absurd (omega (arith, a.within))
differ_apart (x ∷ xs) d name zero zero a b = refl
differ_apart (x ∷ xs) d name zero (suc j) a b =
    absurd (d.0 (subst (λ y. In y xs) (b.here ∙ sym a.here) (in_at xs j [] (omega (arith, b.within)))))
differ_apart (x ∷ xs) d name (suc i) zero a b =
    absurd (d.0 (subst (λ y. In y xs) (a.here ∙ sym b.here) (in_at xs i [] (omega (arith, a.within)))))
differ_apart (x ∷ xs) d name (suc i) (suc j) a b =
    ap suc (differ_apart xs d.1 name i j
    (record { within = omega (arith, a.within); here = a.here }) (record { within = omega (arith, b.within); here = b.here }))

-- a name stands where it stood when names are added at the end
stands_more : {name : List ℕ} {names : List (List ℕ)} {k : ℕ} (more : List (List ℕ)) → Stands name names k → Stands name (names ++ more) k
stands_more {name} {names} {k} more s = record {
  within = omega (arith, s.within, length-append names more);
  here = get_or_append_left names more [] k s.within ∙ s.here;
}

pub stands_later : {name : List ℕ} {names longer : List (List ℕ)} {k : ℕ} (more : List (List ℕ)) → longer ≡ names ++ more
    → Stands name names k → Stands name longer k
stands_later {name} {k = k} more e s = subst (λ l. Stands name l k) (sym e) (stands_more more s)

stands_after : {name : List ℕ} {names : List (List ℕ)} {k : ℕ} (front : List (List ℕ)) → Stands name names k → Stands name (front ++ names) (length front + k)
stands_after {name} {names} {k} front s = record {
  within = omega (arith, s.within, length-append front names);
  here = get_or-append-add front names k [] ∙ s.here;
}

pub apart_front : (xs ys : List (List ℕ)) → Apart (xs ++ ys) → Apart xs
apart_front xs ys apart name i j a b = apart name i j (stands_more ys a) (stands_more ys b)

pub apart_back : (xs ys : List (List ℕ)) → Apart (xs ++ ys) → Apart ys
apart_back xs ys apart name i j a b = omega (arith, apart name (length xs + i) (length xs + j) (stands_after xs a) (stands_after xs b))

-- what the lookup says
pub found_stands : (name : List ℕ) (names : List (List ℕ)) (k : ℕ) → place_of name names ≡ Some k → Stands name names k
found_stands name names k e = let f = found_first name names k e in record { within = f.within; here = f.here }

pub not_taken : (name : List ℕ) (names : List (List ℕ)) → taken name names ≡ false → In name names → ⊥
not_taken name names e i = by (place_of name names) refl e where
  by : (o : Option ℕ) → place_of name names ≡ o → is_some o ≡ false → ⊥
  by None none f = let (k, l, here) = place_in name [] names i in found_none name names none k l here
  by (Some k) some f = let z : ◌≡◌ {A = ℕ} 0 1 = cc in omega arith

pub no_type_taken : (name : List ℕ) (xs ys : List (List ℕ)) → (taken name xs || taken name ys) ≡ false → In name (xs ++ ys) → ⊥
no_type_taken name xs ys e i =
    let (one, other) = or_parts (taken name xs) (taken name ys) e in
    elim (in_either name xs ys i) [ inl j ↦ not_taken name xs one j | inr j ↦ not_taken name ys other j ]

-- the names stand at the numbers, one by one
abbrev pub AllStand : List (List ℕ) → List (List ℕ) → List ℕ → Type 0
AllStand [] names [] = Unit {0}
AllStand [] names (k ∷ ks) = ⊥
AllStand (n ∷ ns) names [] = ⊥
AllStand (n ∷ ns) names (k ∷ ks) = Stands n names k × AllStand ns names ks

-- the rights of the set are those that the names stand at
abbrev pub SetStands : List (List ℕ) → List (List ℕ) → ℕ → Type 0
SetStands listed names set = (r : ℕ) → Exactly (T (has set r)) (NamesOne listed names r)

listed_named : (ns names : List (List ℕ)) (ks : List ℕ) → AllStand ns names ks → (r : ℕ) → T (listed r ks) → NamesOne ns names r
listed_named [] names [] all r t = absurd t
listed_named [] names (k ∷ ks) all r t = absurd all
listed_named (n ∷ ns) names [] all r t = absurd all
listed_named (n ∷ ns) names (k ∷ ks) (here, all) r t =
    elim (t_or (eqb r k) (listed r ks) t) [
      | inl e ↦ (n, inl refl, subst (Stands n names) (sym (eqb→eq r k e)) here)
      | inr later ↦ let (name, i, s) = listed_named ns names ks all r later in (name, inr i, s)
    ]

named_listed : (ns names : List (List ℕ)) (ks : List ℕ) → Apart names → AllStand ns names ks → (r : ℕ) (name : List ℕ)
    → In name ns → Stands name names r → T (listed r ks)
named_listed [] names ks apart all r name i s = absurd i
named_listed (n ∷ ns) names [] apart all r name i s = absurd all
named_listed (n ∷ ns) names (k ∷ ks) apart (here, all) r name (inl e) s =
    or_T_left (eqb r k) (listed r ks) (T_true (eq-eqb r k (apart n r k (subst (λ m. Stands m names r) e s) here)))
named_listed (n ∷ ns) names (k ∷ ks) apart (here, all) r name (inr i) s =
    or_T_right (eqb r k) (listed r ks) (named_listed ns names ks apart all r name i s)

pub set_stands : (ns names : List (List ℕ)) (ks : List ℕ) → Apart names → AllStand ns names ks → SetStands ns names (set_of ks)
set_stands ns names ks apart all r = (
  λ t. listed_named ns names ks all r (subst T (set_of_has ks r) t),
  λ one. let (name, i, s) = one in subst T (sym (set_of_has ks r)) (named_listed ns names ks apart all r name i s),
)
