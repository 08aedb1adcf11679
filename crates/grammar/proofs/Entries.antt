-- Items are lists of items.
use Rattle.std.proofs.Common.{◌≡◌, ℕ, List, [], ◌∷◌, ◌++◌, sym, refl, ap, ◌∙◌, append_assoc, append-nil, arith}
use Rattle.grammar.specs.Items.{Items, empty, with_word, with_list, gap, inside}
use Rattle.grammar.specs.Entries.{Item, word, list, entries, written, spaced, joined, ItemsAreLists}

abbrev lead : List Item → List ℕ
lead [] = []
lead (x ∷ xs) = 32 ∷ []

spaced_push : (ys : List Item) (x : Item) → spaced (ys ++ (x ∷ [])) ≡ spaced ys ++ (32 ∷ written x)
spaced_push [] x = ap (λ l. 32 ∷ l) (append-nil (written x))
spaced_push (y ∷ ys) x = ap (λ l. 32 ∷ l) (ap (λ l. written y ++ l) (spaced_push ys x) ∙ sym (append_assoc (written y) (spaced ys) (32 ∷ written x)))

joined_push : (ys : List Item) (x : Item) → joined (ys ++ (x ∷ [])) ≡ joined ys ++ (lead ys ++ written x)
joined_push [] x = append-nil (written x)
joined_push (y ∷ ys) x = ap (λ l. written y ++ l) (spaced_push ys x) ∙ sym (append_assoc (written y) (spaced ys) (32 ∷ written x))

lead_push : (ys : List Item) (x : Item) → lead (ys ++ (x ∷ [])) ≡ 32 ∷ []
lead_push [] x = refl
lead_push (y ∷ ys) x = refl

lead_gap : (xs : Items) → lead (entries xs) ≡ gap xs
lead_gap empty = refl
lead_gap (with_word xs w) = lead_push (entries xs) (word w)
lead_gap (with_list xs i) = lead_push (entries xs) (list i)

one_more : (xs : Items) (x : Item) → inside xs ≡ joined (entries xs) → inside xs ++ (gap xs ++ written x) ≡ joined (entries xs ++ (x ∷ []))
one_more xs x e =
    ap (λ l. l ++ (gap xs ++ written x)) e ∙ ap (λ l. joined (entries xs) ++ (l ++ written x)) (sym (lead_gap xs)) ∙ sym (joined_push (entries xs) x)

text : (xs : Items) → inside xs ≡ joined (entries xs)
text empty = refl
text (with_word xs w) = one_more xs (word w) (text xs)
text (with_list xs i) = one_more xs (list i) (text xs)

abbrev put : Items → Item → Items
put xs (word w) = with_word xs w
put xs (list i) = with_list xs i

put_entries : (xs : Items) (x : Item) → entries (put xs x) ≡ entries xs ++ (x ∷ [])
put_entries xs (word w) = refl
put_entries xs (list i) = refl

all_from : (ys : List Item) (xs : Items) → (zs : Items) × (entries zs ≡ entries xs ++ ys)
all_from [] xs = (xs, sym (append-nil (entries xs)))
all_from (y ∷ ys) xs =
    let (zs, e) = all_from ys (put xs y) in
    (zs, e ∙ ap (λ l. l ++ ys) (put_entries xs y) ∙ append_assoc (entries xs) (y ∷ []) ys)

-- the last item, and those before it
last_same : (xs ys : List Item) (x y : Item) → xs ++ (x ∷ []) ≡ ys ++ (y ∷ []) → (xs ≡ ys) × (x ≡ y)
last_same [] [] x y e = (refl, cc)
last_same [] (b ∷ []) x y e = let z : ◌≡◌ {A = ℕ} 0 1 = cc in absurd (omega arith)
last_same [] (b ∷ c ∷ ys) x y e = let z : ◌≡◌ {A = ℕ} 0 1 = cc in absurd (omega arith)
last_same (a ∷ []) [] x y e = let z : ◌≡◌ {A = ℕ} 0 1 = cc in absurd (omega arith)
last_same (a ∷ c ∷ xs) [] x y e = let z : ◌≡◌ {A = ℕ} 0 1 = cc in absurd (omega arith)
last_same (a ∷ xs) (b ∷ ys) x y e =
    let head : a ≡ b = cc in
    let tail : xs ++ (x ∷ []) ≡ ys ++ (y ∷ []) = cc in
    let (more, end) = last_same xs ys x y tail in
    (cc, end)

no_last : (xs : List Item) (x : Item) → xs ++ (x ∷ []) ≡ [] → ⊥
no_last [] x e = let z : ◌≡◌ {A = ℕ} 0 1 = cc in omega arith
no_last (a ∷ xs) x e = let z : ◌≡◌ {A = ℕ} 0 1 = cc in omega arith

once : (xs ys : Items) → entries xs ≡ entries ys → xs ≡ ys
once empty empty e = refl
once empty (with_word ys v) e = absurd (no_last (entries ys) (word v) (sym e))
once empty (with_list ys j) e = absurd (no_last (entries ys) (list j) (sym e))
once (with_word xs w) empty e = absurd (no_last (entries xs) (word w) e)
once (with_list xs i) empty e = absurd (no_last (entries xs) (list i) e)
once (with_word xs w) (with_word ys v) e =
    let (front, end) = last_same (entries xs) (entries ys) (word w) (word v) e in
    let same : xs ≡ ys = once xs ys front in
    cc
once (with_word xs w) (with_list ys j) e =
    let (front, end) = last_same (entries xs) (entries ys) (word w) (list j) e in
    let z : ◌≡◌ {A = ℕ} 0 1 = cc in absurd (omega arith)
once (with_list xs i) (with_word ys v) e =
    let (front, end) = last_same (entries xs) (entries ys) (list i) (word v) e in
    let z : ◌≡◌ {A = ℕ} 0 1 = cc in absurd (omega arith)
once (with_list xs i) (with_list ys j) e =
    let (front, end) = last_same (entries xs) (entries ys) (list i) (list j) e in
    let same : xs ≡ ys = once xs ys front in
    cc

pub items_are_lists : ItemsAreLists
items_are_lists = record {
  text = text;
  any = λ ys. all_from ys empty;
  once = once;
}
