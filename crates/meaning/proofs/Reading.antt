-- A list of items is read as a form exactly when it is the form written out.
use Rattle.std.proofs.Common.{◌≡◌, ℕ, Bool, true, false, cond, List, [], ◌∷◌, map, Some, None, codes, Option, refl, ap, ◌∙◌, subst, arith}
use Rattle.std.specs.Option.{option_map}
use Rattle.std.specs.Str.{bytes_eq}
use Rattle.std.proofs.lemmas.Slice.Eq.{bytes_eq-Decides}
use Rattle.grammar.specs.Entries.{Item, word, list, entries}
use Rattle.meaning.specs.Forms.{Form, right, subject_type, object_type, owner, create, itrans, grant, note, the_words, word_then, if_words, names_then, at_end, Head, right_head, subject_type_head, object_type_head, owner_head, create_head, itrans_head, grant_head, note_head, no_head, head_of, form_with, form_of, NamesList, Written, FormsRead}

-- the words of a list of words
words_of : (names : List (List ℕ)) → the_words (map word names) ≡ Some names
words_of [] = refl
words_of (n ∷ ns) = ap (option_map (λ ws. n ∷ ws)) (words_of ns)

names_read : {x : Item} {names : List (List ℕ)} → NamesList x names → (xs : List Item) (more : List (List ℕ) → List Item → Option Form)
    → names_then (x ∷ xs) more ≡ more names xs
names_read {x} {names} (i, is, e) xs more =
    ap (λ y. names_then (y ∷ xs) more) is ∙ ap (λ o. if_words o (λ ws. more ws xs)) (ap the_words e ∙ words_of names)

read : (f : Form) (xs : List Item) → Written f xs → form_of xs ≡ Some f
read (right n) xs e = ap form_of e
read (subject_type n) xs e = ap form_of e
read (object_type n) xs e = ap form_of e
read (owner n) xs e = ap form_of e
read (create u o gets) xs (x, p, e) = ap form_of e ∙ names_read p [] (λ gets. at_end (create u o gets))
read (itrans u o need gives) xs (x, y, p, q, e) =
    ap form_of e ∙ names_read p (y ∷ []) (λ need xs. names_then xs (λ gives. at_end (itrans u o need gives)))
    ∙ names_read q [] (λ gives. at_end (itrans u o need gives))
read (grant u v o need gives) xs (x, y, p, q, e) =
    ap form_of e ∙ names_read p (y ∷ []) (λ need xs. names_then xs (λ gives. at_end (grant u v o need gives)))
    ∙ names_read q [] (λ gives. at_end (grant u v o need gives))
read note xs (ys, e) = ap form_of e

-- what was read has what its reader asks for
mapped_some : {A B : Type 0} (g : A → B) (o : Option A) (y : B) → option_map g o ≡ Some y → (x : A) × (o ≡ Some x) × (g x ≡ y)
mapped_some g None y e = absurd (let z : ◌≡◌ {A = ℕ} 0 1 = cc in omega arith)
mapped_some g (Some x) y e = (x, refl, cc)

are_words : (xs : List Item) (names : List (List ℕ)) → the_words xs ≡ Some names → xs ≡ map word names
are_words [] names e = let same : [] ≡ names = cc in ap (map word) same
are_words (word w ∷ xs) names e =
    let (ws, h, same) = mapped_some (λ ws. w ∷ ws) (the_words xs) names e in
    ap (λ l. word w ∷ l) (are_words xs ws h) ∙ ap (map word) same
are_words (list i ∷ xs) names e = absurd (let z : ◌≡◌ {A = ℕ} 0 1 = cc in omega arith)

module _ (f : Form) where
  word_first : (xs : List Item) (more : List ℕ → List Item → Option Form) → word_then xs more ≡ Some f
      → (w : List ℕ) × (rest : List Item) × (xs ≡ word w ∷ rest) × (more w rest ≡ Some f)
  word_first [] more e = absurd (let z : ◌≡◌ {A = ℕ} 0 1 = cc in omega arith)
  word_first (word w ∷ xs) more e = (w, xs, refl, e)
  word_first (list i ∷ xs) more e = absurd (let z : ◌≡◌ {A = ℕ} 0 1 = cc in omega arith)

  words_there : (o : Option (List (List ℕ))) (more : List (List ℕ) → Option Form) → if_words o more ≡ Some f
      → (ws : List (List ℕ)) × (o ≡ Some ws) × (more ws ≡ Some f)
  words_there None more e = absurd (let z : ◌≡◌ {A = ℕ} 0 1 = cc in omega arith)
  words_there (Some ws) more e = (ws, refl, e)

  names_first : (xs : List Item) (more : List (List ℕ) → List Item → Option Form) → names_then xs more ≡ Some f
      → (x : Item) × (names : List (List ℕ)) × (rest : List Item) × NamesList x names × (xs ≡ x ∷ rest) × (more names rest ≡ Some f)
  names_first [] more e = absurd (let z : ◌≡◌ {A = ℕ} 0 1 = cc in omega arith)
  names_first (word w ∷ xs) more e = absurd (let z : ◌≡◌ {A = ℕ} 0 1 = cc in omega arith)
  names_first (list i ∷ xs) more e =
      let (ws, is, h) = words_there (the_words (entries i)) (λ ws. more ws xs) e in
      (list i, ws, xs, (i, refl, are_words (entries i) ws is), refl, h)

  nothing_more : (g : Form) (xs : List Item) → at_end g xs ≡ Some f → (xs ≡ []) × (g ≡ f)
  nothing_more g [] e = (refl, cc)
  nothing_more g (x ∷ xs) e = absurd (let z : ◌≡◌ {A = ℕ} 0 1 = cc in omega arith)

-- the word that a head is
abbrev HeadIs : Head → List ℕ → Type 0
HeadIs right_head w = w ≡ codes "right"
HeadIs subject_type_head w = w ≡ codes "subject-type"
HeadIs object_type_head w = w ≡ codes "object-type"
HeadIs owner_head w = w ≡ codes "owner"
HeadIs create_head w = w ≡ codes "create"
HeadIs itrans_head w = w ≡ codes "itrans"
HeadIs grant_head w = w ≡ codes "grant"
HeadIs note_head w = w ≡ codes "note"
HeadIs no_head w = Unit {0}

head_by : (w v : List ℕ) (a b : Head) → (w ≡ v → HeadIs a w) → HeadIs b w → HeadIs (cond (bytes_eq w v) a b) w
head_by w v a b here later = by (bytes_eq w v) refl where
  by : (t : Bool) → bytes_eq w v ≡ t → HeadIs (cond t a b) w
  by true e = here ((bytes_eq-Decides w v).0 e)
  by false e = later

head_is : (w : List ℕ) → HeadIs (head_of w) w
head_is w =
    head_by w (codes "right") right_head _ (λ e. e) (head_by w (codes "subject-type") subject_type_head _ (λ e. e)
    (head_by w (codes "object-type") object_type_head _ (λ e. e) (head_by w (codes "owner") owner_head _ (λ e. e)
    (head_by w (codes "create") create_head _ (λ e. e) (head_by w (codes "itrans") itrans_head _ (λ e. e)
    (head_by w (codes "grant") grant_head _ (λ e. e) (head_by w (codes "note") note_head no_head (λ e. e) tt)))))))

-- one name after the head
one_name : (g : List ℕ → Form) (f : Form) (w v : List ℕ) → w ≡ v → (xs : List Item) → word_then xs (λ n. at_end (g n)) ≡ Some f
    → ((n : List ℕ) → word w ∷ xs ≡ word v ∷ word n ∷ [] → Written (g n) (word w ∷ xs)) → Written f (word w ∷ xs)
one_name g f w v is xs e written =
    let (n, rest, first, h) = word_first f xs (λ n. at_end (g n)) e in
    let (none, same) = nothing_more f (g n) rest h in
    subst (λ x. Written x (word w ∷ xs)) same (written n cc)

-- two lists of names at the end
two_lists : (g : List (List ℕ) → List (List ℕ) → Form) (f : Form) (xs : List Item)
    → names_then xs (λ need xs. names_then xs (λ gives. at_end (g need gives))) ≡ Some f
    → (need : List (List ℕ)) × (gives : List (List ℕ)) × (x : Item) × (y : Item)
    × NamesList x need × NamesList y gives × (g need gives ≡ f) × (xs ≡ x ∷ y ∷ [])
two_lists g f xs e =
    let (x, need, rest, p, first, h) = names_first f xs (λ need xs. names_then xs (λ gives. at_end (g need gives))) e in
    let (y, gives, end, q, second, k) = names_first f rest (λ gives. at_end (g need gives)) h in
    let (none, same) = nothing_more f (g need gives) end k in
    (need, gives, x, y, p, q, same, cc)

with_head : (h : Head) (w : List ℕ) → HeadIs h w → (f : Form) (xs : List Item) → form_with h xs ≡ Some f → Written f (word w ∷ xs)
with_head right_head w is f xs e = one_name right f w (codes "right") is xs e (λ n all. all)
with_head subject_type_head w is f xs e = one_name subject_type f w (codes "subject-type") is xs e (λ n all. all)
with_head object_type_head w is f xs e = one_name object_type f w (codes "object-type") is xs e (λ n all. all)
with_head owner_head w is f xs e = one_name owner f w (codes "owner") is xs e (λ n all. all)
with_head create_head w is f xs e =
    let (u, us, a, h) = word_first f xs _ e in
    let (o, os, b, k) = word_first f us _ h in
    let (x, gets, rest, p, c, l) = names_first f os (λ gets. at_end (create u o gets)) k in
    let (none, same) = nothing_more f (create u o gets) rest l in
    subst (λ f. Written f (word w ∷ xs)) same (x, p, cc)
with_head itrans_head w is f xs e =
    let (u, us, a, h) = word_first f xs _ e in
    let (o, os, b, k) = word_first f us _ h in
    let (need, gives, x, y, p, q, same, c) = two_lists (itrans u o) f os k in
    subst (λ f. Written f (word w ∷ xs)) same (x, y, p, q, cc)
with_head grant_head w is f xs e =
    let (u, us, a, h) = word_first f xs _ e in
    let (v, vs, b, k) = word_first f us _ h in
    let (o, os, c, l) = word_first f vs _ k in
    let (need, gives, x, y, p, q, same, d) = two_lists (grant u v o) f os l in
    subst (λ f. Written f (word w ∷ xs)) same (x, y, p, q, cc)
with_head note_head w is f xs e = let same : note ≡ f = cc in subst (λ f. Written f (word w ∷ xs)) same (xs, ap (λ v. word v ∷ xs) is)
with_head no_head w is f xs e = absurd (let z : ◌≡◌ {A = ℕ} 0 1 = cc in omega arith)

only : (f : Form) (xs : List Item) → form_of xs ≡ Some f → Written f xs
only f [] e = absurd (let z : ◌≡◌ {A = ℕ} 0 1 = cc in omega arith)
only f (word w ∷ xs) e = with_head (head_of w) w (head_is w) f xs e
only f (list i ∷ xs) e = absurd (let z : ◌≡◌ {A = ℕ} 0 1 = cc in omega arith)

pub forms_read : FormsRead
forms_read = record { read = read; only = only }
