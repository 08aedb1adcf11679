-- The forms of a scheme text, and which lists of items are one.
use Rattle.std.specs.Prelude.{◌≡◌, ℕ, cond, List, [], ◌∷◌, map, Some, None, codes, Option}
use Rattle.std.specs.Option.{option_map}
use Rattle.std.specs.Str.{bytes_eq}
use Rattle.grammar.specs.Items.{Items}
use Rattle.grammar.specs.Entries.{Item, word, list, entries}

-- Names are as written: u and v name types of subjects, o a type of objects, the lists name rights.
pub data Form : Type 0 where
  right : List ℕ → Form
  subject_type : List ℕ → Form
  object_type : List ℕ → Form
  owner : List ℕ → Form
  -- create u o gets
  create : List ℕ → List ℕ → List (List ℕ) → Form
  -- itrans u o need gives
  itrans : List ℕ → List ℕ → List (List ℕ) → List (List ℕ) → Form
  -- grant u v o need gives
  grant : List ℕ → List ℕ → List ℕ → List (List ℕ) → List (List ℕ) → Form
  note : Form

-- the items are words, these
abbrev pub the_words : List Item → Option (List (List ℕ))
the_words [] = Some []
the_words (word w ∷ xs) = option_map (λ ws. w ∷ ws) (the_words xs)
the_words (list i ∷ xs) = None

-- a word comes next
abbrev pub word_then : List Item → (List ℕ → List Item → Option Form) → Option Form
word_then [] more = None
word_then (word w ∷ xs) more = more w xs
word_then (list i ∷ xs) more = None

abbrev pub if_words : Option (List (List ℕ)) → (List (List ℕ) → Option Form) → Option Form
if_words None more = None
if_words (Some ws) more = more ws

-- a list of words comes next
abbrev pub names_then : List Item → (List (List ℕ) → List Item → Option Form) → Option Form
names_then [] more = None
names_then (word w ∷ xs) more = None
names_then (list i ∷ xs) more = if_words (the_words (entries i)) (λ ws. more ws xs)

-- nothing comes any more
abbrev pub at_end : Form → List Item → Option Form
at_end f [] = Some f
at_end f (x ∷ xs) = None

pub data Head : Type 0 where
  right_head subject_type_head object_type_head owner_head create_head itrans_head grant_head note_head no_head : Head

abbrev pub head_of : List ℕ → Head
head_of w =
    cond (bytes_eq w (codes "right")) right_head
    (cond (bytes_eq w (codes "subject-type")) subject_type_head
    (cond (bytes_eq w (codes "object-type")) object_type_head
    (cond (bytes_eq w (codes "owner")) owner_head
    (cond (bytes_eq w (codes "create")) create_head
    (cond (bytes_eq w (codes "itrans")) itrans_head
    (cond (bytes_eq w (codes "grant")) grant_head
    (cond (bytes_eq w (codes "note")) note_head no_head)))))))

-- the form with this head, if the items after it are right in count and kind
abbrev pub form_with : Head → List Item → Option Form
form_with right_head xs = word_then xs (λ n. at_end (right n))
form_with subject_type_head xs = word_then xs (λ n. at_end (subject_type n))
form_with object_type_head xs = word_then xs (λ n. at_end (object_type n))
form_with owner_head xs = word_then xs (λ n. at_end (owner n))
form_with create_head xs = word_then xs (λ u xs. word_then xs (λ o xs. names_then xs (λ gets. at_end (create u o gets))))
form_with itrans_head xs =
    word_then xs (λ u xs. word_then xs (λ o xs. names_then xs (λ need xs. names_then xs (λ gives. at_end (itrans u o need gives)))))
form_with grant_head xs =
    word_then xs (λ u xs. word_then xs (λ v xs. word_then xs (λ o xs.
    names_then xs (λ need xs. names_then xs (λ gives. at_end (grant u v o need gives))))))
form_with note_head xs = Some note
form_with no_head xs = None

abbrev pub form_of : List Item → Option Form
form_of [] = None
form_of (word w ∷ xs) = form_with (head_of w) xs
form_of (list i ∷ xs) = None

-- The items are the form, written out: its head, and then what follows it.
abbrev pub NamesList : Item → List (List ℕ) → Type 0
NamesList x names = (i : Items) × (x ≡ list i) × (entries i ≡ map word names)

abbrev pub Written : Form → List Item → Type 0
Written (right n) xs = xs ≡ word (codes "right") ∷ word n ∷ []
Written (subject_type n) xs = xs ≡ word (codes "subject-type") ∷ word n ∷ []
Written (object_type n) xs = xs ≡ word (codes "object-type") ∷ word n ∷ []
Written (owner n) xs = xs ≡ word (codes "owner") ∷ word n ∷ []
Written (create u o gets) xs = (x : Item) × NamesList x gets × (xs ≡ word (codes "create") ∷ word u ∷ word o ∷ x ∷ [])
Written (itrans u o need gives) xs =
    (x : Item) × (y : Item) × NamesList x need × NamesList y gives × (xs ≡ word (codes "itrans") ∷ word u ∷ word o ∷ x ∷ y ∷ [])
Written (grant u v o need gives) xs =
    (x : Item) × (y : Item) × NamesList x need × NamesList y gives × (xs ≡ word (codes "grant") ∷ word u ∷ word v ∷ word o ∷ x ∷ y ∷ [])
Written note xs = (ys : List Item) × (xs ≡ word (codes "note") ∷ ys)

-- A list of items is read as a form exactly when it is the form written out.
pub record FormsRead : Type 0 where
  pub read : (f : Form) (xs : List Item) → Written f xs → form_of xs ≡ Some f
  pub only : (f : Form) (xs : List Item) → form_of xs ≡ Some f → Written f xs
