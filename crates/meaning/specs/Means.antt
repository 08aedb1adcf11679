-- What a scheme that was read means, in terms of the lines of its text.
use Rattle.std.specs.Prelude.{◌≡◌, ℕ, ◌<◌, T, ◌⊎◌, List, [], ◌∷◌, ◌++◌, length, Some, Ok, slice_index_or}
use Rattle.rights.specs.Sets.{has}
use Rattle.rows.specs.Rules.{book_meaning}
use Rattle.grammar.specs.Items.{Items}
use Rattle.grammar.specs.Entries.{entries}
use Rattle.grammar.specs.Texts.{AllLines}
use Rattle.meaning.specs.Named.{Names, Named}
use Rattle.meaning.specs.Forms.{Form, right, subject_type, object_type, owner, create, itrans, grant, note, Written}
use Rattle.meaning.specs.Schemes.{scheme_text}

-- one exactly when the other
abbrev pub Exactly : Type 0 → Type 0 → Type 0
Exactly P Q = (P → Q) × (Q → P)

abbrev pub In : {A : Type 0} → A → List A → Type 0
In x [] = ⊥
In x (y ∷ ys) = (x ≡ y) ⊎ In x ys

-- the name stands at the number
pub record Stands (name : List ℕ) (names : List (List ℕ)) (k : ℕ) : Type 0 where
  pub within : k < length names
  pub here : slice_index_or names k [] ≡ name

-- no two numbers have one name
abbrev pub Apart : List (List ℕ) → Type 0
Apart names = (name : List ℕ) (i j : ℕ) → Stands name names i → Stands name names j → i ≡ j

-- each line is the form written out
abbrev pub LinesWritten : List Items → List Form → Type 0
LinesWritten [] [] = Unit {0}
LinesWritten [] (f ∷ fs) = ⊥
LinesWritten (F ∷ Fs) [] = ⊥
LinesWritten (F ∷ Fs) (f ∷ fs) = Written f (entries F) × LinesWritten Fs fs

-- the names that the lines of a kind declare, in their order
abbrev pub right_names : List Form → List (List ℕ)
right_names [] = []
right_names (right n ∷ fs) = n ∷ right_names fs
right_names (subject_type n ∷ fs) = right_names fs
right_names (object_type n ∷ fs) = right_names fs
right_names (owner n ∷ fs) = right_names fs
right_names (create u o gets ∷ fs) = right_names fs
right_names (itrans u o need gives ∷ fs) = right_names fs
right_names (grant u v o need gives ∷ fs) = right_names fs
right_names (note ∷ fs) = right_names fs

abbrev pub subject_type_names : List Form → List (List ℕ)
subject_type_names [] = []
subject_type_names (right n ∷ fs) = subject_type_names fs
subject_type_names (subject_type n ∷ fs) = n ∷ subject_type_names fs
subject_type_names (object_type n ∷ fs) = subject_type_names fs
subject_type_names (owner n ∷ fs) = subject_type_names fs
subject_type_names (create u o gets ∷ fs) = subject_type_names fs
subject_type_names (itrans u o need gives ∷ fs) = subject_type_names fs
subject_type_names (grant u v o need gives ∷ fs) = subject_type_names fs
subject_type_names (note ∷ fs) = subject_type_names fs

abbrev pub object_type_names : List Form → List (List ℕ)
object_type_names [] = []
object_type_names (right n ∷ fs) = object_type_names fs
object_type_names (subject_type n ∷ fs) = object_type_names fs
object_type_names (object_type n ∷ fs) = n ∷ object_type_names fs
object_type_names (owner n ∷ fs) = object_type_names fs
object_type_names (create u o gets ∷ fs) = object_type_names fs
object_type_names (itrans u o need gives ∷ fs) = object_type_names fs
object_type_names (grant u v o need gives ∷ fs) = object_type_names fs
object_type_names (note ∷ fs) = object_type_names fs

-- one of the names stands at the number r
abbrev pub NamesOne : List (List ℕ) → List (List ℕ) → ℕ → Type 0
NamesOne listed names r = (name : List ℕ) × In name listed × Stands name names r

-- an itrans line for u and o whose need lies within held and whose gives has r
pub record Added (forms : List Form) (names : Names) (u o held r : ℕ) : Type 0 where
  pub subject : List ℕ
  pub object : List ℕ
  pub need : List (List ℕ)
  pub gives : List (List ℕ)
  pub line : In (itrans subject object need gives) forms
  pub by : Stands subject names.subject_types u
  pub on : Stands object names.object_types o
  pub need_held : (q : ℕ) → NamesOne need names.rights q → T (has held q)
  pub has_right : NamesOne gives names.rights r

-- a grant line for u, v and o whose need lies within held and whose gives has r
pub record Given (forms : List Form) (names : Names) (u v o held r : ℕ) : Type 0 where
  pub giver : List ℕ
  pub receiver : List ℕ
  pub object : List ℕ
  pub need : List (List ℕ)
  pub gives : List (List ℕ)
  pub line : In (grant giver receiver object need gives) forms
  pub by : Stands giver names.subject_types u
  pub to : Stands receiver names.subject_types v
  pub on : Stands object names.object_types o
  pub need_held : (q : ℕ) → NamesOne need names.rights q → T (has held q)
  pub has_right : NamesOne gives names.rights r

-- a create line for u and o that lists the rights of this set
pub record Created (forms : List Form) (names : Names) (u o set : ℕ) : Type 0 where
  pub creator : List ℕ
  pub object : List ℕ
  pub gets : List (List ℕ)
  pub line : In (create creator object gets) forms
  pub by : Stands creator names.subject_types u
  pub on : Stands object names.object_types o
  pub the_set : (r : ℕ) → Exactly (T (has set r)) (NamesOne gets names.rights r)

-- an owner line for r
abbrev pub Owned : List Form → Names → ℕ → Type 0
Owned forms names r = (name : List ℕ) × In (owner name) forms × Stands name names.rights r

-- The scheme means the lines of its text, no more and no fewer.
pub record SchemeMeans (text : List ℕ) (s : Named) : Type 0 where
  pub lines : List Items
  pub forms : List Form
  pub whole : AllLines text lines
  pub written : LinesWritten lines forms
  -- each name stands at the number of its declaration
  pub rights : s.names.rights ≡ right_names forms
  pub subject_types : s.names.subject_types ≡ subject_type_names forms
  pub object_types : s.names.object_types ≡ object_type_names forms
  pub rights_apart : Apart s.names.rights
  pub types_apart : Apart (s.names.subject_types ++ s.names.object_types)
  -- the book's four parts
  pub adds : (u o held r : ℕ) → Exactly (T (has ((book_meaning s.book).may_add u o held) r)) (Added forms s.names u o held r)
  pub gives : (u v o held r : ℕ) → Exactly (T (has ((book_meaning s.book).may_give u v o held) r)) (Given forms s.names u v o held r)
  pub creates : (u o set : ℕ) → Exactly ((book_meaning s.book).creation u o ≡ Some set) (Created forms s.names u o set)
  pub owns : (r : ℕ) → Exactly ((book_meaning s.book).owner ≡ Some r) (Owned forms s.names r)

-- Whatever text is read as a scheme, the scheme means the lines of that text.
abbrev pub TextsMean : Type 0
TextsMean = (text : List ℕ) (s : Named) → scheme_text text ≡ Ok s → SchemeMeans text s
