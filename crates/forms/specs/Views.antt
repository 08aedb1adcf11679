-- The program's forms as the forms of a scheme text: each word by its bytes in the line.
use Rattle.std.specs.Prelude.{◌≡◌, ℕ, List, map, Some, None, Ok, Err, vec_items, Option, Result}
use Rattle.rights.specs.declared.refusal.Refusal.TheVariants.{WrongForm}
use Rattle.words.specs.declared.tree.Word.{Word}
use Rattle.words.specs.Stops.{Denial}
use Rattle.words.specs.declared.stop.Failed.TheVariants.{Memory, Because}
use Rattle.words.specs.Tree.{part}
use Rattle.grammar.specs.Entries.{Item, word, list, entries}
use Rattle.meaning.specs.Forms as forms
use Rattle.forms.specs.declared.form.Form.{Form}
use Rattle.forms.specs.declared.form.Form.TheVariants.{Right, SubjectType, ObjectType, Owner, Create, Transform, Grant, Note}

abbrev pub name_at : List ℕ → Word → List ℕ
name_at line w = part line w.from w.upto

abbrev pub names_at : List ℕ → List Word → List (List ℕ)
names_at line ws = map (name_at line) ws

abbrev pub form_at : List ℕ → Form → forms.Form
form_at line (Right n) = forms.right (name_at line n)
form_at line (SubjectType n) = forms.subject_type (name_at line n)
form_at line (ObjectType n) = forms.object_type (name_at line n)
form_at line (Owner n) = forms.owner (name_at line n)
form_at line (Create u o gets) = forms.create (name_at line u) (name_at line o) (names_at line (vec_items gets))
form_at line (Transform u o need gives) = forms.itrans (name_at line u) (name_at line o) (names_at line (vec_items need)) (names_at line (vec_items gives))
form_at line (Grant u v o need gives) =
    forms.grant (name_at line u) (name_at line v) (name_at line o) (names_at line (vec_items need)) (names_at line (vec_items gives))
form_at line Note = forms.note

-- what an item is as a word, and as a list of words
abbrev pub as_word : Item → Option (List ℕ)
as_word (word w) = Some w
as_word (list i) = None

abbrev pub as_names : Item → Option (List (List ℕ))
as_names (word w) = None
as_names (list i) = forms.the_words (entries i)

-- What was to be read was read, as `view` sees it; else the form is refused, or there was no memory.
abbrev pub TakenAs : {A B : Type 0} → (A → B) → Option B → Result A Denial → Type 0
TakenAs view due (Ok x) = due ≡ Some (view x)
TakenAs view due (Err (Because e)) = (due ≡ None) × (e ≡ WrongForm)
TakenAs view due (Err Memory) = Unit {0}
