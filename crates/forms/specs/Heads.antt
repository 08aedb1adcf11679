-- What the first word of a form says of it.
use Rattle.std.specs.Prelude.{◌≡◌, Ok, Err, Result}
use Rattle.rights.specs.declared.refusal.Refusal.{Refusal}
use Rattle.rights.specs.declared.refusal.Refusal.TheVariants.{WrongForm}
use Rattle.meaning.specs.Forms as forms
use Rattle.forms.specs.declared.head.Head.{Head}
use Rattle.forms.specs.declared.head.Head.TheVariants as head

abbrev pub head_is : Head → forms.Head
head_is head.Right = forms.right_head
head_is head.SubjectType = forms.subject_type_head
head_is head.ObjectType = forms.object_type_head
head_is head.Owner = forms.owner_head
head_is head.Create = forms.create_head
head_is head.Transform = forms.itrans_head
head_is head.Grant = forms.grant_head
head_is head.Note = forms.note_head

-- what is answered of a word: its head, or that it is none
abbrev pub HeadRead : forms.Head → Result Head Refusal → Type 0
HeadRead due (Ok h) = due ≡ head_is h
HeadRead due (Err e) = (due ≡ forms.no_head) × (e ≡ WrongForm)
