-- The layer of each refusal of a text, and its word.
use Rattle.std.specs.Prelude.{ℕ, List, codes}
use Rattle.rights.specs.declared.refusal.Refusal.{Refusal}
use Rattle.rights.specs.declared.refusal.Refusal.TheVariants.{TextTooLong, BadByte, LineBroken, TooDeep, WordTooLong, WrongForm, NoSuchName, Repeated, EmptyNeed, OutOfRange, SameSubject, LimitReached, NotPermitted, NotOwner, NotHeld, TooShort}
use Rattle.faults.specs.declared.fault.Layer.{Layer}
use Rattle.faults.specs.declared.fault.Layer.TheVariants.{Words, Forms, Meaning}

abbrev pub layer_of : Refusal → Layer
layer_of TextTooLong = Words
layer_of BadByte = Words
layer_of LineBroken = Words
layer_of TooDeep = Words
layer_of WordTooLong = Words
layer_of WrongForm = Forms
layer_of NoSuchName = Meaning
layer_of Repeated = Meaning
layer_of EmptyNeed = Meaning
layer_of OutOfRange = Meaning
layer_of SameSubject = Meaning
layer_of LimitReached = Meaning
layer_of NotPermitted = Meaning
layer_of NotOwner = Meaning
layer_of NotHeld = Meaning
layer_of TooShort = Meaning

-- what is printed of a layer
abbrev pub word_of : Layer → List ℕ
word_of Words = codes "words"
word_of Forms = codes "forms"
word_of Meaning = codes "meaning"
