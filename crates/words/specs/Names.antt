-- Which bytes are bytes of a word, and what is answered of a name.
use Rattle.std.specs.Prelude.{ℕ, Bool, true, false, Some, None, Ok, Err, Option, Result}
use Rattle.rights.specs.declared.refusal.Refusal.{Refusal}
use Rattle.grammar.specs.Bytes.{Class, word_byte, opening, closing, space, line_end, bad, class}

abbrev pub is_word_class : Class → Bool
is_word_class word_byte = true
is_word_class opening = false
is_word_class closing = false
is_word_class space = false
is_word_class line_end = false
is_word_class bad = false

abbrev pub is_letter : ℕ → Bool
is_letter b = is_word_class (class b)

abbrev pub judged : Option Refusal → Result (Unit {0}) Refusal
judged None = Ok tt
judged (Some why) = Err why
