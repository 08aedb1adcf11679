-- The rule of the table: it lists the class of each number in turn, so each place has that number's class.
use Rattle.std.proofs.Common.{◌≡◌, ℕ, ◌<◌, map, get_or, refl, ap, ◌∙◌, arith}
use Rattle.std.specs.List.{range_with_len}
use Rattle.std.proofs.lemmas.List.FromFn.{get_or-map-range_with_len}
use Rattle.grammar.specs.Bytes.{Class, word_byte, opening, closing, space, line_end, bad, class}
use Rattle.classes.specs.Sorts.{sort}
use Rattle.classes.specs.declared.kinds.ByteClass.{ByteClass}
use Rattle.classes.specs.declared.kinds.ByteClass.TheVariants.{WordByte, Opening, Closing, Space, LineEnd, Bad}

-- the case of a class
abbrev pub kind : Class → ByteClass
kind word_byte = WordByte
kind opening = Opening
kind closing = Closing
kind space = Space
kind line_end = LineEnd
kind bad = Bad

sort_kind : (c : Class) → sort (kind c) ≡ c
sort_kind word_byte = refl
sort_kind opening = refl
sort_kind closing = refl
sort_kind space = refl
sort_kind line_end = refl
sort_kind bad = refl

abbrev pub kind_of : ℕ → ByteClass
kind_of b = kind (class b)

-- at a place that is the number's
pub class_rule : (b at : ℕ) (d : ByteClass) → at ≡ b → b < 256 → sort (get_or (map kind_of (range_with_len 0 256)) at d) ≡ class b
class_rule b at d e h = ap sort (get_or-map-range_with_len kind_of 0 256 at b d (omega arith) (omega arith)) ∙ sort_kind (class b)
