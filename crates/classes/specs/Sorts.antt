-- The class that a case stands for.
use Rattle.grammar.specs.Bytes.{Class, word_byte, opening, closing, space, line_end, bad}
use Rattle.classes.specs.declared.kinds.ByteClass.{ByteClass}
use Rattle.classes.specs.declared.kinds.ByteClass.TheVariants.{WordByte, Opening, Closing, Space, LineEnd, Bad}

abbrev pub sort : ByteClass → Class
sort WordByte = word_byte
sort Opening = opening
sort Closing = closing
sort Space = space
sort LineEnd = line_end
sort Bad = bad
