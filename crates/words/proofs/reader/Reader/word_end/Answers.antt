use Rattle.std.proofs.Common.{arith}
use Rattle.words.proofs.Bytewise.{word_ends, word_refused}
use Rattle.words.proofs.reader.Reader.word_end.Goals as goal

pub returns-then-letters-gt-MAX_WORD : goal.returns-then-letters-gt-MAX_WORD
returns-then-letters-gt-MAX_WORD c =
    rw c.stop.ensures (word_refused c.args.self.now.text.now c.args.at c.letters-letters.result c.letters-letters.ensures (omega arith) c.requires.within)

pub returns : goal.returns
returns c =
    word_ends c.args.self.now.text.now c.args.at c.letters-letters.result c.letters-letters.ensures (omega arith) c.requires.within c.requires.word
