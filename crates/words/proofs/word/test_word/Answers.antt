use Rattle.std.proofs.Common.{get_or, Err, sym, ap, ◌∙◌, arith}
use Rattle.words.specs.Names.{judged}
use Rattle.words.proofs.Faults.{one_more, wrong_byte, too_long}
use Rattle.words.proofs.Bytewise.{letter_class, other_class}
use Rattle.grammar.specs.Bytes.{class}
use Rattle.words.proofs.word.test_word.Goals as goal
use Rattle.words.proofs.word.test_word.Goals.{then-at-eq-MAX_WORD-via-then-at-eq-MAX_WORD, then-at-eq-MAX_WORD-via-else-at-eq-MAX_WORD+then-not-is_word_byte}

pub returns-then-at-eq-MAX_WORD : goal.returns-then-at-eq-MAX_WORD
returns-then-at-eq-MAX_WORD c =
    ap Err c.refusal_of.ensures
    ∙ ap judged (sym (elim c.then-at-eq-MAX_WORD.branch [
      | then-at-eq-MAX_WORD-via-then-at-eq-MAX_WORD w ↦
          too_long c.args.name.now c.loop-at.at c.loop-at.invariant.1 c.loop-at-test.true w.if-at-eq-MAX_WORD.true
      | then-at-eq-MAX_WORD-via-else-at-eq-MAX_WORD+then-not-is_word_byte w ↦
          wrong_byte c.args.name.now c.loop-at.at c.loop-at.invariant.1 c.loop-at-test.true (other_class (class (get_or c.args.name.now c.loop-at.at 0)) (sym w.if-not-is_word_byte.ensures))
    ]))

pub loop-at-preserved : goal.loop-at-preserved
loop-at-preserved c = (
  omega arith,
  one_more c.args.name.now c.loop-at.at c.loop-at.invariant.1 c.loop-at-test.true (omega arith) (letter_class (class (get_or c.args.name.now c.loop-at.at 0)) (sym c.if-not-is_word_byte.ensures)),
)
