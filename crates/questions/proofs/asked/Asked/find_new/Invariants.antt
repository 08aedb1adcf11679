use Rattle.questions.proofs.Loops.{Clear}
use Rattle.questions.proofs.Creators.{from}
use Rattle.questions.proofs.asked.Asked.find_new.Given as goal

abbrev pub invariant-loop-creator : goal.invariant-loop-creator
invariant-loop-creator g l = Clear (from 32 (g.B.RuleBook.meaning l.self.book.now) l.self.table.now l.self.subject
    l.kind l.self.right) l.creator
