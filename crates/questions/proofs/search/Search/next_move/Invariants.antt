use Rattle.std.proofs.Common.{◌≡◌, None}
use Rattle.safety.specs.declared.question.Move.TheVariants.{Add, Give}
use Rattle.questions.proofs.Loops.{Clear, Left, Passed, own, gift, given, seen}
use Rattle.questions.proofs.search.Search.next_move.Given as goal

abbrev pub invariant-loop-receiver : goal.invariant-loop-receiver
invariant-loop-receiver g l = Passed 32 (g.B.RuleBook.meaning l.book) l.types (seen l.column-inside) l.receiver

abbrev pub invariant-loop-right : goal.invariant-loop-right
invariant-loop-right g l = Left ((g.B.RuleBook.meaning l.book).may_add l.to l.column-inside.kind l.held) l.held
    (Add l.receiver) l.right-iterator

abbrev pub invariant-loop-giver : goal.invariant-loop-giver
invariant-loop-giver g l =
    let m = g.B.RuleBook.meaning l.book in
    record {
      none : own 32 m l.types (seen l.column-inside) l.receiver ≡ None;
      passed : Clear (gift 32 m l.types (seen l.column-inside) l.receiver) l.giver;
    }

abbrev pub invariant-loop-right-2 : goal.invariant-loop-right-2
invariant-loop-right-2 g l = Left (given 32 (g.B.RuleBook.meaning l.book) l.types (seen l.column-inside) l.to l.giver) l.held
    (Give l.giver l.receiver) l.right-iterator
