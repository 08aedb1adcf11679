use Rattle.std.proofs.Common.{◌≡◌, ◌+◌, ◌-◌, length}
use Rattle.questions.specs.Fields.{ahead, onward}
use Rattle.questions.proofs.search.Search.reach.Given as goal

abbrev pub invariant-loop-move : goal.invariant-loop-move
invariant-loop-move g l = record {
  count : length l.run ≡ length l.initial.run + l._move;
  before : onward l.initial.run (ahead 32 (g.B.RuleBook.meaning l.initial.self.0) 2048 l.initial.self.1) ≡ onward
      l.run (ahead 32 (g.B.RuleBook.meaning l.self.0) (2048 - l._move) l.self.1);
}
