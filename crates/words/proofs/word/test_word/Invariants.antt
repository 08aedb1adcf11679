use Rattle.std.proofs.Common.{◌≤◌}
use Rattle.words.proofs.Faults.{RightUpTo}
use Rattle.words.proofs.word.test_word.Given as goal

abbrev pub invariant-loop-at : goal.invariant-loop-at
invariant-loop-at l = (l.at ≤ 24) × RightUpTo l.name l.at
