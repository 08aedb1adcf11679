use Rattle.std.proofs.Common.{length}
use Rattle.readings.proofs.Reached.{Reached}
use Rattle.readings.proofs.read.read_draft.Given as goal

abbrev pub invariant-loop-rest : goal.invariant-loop-rest
invariant-loop-rest l = Reached l.text l.rest l.number l.draft

abbrev pub decreases-loop-rest : goal.decreases-loop-rest
decreases-loop-rest l = length l.rest
