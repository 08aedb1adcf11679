use Rattle.std.proofs.Common.{rules}
use Rattle.rights.specs.Sets.{either}
use Rattle.rights.proofs.set.RightSet.union.Goals as goal

pub returns : goal.returns
unfolding either
returns c = search rules
