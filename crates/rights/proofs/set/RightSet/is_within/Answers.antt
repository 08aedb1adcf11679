use Rattle.std.proofs.Common.{rules}
use Rattle.rights.specs.Sets.{inside}
use Rattle.rights.proofs.set.RightSet.is_within.Goals as goal

pub returns : goal.returns
unfolding inside
returns c = search rules
