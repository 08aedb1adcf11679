use Rattle.std.proofs.Common.{ap, ◌∙◌}
use Rattle.rights.specs.Sets.{below}
use Rattle.rights.proofs.Machine.{below_word}
use Rattle.rights.proofs.set.RightSet.below.Goals as goal

pub returns : goal.returns
returns c = below_word 32 c.number.result c.number.ensures.small ∙ ap below c.number.ensures.value
