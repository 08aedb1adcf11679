use Rattle.std.proofs.Common.{ap, ◌∙◌}
use Rattle.rights.specs.Sets.{add}
use Rattle.rights.proofs.Machine.{add_word}
use Rattle.rights.proofs.set.RightSet.with.Goals as goal

pub returns : goal.returns
returns c =
    rw (← c.self.view_is) (add_word 32 c.self.inside.bits c.number.result c.number.ensures.small ∙ ap (add c.self.inside.bits) c.number.ensures.value)
