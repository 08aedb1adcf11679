use Rattle.std.proofs.Common.{ap, ◌∙◌}
use Rattle.rights.specs.Sets.{has}
use Rattle.rights.proofs.Machine.{has_word}
use Rattle.rights.proofs.set.RightSet.contains.Goals as goal

pub returns : goal.returns
returns c = rw (← c.self.view_is) (has_word c.self.inside.bits c.number.result ∙ ap (has c.self.inside.bits) c.number.ensures.value)
