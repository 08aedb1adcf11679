use Rattle.std.proofs.Common.{◌≡◌, true, ap, ◌∙◌}
use Rattle.rights.specs.Sets.{has, remove}
use Rattle.rights.proofs.Machine.{remove_word, remove_absent}
use Rattle.rights.proofs.set.RightSet.without.Goals as goal

pub returns-then-contains : goal.returns-then-contains
returns-then-contains c =
    let held : has c.self.inside.bits c.number.result ≡ true = cc in
    rw (← c.self.view_is) (remove_word 32 c.self.inside.bits c.number.result c.number.ensures.small held ∙ ap (remove c.self.inside.bits) c.number.ensures.value)

pub returns-else-contains : goal.returns-else-contains
returns-else-contains c = c.self.view_is ∙ remove_absent c.args.self c.args.right (cc)
