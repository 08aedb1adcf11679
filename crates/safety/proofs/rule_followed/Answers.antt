use Rattle.safety.proofs.Shown.{rule_followed}
use Rattle.safety.proofs.rule_followed.Goals as goal

pub returns : goal.returns
returns c = rule_followed
