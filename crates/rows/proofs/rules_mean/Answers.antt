use Rattle.rows.specs.Gathering.{rules_mean}
use Rattle.rows.proofs.rules_mean.Goals as goal

pub returns : goal.returns
returns c = rules_mean
