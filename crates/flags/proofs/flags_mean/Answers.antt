use Rattle.flags.specs.Passing.{meaning_stands}
use Rattle.flags.proofs.flags_mean.Goals as goal

pub returns : goal.returns
returns c = meaning_stands
