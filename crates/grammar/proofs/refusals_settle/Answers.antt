use Rattle.grammar.proofs.Settles.{refusals_settle}
use Rattle.grammar.proofs.refusals_settle.Goals as goal

pub returns : goal.returns
returns c = refusals_settle
