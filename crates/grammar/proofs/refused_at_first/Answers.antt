use Rattle.grammar.proofs.Claims.{refused_at_first}
use Rattle.grammar.proofs.refused_at_first.Goals as goal

pub returns : goal.returns
returns c = refused_at_first
