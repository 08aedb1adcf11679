use Rattle.grammar.proofs.Texts.{one_split}
use Rattle.grammar.proofs.one_split.Goals as goal

pub returns : goal.returns
returns c = one_split
