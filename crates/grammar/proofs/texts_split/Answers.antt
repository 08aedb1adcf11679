use Rattle.grammar.proofs.Texts.{texts_split}
use Rattle.grammar.proofs.texts_split.Goals as goal

pub returns : goal.returns
returns c = texts_split
