use Rattle.grammar.proofs.Words.{words_judged}
use Rattle.grammar.proofs.words_judged.Goals as goal

pub returns : goal.returns
returns c = words_judged
