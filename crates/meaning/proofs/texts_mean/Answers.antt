use Rattle.meaning.proofs.Meanings.{texts_mean}
use Rattle.meaning.proofs.texts_mean.Goals as goal

pub returns : goal.returns
returns c = texts_mean
