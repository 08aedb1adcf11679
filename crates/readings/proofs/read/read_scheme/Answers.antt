use Rattle.meaning.proofs.Meanings.{texts_mean}
use Rattle.readings.proofs.read.read_scheme.Goals as goal

pub returns-clause-means : goal.returns-clause-means
returns-clause-means c = texts_mean c.args.text.now c.fix.result (rw c.fix.ensures c.in_ok-read_draft.ensures)
