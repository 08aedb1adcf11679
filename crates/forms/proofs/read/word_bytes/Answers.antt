use Rattle.forms.proofs.Next.{clamped}
use Rattle.forms.proofs.read.word_bytes.Goals as goal

pub returns : goal.returns
returns c = clamped c.args.line.now c.args.word.from c.args.word.upto c.min-from.result c.min-upto.result c.min-upto.ensures c.min-from.ensures
