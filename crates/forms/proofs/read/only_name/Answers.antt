use Rattle.std.proofs.Common.{arith}
use Rattle.forms.proofs.Steps.{made}
use Rattle.forms.proofs.read.only_name.Goals as goal

pub returns : goal.returns
returns c = λ line make. made line _ _ c.in_ok-name.ensures _ (omega arith) make _ (c.word.ensures line)
