use Rattle.safety.proofs.Judge.{lists_judged}
use Rattle.safety.proofs.questions_judged.Goals as goal

pub returns : goal.returns
returns c = lists_judged
