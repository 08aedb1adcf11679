use Rattle.faults.proofs.Found.{lines_found}
use Rattle.faults.proofs.lines_found.Goals as goal

pub returns : goal.returns
returns c = lines_found
