use Rattle.rights.proofs.SetLaws.{set_laws}
use Rattle.rights.proofs.set_laws_stand.Goals as goal

pub returns : goal.returns
returns c = set_laws
