use Rattle.monitor.proofs.Memory.{well_formed}
use Rattle.monitor.proofs.table.Table.subject_types.Goals as goal

pub returns-clause-well_formed : goal.returns-clause-well_formed
returns-clause-well_formed c = rw (← c.self.view_is) (well_formed c.self.inside c.self.invariant)
