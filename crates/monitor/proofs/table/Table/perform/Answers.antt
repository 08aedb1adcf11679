use Rattle.monitor.proofs.Memory.{well_formed}
use Rattle.monitor.proofs.Obedience.{obeyed}
use Rattle.monitor.specs.States.{WellFormed}
use Rattle.monitor.proofs.table.Table.perform.Goals as goal

pub returns-clause-law : goal.returns-clause-law
returns-clause-law g c =
    let S = c.args.self.now in
    let wf : WellFormed S = rw (← c.self.view_is) (well_formed c.self.inside c.self.invariant) in
    obeyed 32 (g.B.RuleBook.meaning c.args.book.now) S wf c.args.step c.dispatch.new.self c.dispatch.result c.dispatch.ensures
