use Rattle.std.proofs.Common.{None, rules}
use Rattle.meaning.specs.Declarations.{row_added}
use Rattle.readings.proofs.Settling.{settled_as}
use Rattle.readings.proofs.declare.Line.transform.Goals as goal

pub returns : goal.returns
returns c =
    let s = c.args.draft.now in
    settled_as s c.add_transform.new.self _ (row_added s c.in_ok-by.by None c.in_ok-on.on c.deref.result.now c.deref-2.result.now) _ c.map_err.result (search rules) c.add_transform.ensures c.map_err.ensures.cases
