use Rattle.std.proofs.Common.{Some, rules}
use Rattle.meaning.specs.Declarations.{row_added}
use Rattle.readings.proofs.Settling.{settled_as}
use Rattle.readings.proofs.declare.Line.grant.Goals as goal

pub returns : goal.returns
returns c =
    let s = c.args.draft.now in
    settled_as s c.add_grant.new.self _ (row_added s c.in_ok-by.by (Some c.in_ok-to.to) c.in_ok-on.on c.deref.result.now c.deref-2.result.now) _ c.map_err.result (search rules) c.add_grant.ensures c.map_err.ensures.cases
