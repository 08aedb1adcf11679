use Rattle.std.proofs.Common.{rules}
use Rattle.meaning.specs.Declarations.{creation_added}
use Rattle.readings.proofs.Settling.{settled_as}
use Rattle.readings.proofs.declare.Line.create.Goals as goal

pub returns : goal.returns
returns c =
    let s = c.args.draft.now in
    settled_as s c.add_creation.new.self _ (creation_added s c.in_ok-by.by c.in_ok-on.on c.deref.result.now) _ c.map_err.result (search rules) c.add_creation.ensures c.map_err.ensures.cases
