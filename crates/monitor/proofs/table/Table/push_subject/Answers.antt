use Rattle.std.proofs.Common.{◌<◌, length, vec_items}
use Rattle.monitor.proofs.Memory.{table_subject}
use Rattle.monitor.proofs.table.Table.push_subject.Goals as goal

pub returns : goal.returns
returns c =
    let ts = vec_items c.self.inside.subjects in
    let cs = vec_items c.self.inside.columns in
    let few : length ts < 64 = rw (← c.self.view_is) at c.requires in
    let blank = rw c.self.inside.subjects.ok.0 at c.self.invariant.blank in
    rw (c.push_reserved.ensures.items, ← c.self.view_is) (table_subject ts c.args.kind cs few blank)
