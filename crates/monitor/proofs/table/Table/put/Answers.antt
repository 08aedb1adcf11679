use Rattle.std.proofs.Common.{◌<◌, length, vec_items, arith}
use Rattle.std.proofs.lemmas.Grind.{common_steps}
use Rattle.monitor.proofs.Memory.{table_put}
use Rattle.monitor.proofs.table.Table.put.Goals as goal

pub returns : goal.returns
returns c =
    let ts = vec_items c.self.inside.subjects in
    let cs = vec_items c.self.inside.columns in
    let s = c.args.s in
    let o = c.args.o in
    let stands = rw (← c.self.view_is) at c.requires in
    let ls : s < length ts = grind (arith, common_steps) in
    let lo : o < length cs = grind (arith, common_steps) in
    let value = rw (← c.rights.view_is) at c.index_mut.ensures.value in
    rw (← c.self.view_is) (table_put ts cs s o c.args.rights _ ls lo value)
