use Rattle.std.proofs.Common.{◌≤◌, length, vec_items, vec_len, arith}
use Rattle.std.proofs.lemmas.Grind.{common_steps}
use Rattle.std.proofs.lemmas.List.Elements.{All-push}
use Rattle.monitor.specs.Columns.{Blank}
use Rattle.monitor.proofs.Memory.{fresh, fresh_blank, table_object}
use Rattle.monitor.proofs.table.Table.push_object.Goals as goal

pub invariant_of-self : goal.invariant_of-self
invariant_of-self c =
    let n = vec_len c.self.inside.subjects in
    let cs = vec_items c.self.inside.columns in
    let kind = c.args.kind in
    record {
      few_subjects = c.self.invariant.few_subjects;
      subject_room = c.self.invariant.subject_room;
      few_objects = grind (arith, common_steps);
      object_room = omega arith;
      blank = rw (c.push_reserved.ensures.items, c.empty-cells.ensures)
          (All-push (Blank n) cs (fresh kind) c.self.invariant.blank (fresh_blank n kind));
    }

pub returns : goal.returns
returns c =
    let ts = vec_items c.self.inside.subjects in
    let cs = vec_items c.self.inside.columns in
    let few : length ts ≤ 64 = omega (arith, c.self.invariant.few_subjects, c.self.inside.subjects.ok.0) in
    rw (c.push_reserved.ensures.items, c.empty-cells.ensures, ← c.self.view_is) (table_object ts cs c.args.kind few)
