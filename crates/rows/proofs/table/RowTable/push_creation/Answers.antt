use Rattle.std.proofs.Common.{is_some, vec_items, sym, ap, ◌∙◌, arith}
use Rattle.rows.specs.Rules.{CreationRule}
use Rattle.rows.proofs.Pairs.{still_room, room_left}
use Rattle.rows.proofs.table.RowTable.push_creation.Goals as goal

pub push_reserved-requires : goal.push_reserved-requires
push_reserved-requires c =
    let d : CreationRule = record { by = c.creation.inside.by; on = c.creation.inside.on; gets = c.creation.inside.gets } in
    let found = rw (← c.self.view_is) at c.creation-2.ensures in
    let left = room_left d c.creation.invariant c.self.invariant (ap is_some (sym found) ∙ sym c.is_some.ensures ∙ c.if-is_some.false) in
    omega (arith, c.self.inside.creations.ok.0)

pub invariant_of-self : goal.invariant_of-self
invariant_of-self c =
    let d : CreationRule = record { by = c.creation.inside.by; on = c.creation.inside.on; gets = c.creation.inside.gets } in
    let found = rw (← c.self.view_is) at c.creation-2.ensures in
    rw c.push_reserved.ensures.capacity
    (still_room d c.creation.invariant c.self.invariant (ap is_some (sym found) ∙ sym c.is_some.ensures ∙ c.if-is_some.false)
    (vec_items c.push_reserved.new.self) (cc))
