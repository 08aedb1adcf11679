use Rattle.std.proofs.Common.{◌+◌, ◌-◌, ◌*◌, ◌≤◌, length}
use Rattle.words.specs.Tree.{shape, ItemDue}
use Rattle.words.proofs.Between.{ListLeads}
use Rattle.words.proofs.reader.Reader.+item_list.Given as goal

abbrev pub decreases-item : goal.decreases-item
decreases-item l = 2 * l.room

abbrev pub decreases-list : goal.decreases-list
decreases-list l = 2 * l.room + 1

abbrev pub invariant-list-loop-items : goal.invariant-list-loop-items
invariant-list-loop-items l = record {
  from_on : l.from ≤ l.at;
  within : l.at ≤ length l.self.text.now;
  due : ItemDue l.self.text.now l.at (shape l.self.text.now l.items.items);
  leads : ListLeads l.self.text.now l.from (8 - l.room) (shape l.self.text.now l.items.items) l.at;
}

abbrev pub decreases-list-loop-items : goal.decreases-list-loop-items
decreases-list-loop-items l = length l.self.text.now - l.at
