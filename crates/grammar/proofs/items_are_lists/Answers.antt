use Rattle.grammar.proofs.Entries.{items_are_lists}
use Rattle.grammar.proofs.items_are_lists.Goals as goal

pub returns : goal.returns
returns c = items_are_lists
