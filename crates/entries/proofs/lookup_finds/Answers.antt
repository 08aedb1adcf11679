use Rattle.entries.proofs.Places.{lookup_finds}
use Rattle.entries.proofs.lookup_finds.Goals as goal

pub returns : goal.returns
returns c = lookup_finds
