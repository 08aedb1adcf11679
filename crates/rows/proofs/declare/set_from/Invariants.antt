use Rattle.std.proofs.Common.{◌≡◌, false, take}
use Rattle.rows.specs.Lists.{twice, set_of}
use Rattle.rows.proofs.declare.set_from.Given as goal

abbrev pub invariant-loop-number : goal.invariant-loop-number
invariant-loop-number l = (twice (take l.number-index l.numbers) ≡ false) × (l.all ≡ set_of (take l.number-index l.numbers))
