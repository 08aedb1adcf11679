use Rattle.std.proofs.Common.{◌≡◌, ◌-◌}
use Rattle.flags.specs.Flags.{counted_give}
use Rattle.flags.proofs.book.CopyFlagBook.counted_give.Given as goal

abbrev pub invariant-loop-k : goal.invariant-loop-k
invariant-loop-k l = l.gives ≡ counted_give (l.k - 1) l.held
