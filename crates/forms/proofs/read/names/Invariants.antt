use Rattle.std.proofs.Common.{ℕ, List}
use Rattle.forms.proofs.Next.{WordsSoFar}
use Rattle.forms.proofs.read.names.Given as goal

-- the words so far, with those that are left, are all
abbrev pub invariant-loop-item : goal.invariant-loop-item
invariant-loop-item l = (line : List ℕ) → WordsSoFar line l.item-items l.words.items l.item-index
