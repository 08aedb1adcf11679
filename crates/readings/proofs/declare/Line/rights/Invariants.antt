use Rattle.std.proofs.Common.{◌≡◌, vec_items}
use Rattle.readings.proofs.Finding.{with_found, left}
use Rattle.readings.proofs.declare.Line.rights.Given as goal

-- the numbers so far, with those of the names that are left, are all
abbrev pub invariant-loop-name : goal.invariant-loop-name
invariant-loop-name l =
    with_found (vec_items l.numbers) (left l.self.bytes.now l.names l.draft.names.rights l.name-index)
    ≡ left l.self.bytes.now l.names l.draft.names.rights 0
