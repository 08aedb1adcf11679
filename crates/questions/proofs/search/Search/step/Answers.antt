use Rattle.std.proofs.Common.{◌<◌, length, take, set, ap, ◌∙◌, arith}
use Rattle.questions.specs.Fields.{field_of}
use Rattle.questions.specs.Moves.{move_of}
use Rattle.questions.proofs.Turns.{moved_by, step_taken}
use Rattle.questions.proofs.search.Search.step.Goals as goal

pub returns-clause-taken : goal.returns-clause-taken
returns-clause-taken g c =
    let s = c.self.inside in
    let types = s.asked.now.table.now.subjects in
    let column = c.column.inside in
    let full = rw (← c.column.view_is) at c.self.invariant in
    let gain = c.in_ok-gain.gain in
    let first = rw (← c.self.view_is, ← c.column.view_is) at c.in_ok-gain.ensures.first in
    let stands : gain.receiver < length types = omega (arith, rw (← c.self.view_is) at c.in_ok-gain.ensures.stands) in
    let room : gain.receiver < length column.cells = omega (arith, s.asked.now.few_subjects, full) in
    let moved = ap (λ x. take (length types) (set column.cells gain.receiver x)) c.with.ensures
    ∙ moved_by (length types) column.cells gain.giver gain.receiver gain.right c.index-column-gain.result stands room
    c.index-column-gain.is in
    rw (← c.self.view_is, ← c.column.view_is)
    (step_taken 32 (g.B.RuleBook.meaning s.asked.now.book.now) _ _ c.step.result (move_of gain) first
    (λ k. field_of types s.asked.now.subject s.asked.now.right s.object (record {
      type = column.kind;
      cells = moved k;
    })) c.step.ensures)
