use Rattle.std.proofs.Common.{◌≡◌, ◌≤◌, length, None, sym, ◌∙◌, arith}
use Rattle.safety.specs.declared.question.Move.TheVariants.{Add, Give}
use Rattle.questions.proofs.Loops.{gift, no_new_gift, clear_more, clear_none, clear_to, left_none, left_more, left_found, own_is, gift_is, no_gift, nothing_to, found_own, found_gift, found_none, seen}
use Rattle.questions.proofs.search.Search.next_move.Goals as goal
use Rattle.questions.proofs.search.Search.next_move.Goals.{then-giver-receiver-via-then-giver-receiver, then-giver-receiver-via-else-giver-receiver+then-is_within}

pub loop-right-preserved : goal.loop-right-preserved
loop-right-preserved g c =
    let step = c.in-Some.ensures.steps in
    left_more _ _ _ 32 _ c.loop-right.invariant c.in-Some.right _ step.0 step.1 c.if-not-contains.ensures

pub loop-giver-init : goal.loop-giver-init
loop-giver-init g c =
    let types = c.subject_types-types.result.now in
    let column = seen c.column.inside in
    let m = g.B.RuleBook.meaning c.self.inside.asked.now.book.now in
    let d = c.loop-receiver.receiver in
    let room : length types ≤ length column.cells
    = let full = rw (← c.column.view_is) at c.self.invariant in omega (arith, c.subject_types-types.ensures.few, full) in
    let is = own_is 32 m types column room d c.index-types-receiver.result c.index-column-receiver.result
    c.loop-receiver-test.true c.index-types-receiver.is c.index-column-receiver.is in
    let none = left_none _ _ _ 32 _ c.loop-right.invariant c.in-None.ensures.steps.0 in
    record { none = sym is ∙ none; passed = clear_none _ }

pub loop-giver-preserved-then-giver-receiver : goal.loop-giver-preserved-then-giver-receiver
loop-giver-preserved-then-giver-receiver g c =
    let types = c.subject_types-types.result.now in
    let column = seen c.column.inside in
    let m = g.B.RuleBook.meaning c.self.inside.asked.now.book.now in
    let d = c.loop-receiver.receiver in
    let s = c.loop-giver.giver in
    let room : length types ≤ length column.cells
    = let full = rw (← c.column.view_is) at c.self.invariant in omega (arith, c.subject_types-types.ensures.few, full) in
    let none : gift 32 m types column d s ≡ None = elim c.then-giver-receiver.branch [
      | then-giver-receiver-via-then-giver-receiver w ↦ no_gift 32 m types column d s w.if-giver-receiver.true
      | then-giver-receiver-via-else-giver-receiver+then-is_within w ↦ no_new_gift 32 m types column room d
          c.index-types-receiver.result c.index-column-receiver.result
          c.loop-receiver-test.true c.index-types-receiver.is c.index-column-receiver.is s c.index-types-giver.result
          c.index-column-giver.result c.may_give-gift.result
          c.loop-giver-test.true w.if-giver-receiver.false c.index-types-giver.is c.index-column-giver.is
          c.may_give-gift.ensures w.if-is_within.ensures
    ] in
    record { none = c.loop-giver.invariant.none; passed = clear_more _ _ c.loop-giver.invariant.passed none }

pub loop-right-2-preserved : goal.loop-right-2-preserved
loop-right-2-preserved g c =
    let step = c.in-Some-right.ensures.steps in
    left_more _ _ _ 32 _ c.loop-right-2.invariant c.in-Some-right.right _ step.0 step.1 c.if-not-contains-2.ensures

pub loop-giver-preserved : goal.loop-giver-preserved
loop-giver-preserved g c =
    let types = c.subject_types-types.result.now in
    let column = seen c.column.inside in
    let m = g.B.RuleBook.meaning c.self.inside.asked.now.book.now in
    let d = c.loop-receiver.receiver in
    let s = c.loop-giver.giver in
    let room : length types ≤ length column.cells
    = let full = rw (← c.column.view_is) at c.self.invariant in omega (arith, c.subject_types-types.ensures.few, full) in
    let is = gift_is 32 m types column room d c.index-types-receiver.result c.index-column-receiver.result
    c.loop-receiver-test.true c.index-types-receiver.is c.index-column-receiver.is s c.loop-giver-test.true
    c.if-giver-receiver.false in
    let none = left_none _ _ _ 32 _ c.loop-right-2.invariant c.in-None-right.ensures.steps.0 in
    record { none = c.loop-giver.invariant.none; passed = clear_more _ _ c.loop-giver.invariant.passed (sym is ∙ none) }

pub loop-receiver-preserved : goal.loop-receiver-preserved
loop-receiver-preserved g c =
    let types = c.subject_types-types.result.now in
    let column = seen c.column.inside in
    let m = g.B.RuleBook.meaning c.self.inside.asked.now.book.now in
    let invariant = c.loop-giver.invariant in
    clear_more _ _ c.loop-receiver.invariant (nothing_to 32 m types column c.loop-receiver.receiver invariant.none
    (clear_to _ _ _ c.loop-giver-test.false invariant.passed))

pub returns-then-not-contains-clause-first : goal.returns-then-not-contains-clause-first
returns-then-not-contains-clause-first g c =
    let types = c.subject_types-types.result.now in
    let column = seen c.column.inside in
    let m = g.B.RuleBook.meaning c.self.inside.asked.now.book.now in
    let d = c.loop-receiver.receiver in
    let room : length types ≤ length column.cells
    = let full = rw (← c.column.view_is) at c.self.invariant in omega (arith, c.subject_types-types.ensures.few, full) in
    let is = own_is 32 m types column room d c.index-types-receiver.result c.index-column-receiver.result
    c.loop-receiver-test.true c.index-types-receiver.is c.index-column-receiver.is in
    rw (← c.self.view_is, ← c.column.view_is, ← c.subject_types-types.ensures.value)
    (sym (found_own 32 m types column d (Add d c.in-Some.right) c.loop-receiver-test.true c.loop-receiver.invariant
    (sym is ∙ left_found _ _ _ 32 _ c.loop-right.invariant c.in-Some.right c.in-Some.ensures.steps.0
    c.if-not-contains.ensures)))

pub returns-then-not-contains-2-clause-first : goal.returns-then-not-contains-2-clause-first
returns-then-not-contains-2-clause-first g c =
    let types = c.subject_types-types.result.now in
    let column = seen c.column.inside in
    let m = g.B.RuleBook.meaning c.self.inside.asked.now.book.now in
    let d = c.loop-receiver.receiver in
    let s = c.loop-giver.giver in
    let room : length types ≤ length column.cells
    = let full = rw (← c.column.view_is) at c.self.invariant in omega (arith, c.subject_types-types.ensures.few, full) in
    let is = gift_is 32 m types column room d c.index-types-receiver.result c.index-column-receiver.result
    c.loop-receiver-test.true c.index-types-receiver.is c.index-column-receiver.is s c.loop-giver-test.true
    c.if-giver-receiver.false in
    let found = left_found _ _ _ 32 _ c.loop-right-2.invariant c.in-Some-right.right
    c.in-Some-right.ensures.steps.0 c.if-not-contains-2.ensures in
    let invariant = c.loop-giver.invariant in
    rw (← c.self.view_is, ← c.column.view_is, ← c.subject_types-types.ensures.value)
    (sym (found_gift 32 m types column d s (Give s d c.in-Some-right.right) c.loop-receiver-test.true
    c.loop-receiver.invariant invariant.none c.loop-giver-test.true invariant.passed (sym is ∙ found)))

pub returns-after-loop-receiver-clause-first : goal.returns-after-loop-receiver-clause-first
returns-after-loop-receiver-clause-first g c =
    let types = c.subject_types-types.result.now in
    let column = seen c.column.inside in
    let m = g.B.RuleBook.meaning c.self.inside.asked.now.book.now in
    rw (← c.self.view_is, ← c.column.view_is, ← c.subject_types-types.ensures.value)
    (sym (found_none 32 m types column c.loop-receiver.receiver c.loop-receiver-test.false c.loop-receiver.invariant))
