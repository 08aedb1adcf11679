use Rattle.std.proofs.Common.{◌+◌, sym, subst, arith, rules, Ok, ◌≡◌}
use Rattle.std.proofs.lemmas.List.{take_rest}
use Rattle.std.proofs.lemmas.Result.{err_from_is_err_and}
use Rattle.words.specs.Tree.{shape}
use Rattle.meaning.specs.Schemes.{line_meant}
use Rattle.readings.specs.Results.{Failure}
use Rattle.readings.proofs.Reached.{Reached, unchanged, was_declared, reached_more, reached_all, not_declared, not_read}
use Rattle.readings.proofs.read.read_draft.Goals as goal

pub returns-in_err-items : goal.returns-in_err-items
returns-in_err-items c =
    let p = err_from_is_err_and c.from_residual-in_err-items.result c.from_residual-in_err-items.ensures.1 in
    rw (p.1, p.2)
    (not_read c.args.text.now c.loop-rest.rest.now c.loop-rest.number c.loop-rest.draft c.loop-rest.invariant c.if-text-gt-MAX_TEXT.false c.line.result _ _ c.in_err-items.field-0.0 (grind arith) c.line.ensures.means c.in_err-items.ensures.cases (λ e q. search rules))

pub returns-in_err-map_err : goal.returns-in_err-map_err
returns-in_err-map_err c =
    let p = err_from_is_err_and c.from_residual-in_err-map_err.result c.from_residual-in_err-map_err.ensures.1 in
    rw (p.1, p.2)
    (not_declared c.args.text.now c.loop-rest.rest.now c.loop-rest.number c.loop-rest.draft c.loop-rest.invariant c.if-text-gt-MAX_TEXT.false c.in_ok-items.end
    (shape c.loop-rest.rest.now c.deref.result.now) c.declare_line.new.draft c.declare_line.result _ c.in_err-map_err.field-0.0
    (rw c.deref.ensures.value (unchanged Failure c.line.result (c.in_ok-items.items, c.in_ok-items.end) _ _ c.line.ensures.means c.in_ok-items.ensures.cases)) c.declare_line.ensures c.in_err-map_err.ensures.cases (λ e q. search rules))

pub loop-rest-preserved : goal.loop-rest-preserved
loop-rest-preserved c =
    let F = shape c.loop-rest.rest.now c.deref.result.now in
    let declared : line_meant c.loop-rest.draft F ≡ Ok c.declare_line.new.draft = was_declared (line_meant c.loop-rest.draft F) c.loop-rest.draft c.declare_line.new.draft c.declare_line.result c.declare_line.ensures c.in_ok-map_err.ensures.cases in
    subst (λ l. Reached c.args.text.now l (c.loop-rest.number + 1) c.declare_line.new.draft) (sym (take_rest c.loop-rest.rest.now c.in_ok-items.end))
    (reached_more c.args.text.now c.loop-rest.rest.now c.loop-rest.number c.loop-rest.draft c.loop-rest.invariant c.in_ok-items.end F c.declare_line.new.draft
    (rw c.deref.ensures.value (unchanged Failure c.line.result (c.in_ok-items.items, c.in_ok-items.end) _ _ c.line.ensures.means c.in_ok-items.ensures.cases))
    declared)

pub returns : goal.returns
returns c = reached_all c.args.text.now c.loop-rest.rest.now c.loop-rest.number c.loop-rest.draft c.loop-rest.invariant c.if-text-gt-MAX_TEXT.false (grind arith)
