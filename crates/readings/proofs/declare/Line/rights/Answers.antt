use Rattle.std.proofs.Common.{◌+◌, vec_items, sym, ap, ◌∙◌}
use Rattle.std.proofs.lemmas.Result.{err_from_is_err_and}
use Rattle.words.specs.declared.tree.Word.{Word}
use Rattle.readings.proofs.Finding.{with_found, left, found_here, missing_here}
use Rattle.readings.proofs.declare.Line.rights.Goals as goal

abbrev nowhere : Word
nowhere = record { from = 0; upto = 0 }

pub returns-in_err-right : goal.returns-in_err-right
returns-in_err-right c =
    let p = err_from_is_err_and c.from_residual.result c.from_residual.ensures.1 in
    rw (p.1, p.2)
    (sym c.loop-name.invariant
    ∙ missing_here c.args.self.now.bytes.now c.args.names.now c.args.draft.now.names.rights c.loop-name.name-index nowhere c.loop-name-test.true (vec_items c.loop-name.numbers)
    c.in_err-right.field-0.0 c.in_err-right.ensures)

pub loop-name-preserved : goal.loop-name-preserved
loop-name-preserved c =
    let known = c.args.draft.now.names.rights in
    let line = c.args.self.now.bytes.now in
    let i = c.loop-name.name-index in
    ap (λ ks. with_found ks (left line c.args.names.now known (i + 1))) c.in_ok-push.ensures.items
    ∙ sym (found_here line c.args.names.now known i nowhere c.loop-name-test.true (vec_items c.loop-name.numbers) c.in_ok-right.field-0 c.in_ok-right.ensures)
    ∙ c.loop-name.invariant
