use Rattle.std.proofs.lemmas.Result.{err_from_is_err_and}
use Rattle.words.specs.Tree.{shape}
use Rattle.words.proofs.Between.{line_first, line_refused, line_ends, line_other, line_done}
use Rattle.words.proofs.reader.Reader.form.Goals as goal

pub returns-then-first-ne40 : goal.returns-then-first-ne40
returns-then-first-ne40 c = rw (c.stop.ensures, c.refusal_of.ensures) (line_first c.args.self.now.text.now c.in_ok-first.first c.in_ok-first.ensures c.if-first-ne40.true)

pub returns-in_err-form : goal.returns-in_err-form
returns-in_err-form c =
    let p = err_from_is_err_and c.from_residual-in_err-form.result c.from_residual-in_err-form.ensures.1 in
    rw (p.1, p.2) (line_refused c.args.self.now.text.now c.in_ok-first.first c.in_ok-first.ensures c.if-first-ne40.false _ c.in_err-form.ensures)

pub returns-in_err-last : goal.returns-in_err-last
returns-in_err-last c =
    let p = err_from_is_err_and c.from_residual-in_err-last.result c.from_residual-in_err-last.ensures.1 in
    rw (p.1, p.2, c.in_err-last.ensures.1)
    (line_ends c.args.self.now.text.now c.in_ok-first.first c.in_ok-first.ensures c.if-first-ne40.false (shape c.args.self.now.text.now c.in_ok-form.form.items) c.in_ok-form.end
    c.in_ok-form.ensures c.in_err-last.ensures.0)

pub returns-then-last-ne10 : goal.returns-then-last-ne10
returns-then-last-ne10 c =
    rw (c.stop-then-last-ne10.ensures, c.refusal_of-then-last-ne10.ensures)
    (line_other c.args.self.now.text.now c.in_ok-first.first c.in_ok-first.ensures c.if-first-ne40.false (shape c.args.self.now.text.now c.in_ok-form.form.items) c.in_ok-form.end
    c.in_ok-form.ensures c.in_ok-last.last c.in_ok-last.ensures c.if-last-ne10.true)

pub returns : goal.returns
returns c =
    line_done c.args.self.now.text.now c.in_ok-first.first c.in_ok-first.ensures c.if-first-ne40.false (shape c.args.self.now.text.now c.in_ok-form.form.items) c.in_ok-form.end
    c.in_ok-form.ensures c.in_ok-last.last c.in_ok-last.ensures c.if-last-ne10.false
