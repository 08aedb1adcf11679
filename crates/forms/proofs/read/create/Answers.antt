use Rattle.std.proofs.Common.{arith}
use Rattle.std.proofs.lemmas.Result.{err_from_is_err_and}
use Rattle.forms.proofs.Steps.{names_denied, word_denied, word_next}
use Rattle.forms.proofs.read.create.Goals as goal

pub returns-in_err-word : goal.returns-in_err-word
returns-in_err-word c =
    let p = err_from_is_err_and c.from_residual-in_err-word.result c.from_residual-in_err-word.ensures.1 in
    rw (p.1, p.2) (λ line. word_denied line _ _ c.in_ok-creator.ensures 0 _ (omega arith) _ _ (c.in_err-word.ensures line))

pub returns-in_err-word-2 : goal.returns-in_err-word-2
returns-in_err-word-2 c =
    let p = err_from_is_err_and c.from_residual-in_err-word-2.result c.from_residual-in_err-word-2.ensures.1 in
    rw (p.1, p.2) (λ line. word_next line _ _ c.in_ok-creator.ensures 0 _ (omega arith) _ _ _ (c.in_ok-word.ensures line) (
    word_denied line _ _ c.in_ok-creator.ensures 1 _ (omega arith) _ _ (c.in_err-word-2.ensures line)))

pub returns-in_err-names : goal.returns-in_err-names
returns-in_err-names c =
    let p = err_from_is_err_and c.from_residual-in_err-names.result c.from_residual-in_err-names.ensures.1 in
    rw (p.1, p.2) (λ line. word_next line _ _ c.in_ok-creator.ensures 0 _ (omega arith) _ _ _ (c.in_ok-word.ensures line) (
    word_next line _ _ c.in_ok-creator.ensures 1 _ (omega arith) _ _ _ (c.in_ok-word-2.ensures line) (
    names_denied line _ _ c.in_ok-creator.ensures 2 _ (omega arith) _ _ (c.in_err-names.ensures line))))
