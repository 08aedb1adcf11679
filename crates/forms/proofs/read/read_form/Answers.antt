use Rattle.std.proofs.Common.{sym, ap, ◌∙◌}
use Rattle.std.proofs.lemmas.Result.{err_from_is_err_and}
use Rattle.meaning.specs.Forms.{head_of, form_with, form_of}
use Rattle.forms.specs.Views.{name_at, form_at}
use Rattle.forms.proofs.Next.{after_first, first_is, headless, headed}
use Rattle.forms.proofs.Steps.{denied}
use Rattle.forms.proofs.read.read_form.Goals as goal

pub returns-in_err-word : goal.returns-in_err-word
returns-in_err-word c =
    let p = err_from_is_err_and c.from_residual.result c.from_residual.ensures.1 in
    let line = c.args.line.now in
    let items = first_is line c.args.items.now c.first-item.result c.in-len1-up.len_at_least c.first-item.is in
    rw (p.1, p.2) (denied (name_at line) (form_at line) _ _ _ (c.in_err-word.ensures line) (λ none. ap form_of items ∙ headless _ _ none))

pub returns-in_err-head : goal.returns-in_err-head
returns-in_err-head c =
    let p = err_from_is_err_and c.from_residual-in_err-head.result c.from_residual-in_err-head.ensures.1 in
    let line = c.args.line.now in
    let items = first_is line c.args.items.now c.first-item.result c.in-len1-up.len_at_least c.first-item.is in
    rw (p.1, p.2) (
      ap form_of items ∙ headed _ _ _ (c.in_ok-word.ensures line)
          ∙ ap (λ h. form_with h (after_first line c.args.items.now)) (ap head_of (sym c.word_bytes.ensures) ∙ c.in_err-head.ensures.0),
      c.in_err-head.ensures.1,
    )

pub returns : goal.returns
returns c =
    let line = c.args.line.now in
    let items = first_is line c.args.items.now c.first-item.result c.in-len1-up.len_at_least c.first-item.is in
    rw (
      items,
      headed _ _ _ (c.in_ok-word.ensures line),
      ap head_of (sym c.word_bytes.ensures) ∙ c.in_ok-head.ensures,
    ) (c.form_with.ensures line)
