use Rattle.std.proofs.Common.{set, replicate, ap, ◌∙◌}
use Rattle.std.proofs.lemmas.List.{take-replicate}
use Rattle.monitor.proofs.Memory.{take_set_lt}
use Rattle.questions.proofs.ask.fresh_column.Goals as goal

pub returns : goal.returns
returns c =
    let e = c.empty-cells.result in
    let x = c.args.rights in
    λ n lc ln.
    (λ k. record {
      type = c.args.kind;
      cells = (take_set_lt n (replicate 64 e) c.args.creator x lc ∙ ap (λ l. set l c.args.creator x) (take-replicate
          n 64 e ln ∙ ap (replicate n) c.empty-cells.ensures)) k;
    })
