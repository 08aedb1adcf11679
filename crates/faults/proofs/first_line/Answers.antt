use Rattle.std.proofs.Common.{rules, tests, ap, ◌∙◌}
use Rattle.std.proofs.lemmas.Fn.{always_returns_same}
use Rattle.faults.proofs.Parts.{first_part}
use Rattle.faults.proofs.first_line.Goals as goal

pub returns : goal.returns
returns c =
    ap (λ part. part.now) c.unwrap_or.ensures
    ∙ first_part _ _ _ _ _ _ c.split.ensures.rest c.split.ensures.done
    (always_returns_same _ _ _ (λ a r q k. search (rules, tests))) c.next.ensures.steps
