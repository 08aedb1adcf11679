use Rattle.std.proofs.Common.{rules, tests, ◌≡◌, ap, ◌∙◌, length, arith}
use Rattle.std.proofs.lemmas.List.{places}
use Rattle.std.proofs.lemmas.Fn.{always_returns_same}
use Rattle.faults.specs.Lines.{from_line}
use Rattle.faults.proofs.Ends.{rest_within}
use Rattle.faults.proofs.Parts.{nth_part}
use Rattle.faults.proofs.from_line.Goals as goal

pub returns : goal.returns
returns c =
    let rest : c.unwrap_or.result.now ≡ from_line c.args.line c.args.text.now =
    ap (λ part. part.now) c.unwrap_or.ensures
    ∙ nth_part _ c.nth.new.self _ (search (rules, places)) _ _ _ _ _ c.splitn.ensures.rest c.splitn.ensures.done
    (always_returns_same _ _ _ (λ a r q k. search (rules, tests)))
    c.splitn.ensures.count c.saturating_sub.ensures c.nth.ensures.ran in
    record { within = omega (arith, ap length rest, rest_within c.args.line c.args.text.now); rest = rest }
