use Rattle.std.proofs.Common.{not, get_or, Ok, sym, ap, ◌∙◌}
use Rattle.rights.specs.declared.refusal.Refusal.TheVariants.{Repeated}
use Rattle.rights.proofs.Checks.{checked_ok, demand_failed}
use Rattle.rows.specs.Lists.{twice, set_of}
use Rattle.rows.proofs.Numbers.{twice_found, twice_not_yet, set_grows}
use Rattle.rows.proofs.declare.set_from.Goals as goal

pub returns-then-contains : goal.returns-then-contains
returns-then-contains c =
    let xs = c.args.numbers.now in
    let i = c.loop-number.number-index in
    let is = (checked_ok 32 (get_or xs i 0) c.in_ok-right.right c.in_ok-right.ensures).0 in
    let again = twice_found xs i c.in_ok-right.right c.loop-number.all c.loop-number-test.true is c.loop-number.invariant.1 (sym c.if-contains.ensures) in
    sym (demand_failed (not (twice xs)) Repeated (Ok (set_of xs)) (ap not again))

pub loop-number-preserved : goal.loop-number-preserved
loop-number-preserved c =
    let xs = c.args.numbers.now in
    let i = c.loop-number.number-index in
    let r = c.in_ok-right.right in
    let is = (checked_ok 32 (get_or xs i 0) r c.in_ok-right.ensures).0 in (
      twice_not_yet xs i r c.loop-number.all c.loop-number-test.true is c.loop-number.invariant.1 (sym c.if-contains.ensures) c.loop-number.invariant.0,
      c.with-all.ensures ∙ set_grows xs i r c.loop-number.all c.loop-number-test.true is c.loop-number.invariant.1,
    )
