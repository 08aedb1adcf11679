use Rattle.std.proofs.Common.{arith, rules, tests, ◌∙◌}
use Rattle.std.proofs.lemmas.Iterator.{YieldsList-from_slice}
use Rattle.std.proofs.lemmas.Iterator.Search.{position_from_yields_List}
use Rattle.std.proofs.lemmas.Grind.{common_steps}
use Rattle.entries.proofs.Places.{is, place_at}
use Rattle.entries.proofs.find.Goals as goal

-- the list is what the iterator goes over, whatever part of the entries that is
pub returns : goal.returns
returns g c =
    let key = g.E.Keyed.key_of in
    let name = c.args.name.now in
    let at = position_from_yields_List (λ e. is name (key e)) _ _ _ c.position.ensures.ran
    (YieldsList-from_slice _ c.iter.ensures.rest) (λ x b q k. search (rules, tests)) in
    let found = at ∙ place_at key name _ in
    grind (arith, common_steps, found)
