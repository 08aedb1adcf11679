use Rattle.std.proofs.Common.{ℕ, ap, ◌∙◌, rules}
use Rattle.rows.specs.Rules.{Rule}
use Rattle.std.proofs.lemmas.Iterator.{YieldsList-from_slice}
use Rattle.std.proofs.lemmas.Iterator.Consumers.{fold_from_yields_List}
use Rattle.std.specs.List.{fold}
use Rattle.rights.specs.Sets.{either}
use Rattle.rows.proofs.Unions.{given, gathers}
use Rattle.rows.proofs.book.gather.Goals as goal

pub returns : goal.returns
returns c =
    let gives = given c.args.by c.args.receiver c.args.on c.args.held in
    let step : ℕ → Rule → ℕ = λ all rule. either all (gives rule) in
    fold_from_yields_List _ step c.empty.result c.fold.result c.fold.ensures.ran
    (YieldsList-from_slice c.args.rows.now cc)
    (λ a x b q k. search rules)
    ∙ ap (λ a. fold step a c.args.rows.now) c.empty.ensures
    ∙ gathers c.args.by c.args.receiver c.args.on c.args.held c.args.rows.now
