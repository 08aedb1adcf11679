-- The union of what rows give, as a fold over what each gives.
use Rattle.std.proofs.Common.{◌≡◌, ℕ, cond, List, [], ◌∷◌, Option, sym, ◌∙◌}
use Rattle.std.specs.List.{fold}
use Rattle.rights.specs.Sets.{nothing, either}
use Rattle.rights.proofs.SetLaws.{either_assoc, either_none, none_either}
use Rattle.rows.specs.Rules.{Rule, applies, gathered}

module _ (u : ℕ) (receiver : Option ℕ) (o held : ℕ) where
  abbrev pub given : Rule → ℕ
  given rule = cond (applies u receiver o held rule) rule.gives nothing

  from : (all : ℕ) (rules : List Rule) → fold (λ a rule. either a (given rule)) all rules ≡ either all (gathered u receiver o held rules)
  from all [] = sym (none_either all)
  from all (rule ∷ rules) = from (either all (given rule)) rules ∙ either_assoc all (given rule) (gathered u receiver o held rules)

  pub gathers : (rules : List Rule) → fold (λ a rule. either a (given rule)) nothing rules ≡ gathered u receiver o held rules
  gathers rules = from nothing rules ∙ either_none (gathered u receiver o held rules)
