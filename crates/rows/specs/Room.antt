-- What a row table keeps beside its book: room for all that may be declared, and no pair of types with two creations.
use Rattle.std.specs.Prelude.{◌≡◌, ℕ, ◌+◌, ◌*◌, ◌≤◌, Bool, true, false, ◌&&◌, List, length, map, nat_lt}
use Rattle.std.specs.List.{list_all}
use Rattle.rights.specs.Limits.{max_rows, max_subject_types, max_object_types}
use Rattle.rows.specs.Lists.{twice}
use Rattle.rows.specs.Rules.{Rule, CreationRule}

-- the pair of types of a creation, as one number
abbrev pub pair_number : CreationRule → ℕ
pair_number c = c.by * max_object_types + c.on

abbrev pub types_in_range : CreationRule → Bool
types_in_range c = nat_lt c.by max_subject_types && nat_lt c.on max_object_types

pub record HasRoom (rules : List Rule) (row_places : ℕ) (creations : List CreationRule) (creation_places : ℕ) : Type 0 where
  pub few_rows : length rules ≤ max_rows
  pub row_room : max_rows ≤ row_places
  pub in_range : list_all types_in_range creations ≡ true
  pub apart : twice (map pair_number creations) ≡ false
  pub creation_room : max_subject_types * max_object_types ≤ creation_places
