-- The lookup of a name among names, by number.
use Rattle.std.specs.Prelude.{◌≡◌, ℕ, ◌<◌, List, [], length, Some, None, Option, MatchOption, ◌≢◌, slice_index_or}
use Rattle.std.specs.List.{position}
use Rattle.std.specs.Str.{bytes_eq}

-- the first place of the name, or none where no place has it
abbrev pub place_of : List ℕ → List (List ℕ) → Option ℕ
place_of name names = position (λ x. bytes_eq x name) names

-- no place has the name
abbrev pub Nowhere : List ℕ → List (List ℕ) → Type 0
Nowhere name names = (k : ℕ) → k < length names → slice_index_or names k [] ≢ name

-- the first place that has the name
pub record First (name : List ℕ) (names : List (List ℕ)) (i : ℕ) : Type 0 where
  pub within : i < length names
  pub here : slice_index_or names i [] ≡ name
  pub before : (k : ℕ) → k < i → slice_index_or names k [] ≢ name

-- The lookup finds the first place that has the name, and none exactly when no place has it.
pub record LookupFinds : Type 0 where
  pub judged : (name : List ℕ) (names : List (List ℕ)) → MatchOption (place_of name names) (Nowhere name names) (First name names)
  pub settled : (name : List ℕ) (names : List (List ℕ)) (i : ℕ) → First name names i → place_of name names ≡ Some i
  pub missing : (name : List ℕ) (names : List (List ℕ)) → Nowhere name names → place_of name names ≡ None
