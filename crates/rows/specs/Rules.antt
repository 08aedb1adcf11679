-- Rules, by number, and what a book of rules means.
use Rattle.std.specs.Prelude.{◌≡◌, ℕ, ◌<◌, Bool, cond, ◌&&◌, T, List, [], ◌∷◌, ◌++◌, length, Some, None, Option, ◌==◌, nat_eq, slice_index_or}
use Rattle.std.specs.List.{find}
use Rattle.std.specs.Option.{option_eq, option_map}
use Rattle.rights.specs.Sets.{nothing, has, either, inside, Within}
use Rattle.books.specs.Meaning.{Meaning}

-- A subject of type by that holds all of need for an object of type on may add what is in gives for itself (a transform:
-- there is no receiver) or give it to another subject, of the receiver's type (a grant).
pub record Rule : Type 0 where
  pub by : ℕ
  pub receiver : Option ℕ
  pub on : ℕ
  pub need : ℕ
  pub gives : ℕ

-- A subject of type by may create an object of type on, and gets this set for it.
pub record CreationRule : Type 0 where
  pub by : ℕ
  pub on : ℕ
  pub gets : ℕ

pub record Book : Type 0 where
  -- transforms and grants in the order of declaration
  pub rules : List Rule
  -- in the order of declaration
  pub creations : List CreationRule
  -- the right that marks an owner, if one is declared
  pub mark : Option ℕ

abbrev pub empty_book : Book
empty_book = record { rules = []; creations = []; mark = None }

-- is it a rule for these types, and is its whole need held?
abbrev pub applies : ℕ → Option ℕ → ℕ → ℕ → Rule → Bool
applies u receiver o held rule =
    (rule.by == u) && option_eq nat_eq rule.receiver receiver && rule.on == o && inside rule.need held

-- the union of what all the rules give that apply
abbrev pub gathered : ℕ → Option ℕ → ℕ → ℕ → List Rule → ℕ
gathered u receiver o held [] = nothing
gathered u receiver o held (rule ∷ rules) =
    either (cond (applies u receiver o held rule) rule.gives nothing) (gathered u receiver o held rules)

abbrev pub is_pair : ℕ → ℕ → CreationRule → Bool
is_pair u o c = c.by == u && c.on == o

-- what the creation of the pair brings, if there is one
abbrev pub created : ℕ → ℕ → List CreationRule → Option ℕ
created u o cs = option_map (λ c. c.gets) (find (is_pair u o) cs)

-- one more rule or creation, at the end
abbrev pub more_rules : Book → Rule → Book
more_rules b rule = record { rules = b.rules ++ (rule ∷ []); creations = b.creations; mark = b.mark }

abbrev pub more_creations : Book → CreationRule → Book
more_creations b c = record { rules = b.rules; creations = b.creations ++ (c ∷ []); mark = b.mark }

-- this right marks an owner
abbrev pub marked : Book → ℕ → Book
marked b r = record { rules = b.rules; creations = b.creations; mark = Some r }

abbrev pub book_meaning : Book → Meaning
book_meaning b = record {
  may_add = λ u o held. gathered u None o held b.rules;
  may_give = λ u v o held. gathered u (Some v) o held b.rules;
  creation = λ u o. created u o b.creations;
  owner = b.mark;
}

abbrev pub no_rule : Rule
no_rule = record { by = 0; receiver = None; on = 0; need = nothing; gives = nothing }

-- a rule for these types gives r under this held set
pub record Gives (u : ℕ) (receiver : Option ℕ) (o held r : ℕ) (rule : Rule) : Type 0 where
  pub its_by : rule.by ≡ u
  pub its_receiver : rule.receiver ≡ receiver
  pub its_on : rule.on ≡ o
  pub its_need : Within rule.need held
  pub its_gift : T (has rule.gives r)

-- some rule of the list does
abbrev pub Given : ℕ → Option ℕ → ℕ → ℕ → ℕ → List Rule → Type 0
Given u receiver o held r rules = (k : ℕ) × (k < length rules) × Gives u receiver o held r (slice_index_or rules k no_rule)

-- A right is in the answer exactly when some rule for those types, with its whole need held, gives it.
pub record RulesMean : Type 0 where
  pub shown : (u : ℕ) (receiver : Option ℕ) (o held r : ℕ) (rules : List Rule) → T (has (gathered u receiver o held rules) r) → Given u receiver o held r rules
  pub found : (u : ℕ) (receiver : Option ℕ) (o held r : ℕ) (rules : List Rule) → Given u receiver o held r rules → T (has (gathered u receiver o held rules) r)
