-- The items of a list as a list from the left, and what stands between its brackets by that: one space between two items,
-- none at either end.
use Rattle.std.specs.Prelude.{◌≡◌, ℕ, List, [], ◌∷◌, ◌++◌}
use Rattle.grammar.specs.Items.{Items, empty, with_word, with_list, inside, render}

pub data Item : Type 0 where
  word : List ℕ → Item
  list : Items → Item

abbrev pub entries : Items → List Item
entries empty = []
entries (with_word xs w) = entries xs ++ (word w ∷ [])
entries (with_list xs i) = entries xs ++ (list i ∷ [])

abbrev pub written : Item → List ℕ
written (word w) = w
written (list i) = render i

abbrev pub spaced : List Item → List ℕ
spaced [] = []
spaced (x ∷ xs) = 32 ∷ (written x ++ spaced xs)

abbrev pub joined : List Item → List ℕ
joined [] = []
joined (x ∷ xs) = written x ++ spaced xs

pub record ItemsAreLists : Type 0 where
  pub text : (xs : Items) → inside xs ≡ joined (entries xs)
  -- each list of items is one, and just one
  pub any : (ys : List Item) → (xs : Items) × (entries xs ≡ ys)
  pub once : (xs ys : Items) → entries xs ≡ entries ys → xs ≡ ys
