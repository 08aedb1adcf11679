-- Lists of numbers, as a declaration has them.
use Rattle.std.specs.Prelude.{ℕ, Bool, false, ◌||◌, List, [], ◌∷◌, ◌==◌, nat_lt}
use Rattle.std.specs.List.{list_any, list_all}
use Rattle.rights.specs.Sets.{nothing, add}

-- is x in the list?
abbrev pub listed : ℕ → List ℕ → Bool
listed x xs = list_any (λ y. x == y) xs

-- does some number stand twice in the list?
abbrev pub twice : List ℕ → Bool
twice [] = false
twice (x ∷ xs) = listed x xs || twice xs

-- is each number below n?
abbrev pub all_below : ℕ → List ℕ → Bool
all_below n xs = list_all (λ x. nat_lt x n) xs

-- the rights of a list as a set
abbrev pub set_of : List ℕ → ℕ
set_of [] = nothing
set_of (x ∷ xs) = add (set_of xs) x
