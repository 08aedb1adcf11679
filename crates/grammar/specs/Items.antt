-- The items of a list, which ones are good, and how they are written.
use Rattle.std.specs.Prelude.{◌≡◌, ℕ, suc, ◌<◌, ◌≤◌, List, [], ◌∷◌, ◌++◌, length}
use Rattle.grammar.specs.Bytes.{class, word_byte}
use Rattle.grammar.specs.Limits.{max_word, max_depth}

-- The items of a list, from the left: none, or some items and then one more, which is a word or a list.
-- A form is a list, so it is given by its items.
pub data Items : Type 0 where
  empty : Items
  with_word : Items → List ℕ → Items
  with_list : Items → Items → Items

-- what stands before the next item: a space, unless it is the first
abbrev pub gap : Items → List ℕ
gap empty = []
gap (with_word xs w) = 32 ∷ []
gap (with_list xs i) = 32 ∷ []

-- what stands between the brackets
abbrev pub inside : Items → List ℕ
inside empty = []
inside (with_word xs w) = inside xs ++ (gap xs ++ w)
inside (with_list xs i) = inside xs ++ (gap xs ++ (40 ∷ (inside i ++ (41 ∷ []))))

abbrev pub render : Items → List ℕ
render xs = 40 ∷ (inside xs ++ (41 ∷ []))

abbrev pub WordBytes : List ℕ → Type 0
WordBytes [] = Unit {0}
WordBytes (b ∷ bs) = (class b ≡ word_byte) × WordBytes bs

pub record GoodWord (w : List ℕ) : Type 0 where
  pub some : 1 ≤ length w
  pub short : length w ≤ max_word
  pub bytes : WordBytes w

-- The items of a list at depth d are good: each word is, and each list is good at the next depth, unless d is the deepest.
abbrev pub Good : ℕ → Items → Type 0
Good d empty = Unit {0}
Good d (with_word xs w) = Good d xs × GoodWord w
Good d (with_list xs i) = Good d xs × (d < max_depth) × Good (suc d) i

abbrev pub GoodForm : Items → Type 0
GoodForm F = Good 1 F

-- the bytes are a good line, with its line end
abbrev pub GoodLine : List ℕ → Type 0
GoodLine bytes = (F : Items) × GoodForm F × (bytes ≡ render F ++ (10 ∷ []))
