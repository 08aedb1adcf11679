-- The line that a fault names, as a part of its text.
use Rattle.std.specs.Prelude.{◌≡◌, ℕ, zero, suc, ◌-◌, ◌<◌, ◌≤◌, Bool, ◌⊎◌, List, [], ◌∷◌, ◌++◌, length, ◌==◌}
use Rattle.std.specs.List.{before_first, after_first, count_by}
use Rattle.faults.specs.declared.fault.Text.{Text}
use Rattle.faults.specs.declared.fault.Text.TheVariants.{Scheme, Table}

abbrev pub named_text : Text → List ℕ → List ℕ → List ℕ
named_text Scheme scheme table = scheme
named_text Table scheme table = table

-- is the byte a line end?
abbrev pub is_end : ℕ → Bool
is_end b = b == 10

-- the text after so many line ends
abbrev pub after_ends : ℕ → List ℕ → List ℕ
after_ends zero text = text
after_ends (suc k) text = after_ends k (after_first is_end text)

-- the text before the first line end
abbrev pub first_line : List ℕ → List ℕ
first_line text = before_first is_end text

-- the text from a line on; there is no line 0
abbrev pub from_line : ℕ → List ℕ → List ℕ
from_line zero text = []
from_line (suc k) text = after_ends k text

abbrev pub place_of_line : ℕ → List ℕ → ℕ
place_of_line line text = length text - length (from_line line text)

abbrev pub bytes_of_line : ℕ → List ℕ → List ℕ
bytes_of_line line text = first_line (from_line line text)

-- how many line ends a text has
abbrev pub ends_in : List ℕ → ℕ
ends_in text = count_by is_end text

-- nothing, or a line end and more
abbrev pub AtEnd : List ℕ → Type 0
AtEnd rest = (rest ≡ []) ⊎ ((more : List ℕ) × (rest ≡ 10 ∷ more))

-- The part is the line that k lines precede: the text before it is these lines, with their line ends; it has no line
-- end itself, and reaches up to one or to the text's end.
pub record IsLine (k : ℕ) (text : List ℕ) (place : ℕ) (bytes : List ℕ) : Type 0 where
  pub front : List ℕ
  pub rest : List ℕ
  pub parts : text ≡ front ++ (bytes ++ rest)
  pub begins : place ≡ length front
  pub lines_before : (ends_in front ≡ k) × ((front ≡ []) ⊎ ((lines : List ℕ) × (front ≡ lines ++ (10 ∷ []))))
  pub no_end : ends_in bytes ≡ 0
  pub ends : AtEnd rest

-- the empty part at the text's end
abbrev pub IsNothing : List ℕ → ℕ → List ℕ → Type 0
IsNothing text place bytes = (place ≡ length text) × (bytes ≡ [])

-- A line is found by its number, from 1; line 0 and a line that the text does not have are the empty part at its end.
pub record LinesFound : Type 0 where
  pub a_line : (k : ℕ) (text : List ℕ) → k ≤ ends_in text
      → IsLine k text (place_of_line (suc k) text) (bytes_of_line (suc k) text)
  pub missing : (k : ℕ) (text : List ℕ) → ends_in text < k
      → IsNothing text (place_of_line (suc k) text) (bytes_of_line (suc k) text)
  pub no_line : (text : List ℕ) → IsNothing text (place_of_line 0 text) (bytes_of_line 0 text)
