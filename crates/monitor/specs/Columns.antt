-- The columns of the program.
use Rattle.std.specs.Prelude.{◌≡◌, ℕ, ◌≤◌, List, length, take, slice_index_or}
use Rattle.rights.specs.Limits.{max_subjects}
use Rattle.rights.specs.Sets.{nothing}
use Rattle.monitor.specs.States.{Object}

-- a column: the object's type, and what each subject holds for it
pub record Cells : Type 0 where
  pub kind : ℕ
  pub cells : List ℕ

-- a column as an object, where n subjects stand
abbrev pub object_of : ℕ → Cells → Object
object_of n c = record { type = c.kind; cells = take n c.cells }

-- a column has a place for each subject that there may be, and from place n on each is empty
pub record Blank (n : ℕ) (c : Cells) : Type 0 where
  pub full : length c.cells ≡ max_subjects
  pub rest : (s : ℕ) → n ≤ s → slice_index_or c.cells s nothing ≡ nothing
