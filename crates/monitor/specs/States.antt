-- The table of rights.
use Rattle.std.specs.Prelude.{◌≡◌, ℕ, ◌<◌, ◌≤◌, Bool, ◌&&◌, List, [], ◌∷◌, ◌++◌, map, length, replicate, nat_lt, slice_index, slice_index_or, slice_set}
use Rattle.rights.specs.Limits.{max_subjects}
use Rattle.rights.specs.Sets.{nothing}

-- An object: its type, and a cell for each subject, which is the set of rights that this subject holds for it.
pub record Object : Type 0 where
  pub type : ℕ
  pub cells : List ℕ

-- The type of each subject, and the objects. Both go by number, from 0.
pub record State : Type 0 where
  pub subjects : List ℕ
  pub objects : List Object

abbrev pub no_object : Object
no_object = record { type = 0; cells = [] }

abbrev pub object : State → ℕ → Object
object S o = slice_index_or S.objects o no_object

-- the type of a subject, and what it holds for an object
abbrev pub type_of : State → ℕ → ℕ
type_of S s = slice_index S.subjects s

abbrev pub cell : State → ℕ → ℕ → ℕ
cell S s o = slice_index_or (object S o).cells s nothing

abbrev pub is_subject : State → ℕ → Bool
is_subject S s = nat_lt s (length S.subjects)

abbrev pub is_object : State → ℕ → Bool
is_object S o = nat_lt o (length S.objects)

-- do the subject and the object stand in the table?
abbrev pub in_table : State → ℕ → ℕ → Bool
in_table S s o = is_subject S s && is_object S o

-- Every table is well-formed: at most 64 subjects, and for each object a cell for each subject.
pub record WellFormed (S : State) : Type 0 where
  pub few : length S.subjects ≤ max_subjects
  pub square : (o : ℕ) → o < length S.objects → length (object S o).cells ≡ length S.subjects

abbrev pub empty_table : State
empty_table = record { subjects = []; objects = [] }

-- the table with one more subject, which holds nothing
abbrev pub with_subject : State → ℕ → State
with_subject S u = record {
  subjects = S.subjects ++ (u ∷ []);
  objects = map (λ x. record { type = x.type; cells = x.cells ++ (nothing ∷ []) }) S.objects;
}

-- the table with one more object, for which nobody holds anything
abbrev pub with_object : State → ℕ → State
with_object S t = record {
  subjects = S.subjects;
  objects = S.objects ++ (record { type = t; cells = replicate (length S.subjects) nothing } ∷ []);
}

-- the table with another set in one cell
abbrev pub with_cell : State → ℕ → ℕ → ℕ → State
with_cell S s o rights = record {
  subjects = S.subjects;
  objects = slice_set S.objects o (record { type = (object S o).type; cells = slice_set (object S o).cells s rights });
}
