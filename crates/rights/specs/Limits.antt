-- How many of each kind there may be. Each kind is numbered from 0.
use Rattle.std.specs.Prelude.{ℕ}

-- rights, and so the width of a set of rights
abbrev pub max_rights : ℕ
max_rights = 32

abbrev pub max_subject_types : ℕ
max_subject_types = 16

abbrev pub max_object_types : ℕ
max_object_types = 16

-- transform and grant rows together
abbrev pub max_rows : ℕ
max_rows = 256

abbrev pub max_subjects : ℕ
max_subjects = 64

abbrev pub max_objects : ℕ
max_objects = 64
