-- The memory of a table: what it holds, and what is true of it.
use Rattle.std.specs.Prelude.{◌≤◌, map, length, All, vec_items, vec_len, vec_capacity}
use Rattle.rights.specs.Limits.{max_subjects, max_objects}
use Rattle.monitor.specs.declared.table.Table.TheInside.{Inside}
use Rattle.monitor.specs.States.{State}
use Rattle.monitor.specs.Columns.{object_of, Blank}

abbrev pub state_of : Inside → State
state_of t = record {
  subjects = vec_items t.subjects;
  objects = map (object_of (length (vec_items t.subjects))) (vec_items t.columns);
}

-- There is room for as many as there may be, so no call on a table can want memory. Past the last subject each column is
-- empty.
pub record Sound (t : Inside) : Type 0 where
  pub few_subjects : vec_len t.subjects ≤ max_subjects
  pub subject_room : max_subjects ≤ vec_capacity t.subjects
  pub few_objects : vec_len t.columns ≤ max_objects
  pub object_room : max_objects ≤ vec_capacity t.columns
  pub blank : All (Blank (vec_len t.subjects)) (vec_items t.columns)
