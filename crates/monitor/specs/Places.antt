-- What the monitor looks at before a step: the subject's type, the object's type, and the cell.
use Rattle.std.specs.Prelude.{ℕ}
use Rattle.monitor.specs.declared.cells.Place.{Place}
use Rattle.monitor.specs.States.{State, type_of, object, cell}

abbrev pub place_in : State → ℕ → ℕ → Place
place_in S s o = record { subject = type_of S s; object = (object S o).type; held = cell S s o }
