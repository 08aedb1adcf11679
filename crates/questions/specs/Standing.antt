-- The places of a table that can be looked at.
use Rattle.std.specs.Prelude.{Bool, true, length, nat_lt}
use Rattle.rights.specs.Limits.{max_objects}
use Rattle.monitor.specs.States.{State, is_object}
use Rattle.questions.specs.declared.asked.Place.{Place}
use Rattle.questions.specs.declared.asked.Place.TheVariants.{Old, New}

-- does the object stand, where it is not a new one?
abbrev pub stands_in : State → Place → Bool
stands_in S (Old o) = is_object S o
stands_in S (New t) = true

-- is there room for the object, where it is a new one?
abbrev pub room_in : State → Place → Bool
room_in S (Old o) = true
room_in S (New t) = nat_lt (length S.objects) max_objects
