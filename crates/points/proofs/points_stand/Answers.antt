use Rattle.std.proofs.Common.{refl}
use Rattle.rights.specs.Sets.{has, add, either, inside, below}
use Rattle.rights.specs.Firsts.{first}
use Rattle.flags.specs.Flags.{counted_give}
use Rattle.safety.specs.Rule.{find}
use Rattle.points.proofs.points_stand.Goals as goal

pub returns : goal.returns
unfolding has add either inside below counted_give first find
returns c = record {
  own_adds = refl;
  own_ok_adds = refl;
  flag_3_gives = refl;
  flag_1_gives = refl;
  empty_need = refl;
  empty_need_number = refl;
  ann_prints = refl;
  cy_never = refl;
  cy_prints_new = refl;
  ann_owns = refl;
}
