use Rattle.std.proofs.Common.{refl}
use Rattle.rights.specs.Sets.{has, add, either, inside, below}
use Rattle.rights.specs.Firsts.{first}
use Rattle.grammar.specs.Bytes.{class}
use Rattle.points.proofs.text_points_stand.Goals as goal

pub returns : goal.returns
unfolding has add either inside below first class
returns c = record {
  empty_transform_line = refl;
  empty_grant_line = refl;
}
