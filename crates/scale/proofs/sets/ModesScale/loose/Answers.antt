use Rattle.std.proofs.Common.{refl, arith}
use Rattle.points.specs.Points.{each_below}
use Rattle.scale.specs.Sets.{bit}
use Rattle.scale.specs.SetFacts.{modes_loose}
use Rattle.scale.proofs.sets.ModesScale.loose.Goals as goal

-- the bits of the mask are computed
pub returns : goal.returns
unfolding each_below bit
returns c = record { points = modes_loose _ refl; canonical = omega arith }
