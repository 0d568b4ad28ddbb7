use Rattle.std.proofs.Common.{arith}
use Rattle.points.proofs.Decided.{loose_within, is_loose_decides}
use Rattle.record_entry.proofs.open_place.Goals as goal

pub returns : goal.returns
returns g c = grind (arith, loose_within, is_loose_decides, g.met.S.Scale.inside)
