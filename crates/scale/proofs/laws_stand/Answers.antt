use Rattle.scale.proofs.Bounds.{laws}
use Rattle.scale.proofs.laws_stand.Goals as goal

pub returns : goal.returns
returns g c = laws g.S.Scale.size g.S.Scale.has g.met.S.Scale.inside
