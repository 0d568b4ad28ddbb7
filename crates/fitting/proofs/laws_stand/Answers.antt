use Rattle.fitting.proofs.Arrive.{laws}
use Rattle.fitting.proofs.laws_stand.Goals as goal

pub returns : goal.returns
returns g c = λ b h filed few. laws g.S.Scale.size g.S.Scale.has h few (g.B.Book.says b) (g.met.B.Book.narrows b) filed g.met.S.Scale.inside
