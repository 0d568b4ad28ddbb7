use Rattle.life.proofs.Lives.{kept}
use Rattle.life.proofs.promise_stands.Goals as goal

pub returns : goal.returns
returns g c = λ b h accepted. kept g.S.Scale.size g.S.Scale.has h (g.B.Book.formulas b) (g.B.Book.says b) accepted
