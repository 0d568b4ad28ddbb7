use Rattle.fitting.proofs.Arrive.{laws}
use Rattle.plan.proofs.Leading.{steps_lead}
use Rattle.plan.proofs.steps_stand.Goals as goal

pub returns : goal.returns
returns g c = λ b h.
    steps_lead g.S.Scale.size g.S.Scale.has h (g.B.Book.formulas b) (g.B.Book.says b)
    (λ filed few. laws g.S.Scale.size g.S.Scale.has h few (g.B.Book.says b) (g.met.B.Book.narrows b) filed g.met.S.Scale.inside)
