use Rattle.examining.proofs.Laws.{accepted_laws}
use Rattle.examining.proofs.checks.accepted_laws_stand.Goals as goal

pub returns : goal.returns
returns g c = accepted_laws g.S.Scale.size g.S.Scale.has
