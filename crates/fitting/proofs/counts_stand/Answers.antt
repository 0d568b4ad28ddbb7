use Rattle.fitting.proofs.ByEdges.{count_laws}
use Rattle.fitting.proofs.counts_stand.Goals as goal

pub returns : goal.returns
returns g c = λ h graph. count_laws g.S.Scale.size g.S.Scale.has h graph
