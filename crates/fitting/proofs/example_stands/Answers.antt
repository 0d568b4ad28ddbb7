use Rattle.fitting.proofs.Worked.{worked}
use Rattle.fitting.proofs.example_stands.Goals as goal

pub returns : goal.returns
returns c = worked
