use Rattle.scale.specs.SetFacts.{all_apart}
use Rattle.scale.proofs.sets.sets_apart.Goals as goal

pub returns : goal.returns
returns c = all_apart
