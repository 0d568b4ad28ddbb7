use Rattle.std.proofs.Common.{rules}
use Rattle.scale.specs.SetFacts.{modes_void}
use Rattle.scale.proofs.sets.ModesScale.void.Goals as goal

pub returns : goal.returns
returns c = search (rules, modes_void)
