use Rattle.std.proofs.Common.{rules}
use Rattle.scale.specs.SetFacts.{modes_within}
use Rattle.scale.proofs.sets.ModesScale.within.Goals as goal

pub returns : goal.returns
returns c = search (rules, modes_within)
