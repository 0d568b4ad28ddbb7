use Rattle.std.proofs.Common.{rules}
use Rattle.scale.specs.SetFacts.{modes_meet}
use Rattle.scale.proofs.sets.ModesScale.meet.Goals as goal

pub returns : goal.returns
returns c = record { points = search (rules, modes_meet); canonical = search rules }
