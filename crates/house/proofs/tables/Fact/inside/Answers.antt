use Rattle.std.proofs.Common.{rules}
use Rattle.house.specs.Cells.{fact_inside}
use Rattle.house.proofs.tables.Fact.inside.Goals as goal

pub returns-then-moves : goal.returns-then-moves
unfolding fact_inside
returns-then-moves g c = search rules

pub returns-else-moves : goal.returns-else-moves
unfolding fact_inside
returns-else-moves g c = search rules
