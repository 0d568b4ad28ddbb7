use Rattle.std.proofs.Common.{rules}
use Rattle.house.specs.Cells.{inside}
use Rattle.house.proofs.tables.Sizes.inside.Goals as goal

pub returns-then-has_component : goal.returns-then-has_component
unfolding inside
returns-then-has_component c = search rules

pub returns-else-has_component : goal.returns-else-has_component
unfolding inside
returns-else-has_component c = search rules
