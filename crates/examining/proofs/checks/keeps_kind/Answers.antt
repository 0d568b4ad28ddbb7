use Rattle.std.proofs.Common.{rules}
use Rattle.points.specs.Points.{implies}
use Rattle.examining.specs.Checks.{condition_kept}
use Rattle.examining.proofs.checks.keeps_kind.Goals as goal

pub returns-in-Test : goal.returns-in-Test
unfolding condition_kept implies
returns-in-Test g c = search rules

pub returns-in-Not : goal.returns-in-Not
unfolding condition_kept implies
returns-in-Not g c = search rules

pub returns-then-a : goal.returns-then-a
unfolding condition_kept implies
returns-then-a g c = search rules

pub returns-else-a : goal.returns-else-a
unfolding condition_kept implies
returns-else-a g c = search rules

pub returns-in-Unknown : goal.returns-in-Unknown
unfolding condition_kept implies
returns-in-Unknown g c = search rules
