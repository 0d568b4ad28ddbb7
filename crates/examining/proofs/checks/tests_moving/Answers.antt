use Rattle.std.proofs.Common.{false, rules}
use Rattle.points.proofs.Tabled.{got_tells}
use Rattle.house.specs.Cells.{moves}
use Rattle.examining.specs.Checks.{tests_moving_lem}
use Rattle.examining.proofs.checks.tests_moving.Goals as goal

pub returns : goal.returns
unfolding tests_moving_lem
returns g c =
    let house = c.args.house.now in
    got_tells false (λ test. moves house.sizes test.label) house.tests.now c.args.which c.get-test.result c.is_some_and.result c.get-test.ensures.lookup (search rules)
