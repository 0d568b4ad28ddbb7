use Rattle.std.proofs.Common.{false, rules}
use Rattle.points.proofs.Tabled.{got_tells}
use Rattle.std.specs.Prelude.{nat_lt}
use Rattle.examining.specs.Checks.{tests_fixed_lem}
use Rattle.examining.proofs.checks.tests_fixed.Goals as goal

pub returns : goal.returns
unfolding tests_fixed_lem
returns g c =
    let house = c.args.house.now in
    got_tells false (λ test. nat_lt test.label house.sizes.fixed) house.tests.now c.args.which c.get-test.result c.is_some_and.result c.get-test.ensures.lookup (search rules)
