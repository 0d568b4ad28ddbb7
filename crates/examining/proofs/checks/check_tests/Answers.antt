use Rattle.std.proofs.Common.{rules, refl}
use Rattle.examining.specs.declared.defects.Defect.TheVariants.{Test as TestCase}
use Rattle.examining.specs.Checks.{test_passes}
use Rattle.examining.specs.Examine.{test_check}
use Rattle.examining.proofs.Lowest.{lowest_position, found}
use Rattle.examining.proofs.checks.check_tests.Goals as goal

pub returns : goal.returns
unfolding test_passes
returns g c =
    found (test_check c.args.sizes c.args.tests.now) TestCase (λ i. refl) (λ i. refl) c.bad_test.result c.map_or.result
    (lowest_position _ _ (λ t. refl) c.args.tests.now _ c.bad_test.ensures) (search rules)
