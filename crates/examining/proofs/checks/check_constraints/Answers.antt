use Rattle.std.proofs.Common.{rules, refl}
use Rattle.examining.specs.declared.defects.Defect.TheVariants.{Constraint as ConstraintCase}
use Rattle.examining.specs.Checks.{constraint_passes}
use Rattle.examining.specs.Examine.{constraint_check}
use Rattle.examining.proofs.Lowest.{lowest_position, found}
use Rattle.examining.proofs.checks.check_constraints.Goals as goal

pub returns : goal.returns
unfolding constraint_passes
returns g c =
    found (constraint_check c.args.house.now.sizes c.args.house.now.tests.now c.args.house.now.constraints.now) ConstraintCase (λ i. refl) (λ i. refl) c.bad_constraint.result c.map_or.result
    (lowest_position _ _ (λ k. refl) c.args.house.now.constraints.now _ c.bad_constraint.ensures) (search rules)
