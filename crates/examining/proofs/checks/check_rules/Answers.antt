use Rattle.std.proofs.Common.{rules, length, refl}
use Rattle.examining.specs.declared.defects.Defect.TheVariants.{Rule as RuleCase}
use Rattle.examining.specs.Checks.{rule_passes}
use Rattle.examining.specs.Examine.{rule_check}
use Rattle.examining.proofs.Lowest.{lowest_position, found}
use Rattle.examining.proofs.checks.check_rules.Goals as goal

pub returns : goal.returns
unfolding rule_passes
returns g c =
    found (rule_check c.args.house.now.sizes (length c.args.house.now.tests.now) (length c.args.house.now.conditions.now) c.args.formulas c.args.house.now.rules.now) RuleCase (λ i. refl) (λ i. refl) c.bad_rule.result c.map_or.result
    (lowest_position _ _ (λ r. refl) c.args.house.now.rules.now _ c.bad_rule.ensures) (search rules)
