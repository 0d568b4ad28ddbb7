use Rattle.std.proofs.Common.{rules, refl, arith}
use Rattle.examining.specs.declared.defects.Defect.TheVariants.{Fixed as FixedCase}
use Rattle.examining.specs.Checks.{fixed_passes}
use Rattle.examining.specs.Examine.{fixed_check}
use Rattle.examining.proofs.Lowest.{lowest_position, found}
use Rattle.examining.proofs.checks.check_fixed.Goals as goal

pub returns : goal.returns
unfolding fixed_passes
returns g c =
    found (fixed_check g.S.Scale.size g.S.Scale.has c.args.fixed.now) FixedCase (λ i. refl) (λ i. refl) c.bad_fixed.result c.map_or.result
    (lowest_position _ _ (λ b. grind arith) c.args.fixed.now _ c.bad_fixed.ensures) (search rules)
