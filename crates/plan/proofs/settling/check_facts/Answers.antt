use Rattle.std.proofs.Common.{rules, refl}
use Rattle.examining.proofs.Lowest.{lowest_position}
use Rattle.plan.specs.declared.refusals.Refusal.TheVariants.{Outside}
use Rattle.plan.specs.Orders.{facts_fit}
use Rattle.plan.proofs.Checked.{checked_one}
use Rattle.plan.proofs.settling.check_facts.Goals as goal

pub returns : goal.returns
returns g c =
    checked_one (facts_fit c.args.sizes c.args.filed.now) Outside (λ i. refl) (λ i. refl) c.outside.result c.map_or.result
    (lowest_position _ _ (λ f. refl) c.args.filed.now _ c.outside.ensures) (search rules)
