use Rattle.std.proofs.Common.{refl, ◌∙◌}
use Rattle.std.proofs.lemmas.Bool.{ltb-true}
use Rattle.plan.proofs.Shifts.{copied_down}
use Rattle.plan.proofs.Draft.strike.Goals as goal

pub returns : goal.returns
returns g c = (
  ((λ _ _. c.in_ok-require.ensures), ((λ _ _. c.in_ok-require-2.ensures), tt)),
  refl,
  c.copy_within.ensures.after ∙ copied_down c.args.facts.now c.args.at c.args.self.now.count (ltb-true _ _ c.in_ok-require-2.ensures),
)
