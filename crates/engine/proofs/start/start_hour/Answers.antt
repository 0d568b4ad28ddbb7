use Rattle.std.proofs.Common.{◌∙◌, arith}
use Rattle.fitting.proofs.Rest.{cells_inside}
use Rattle.engine.proofs.Starting.{later_started, loose_started}
use Rattle.engine.proofs.start.start_hour.Goals as goal

pub returns-then-hour-eq0 : goal.returns-then-hour-eq0
returns-then-hour-eq0 g c = λ _ w _. loose_started _ _ _ _ _ _ _ c.if-hour-eq0.true (c.loosen.auto.course ∙ w) c.loosen.ensures

pub returns : goal.returns
returns g c =
    λ ready w last. later_started _ _ _ _ _ _ _ _ _ (cells_inside _ _ _ g.met.S.Scale.inside _) (omega (arith, c.if-hour-eq0.false)) last (c.repeat_hour.ensures w last)
    (c.free_facts.ensures (c.repeat_hour.auto.cells ∙ w))
    (c.free_rules.ensures ready (c.free_facts.auto.cells ∙ (c.repeat_hour.auto.cells ∙ w)))
