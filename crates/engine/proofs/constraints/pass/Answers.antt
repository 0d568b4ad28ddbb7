use Rattle.std.proofs.Common.{sym, ◌∙◌}
use Rattle.fitting.proofs.Rest.{cells_inside}
use Rattle.std.proofs.lemmas.List.{get_or_default}
use Rattle.engine.proofs.Constraining.{passed_none, passed_fires, passed_still, passed_rests}
use Rattle.engine.proofs.constraints.pass.Goals as goal
use Rattle.engine.proofs.constraints.pass.Goals.{then-apply, else-apply}

pub loop-constraint-init : goal.loop-constraint-init
loop-constraint-init g c = passed_none _ _ _ _ _ _

pub loop-constraint-preserved : goal.loop-constraint-preserved
loop-constraint-preserved g c =
    elim c.if-apply.branch [
      | then-apply w ↦ rw w.fired-is (passed_fires g.S.Scale.size g.S.Scale.has c.args.house.now c.args.spot.hour c.args.spot.component _ _ _ c.loop-constraint.constraint-index _ c.loop-constraint.fired c.loop-constraint-test.true
          (get_or_default c.args.house.now.constraints.now _ _ _ c.loop-constraint-test.true) (cells_inside _ _ _ g.met.S.Scale.inside _) c.loop-constraint.invariant c.apply.ensures.narrowed (sym w.if-apply.true ∙ c.apply.ensures.tells))
      | else-apply w ↦ rw w.fired-is (passed_still g.S.Scale.size g.S.Scale.has c.args.house.now c.args.spot.hour c.args.spot.component _ _ _ c.loop-constraint.constraint-index _ c.loop-constraint.fired c.loop-constraint-test.true
          (get_or_default c.args.house.now.constraints.now _ _ _ c.loop-constraint-test.true) (cells_inside _ _ _ g.met.S.Scale.inside _) c.loop-constraint.invariant c.apply.ensures.narrowed (sym w.if-apply.false ∙ c.apply.ensures.tells))
    ]

pub returns : goal.returns
returns g c =
    record {
      narrowed = c.loop-constraint.invariant.narrowed;
      elsewhere = c.loop-constraint.invariant.elsewhere;
      rests = passed_rests g.S.Scale.size g.S.Scale.has c.args.house.now c.args.spot.hour c.args.spot.component _ _ c.loop-constraint.constraint-index c.loop-constraint.fired c.loop-constraint-test.false c.loop-constraint.invariant;
      spends = c.loop-constraint.invariant.more;
    }
