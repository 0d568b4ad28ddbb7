use Rattle.engine.proofs.Constraining.{constrained_then, resting_more}
use Rattle.engine.proofs.constraints.constrain_hour.Goals as goal

pub loop-component-preserved : goal.loop-component-preserved
loop-component-preserved g c = (
  constrained_then g.S.Scale.size g.S.Scale.has c.args.house.now c.args.hour _ _ _ c.loop-component.invariant.0 c.constrain.ensures.narrowed,
  resting_more g.S.Scale.size g.S.Scale.has c.args.house.now c.args.hour c.loop-component.component _ _ c.loop-component.invariant.1 c.constrain.ensures.elsewhere c.constrain.ensures.rests,
)
