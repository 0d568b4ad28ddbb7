use Rattle.std.proofs.Common.{arith}
use Rattle.engine.proofs.Constraining.{constrained_then, elsewhere_then, spent_few}
use Rattle.fitting.specs.Course.{course_of}
use Rattle.engine.proofs.constraints.constrain.Goals as goal

pub loop-spot-smaller : goal.loop-spot-smaller
loop-spot-smaller g c =
    let few = spent_few g.S.Scale.size g.S.Scale.has c.args.house.now (course_of c.args.house.now.sizes g.S.Scale.has c.pass.new.cells) c.args.spot.hour c.args.spot.component in
    let more = c.pass.ensures.spends c.loop-spot-test.true in
    omega arith

pub loop-spot-preserved : goal.loop-spot-preserved
loop-spot-preserved g c = (
  constrained_then g.S.Scale.size g.S.Scale.has c.args.house.now c.args.spot.hour _ _ _ c.loop-spot.invariant.0 c.pass.ensures.narrowed,
  elsewhere_then g.S.Scale.size g.S.Scale.has c.args.house.now c.args.spot.hour c.args.spot.component _ _ _ c.loop-spot.invariant.1 c.pass.ensures.elsewhere,
)

pub returns : goal.returns
returns g c =
    record {
      narrowed = constrained_then g.S.Scale.size g.S.Scale.has c.args.house.now c.args.spot.hour _ _ _ c.loop-spot.invariant.0 c.pass.ensures.narrowed;
      elsewhere = elsewhere_then g.S.Scale.size g.S.Scale.has c.args.house.now c.args.spot.hour c.args.spot.component _ _ _ c.loop-spot.invariant.1 c.pass.ensures.elsewhere;
      rests = c.pass.ensures.rests c.loop-spot-test.false;
    }
