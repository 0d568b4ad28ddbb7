use Rattle.std.proofs.Common.{◌+◌, ◌∙◌, arith}
use Rattle.fitting.proofs.Rest.{cells_inside}
use Rattle.engine.proofs.Hourly.{accepted_ready, settled_none, settled_all}
use Rattle.engine.proofs.settle_hours.Goals as goal

pub loop-hour-init : goal.loop-hour-init
loop-hour-init g c = λ _ _. settled_none _ _ _ _ _ _

pub loop-hour-preserved : goal.loop-hour-preserved
loop-hour-preserved g c =
    λ ready whole. (rw c.of-judged.ensures at c.settle_hour.ensures) ready (c.loop-hour.auto.course ∙ whole) c.loop-hour-test.true (c.loop-hour.invariant ready whole)

pub returns : goal.returns
returns g c =
    record {
      settled = λ accepted whole. settled_all g.S.Scale.size g.S.Scale.has c.args.house.now _ _ c.loop-hour.hour _ c.loop-hour-test.false (cells_inside _ _ _ g.met.S.Scale.inside _)
          (c.loop-hour.invariant (accepted_ready g.S.Scale.size g.S.Scale.has c.args.house.now _ accepted) whole);
      length = c.loop-hour.auto.course;
    }

pub returns-2 : goal.returns-2
returns-2 g c =
    record {
      settled = λ accepted whole. let ready = accepted_ready g.S.Scale.size g.S.Scale.has c.args.house.now _ accepted in
          settled_all g.S.Scale.size g.S.Scale.has c.args.house.now _ _ (c.loop-hour.hour + 1) _ (omega arith) (cells_inside _ _ _ g.met.S.Scale.inside _)
          ((rw c.of-judged.ensures at c.settle_hour.ensures) ready (c.loop-hour.auto.course ∙ whole) c.loop-hour-test.true (c.loop-hour.invariant ready whole));
      length = c.settle_hour.auto.cells ∙ c.loop-hour.auto.course;
    }
