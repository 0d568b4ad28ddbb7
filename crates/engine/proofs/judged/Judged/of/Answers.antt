use Rattle.std.proofs.Common.{arith, length-set}
use Rattle.engine.proofs.Judging.{judged_none, judged_more, judged_all}
use Rattle.engine.proofs.judged.Judged.of.Goals as goal

pub loop-component-init : goal.loop-component-init
loop-component-init g c = record { long = c.told-room; below = judged_none _ _ _ _ }

pub loop-component-preserved : goal.loop-component-preserved
loop-component-preserved g c =
    record {
      long = simp length-set c.loop-component.invariant.long;
      below = judged_more _ _ _ _ _ _ (omega arith) c.of.ensures c.loop-component.invariant.below;
    }

pub invariant_of-result : goal.invariant_of-result
invariant_of-result g c = record { judged = λ few. judged_all _ _ _ c.loop-component.component _ (omega arith) (omega arith) c.loop-component.invariant.below }
