use Rattle.std.proofs.Common.{rules}
use Rattle.judge.proofs.Verdict.{worked_none, worked_more, worked_all}
use Rattle.judge.proofs.verdicts.Verdicts.of.Goals as goal

pub loop-i-init : goal.loop-i-init
loop-i-init g c = worked_none _ _ _ _ _ _ _ (search rules) (search rules) (search rules)

pub loop-i-preserved : goal.loop-i-preserved
loop-i-preserved g c =
    let steps = c.in-Some.ensures.steps in
    worked_more _ _ _ _ _ _ _ _ _ _ _ _ c.in-Some.condition.now _ c.loop-i.invariant steps.0.0 steps.0.1 steps.1 steps.2 c.judged-answer.ensures

pub returns : goal.returns
returns g c = worked_all _ _ _ _ _ _ _ _ c.loop-i.invariant (λ left. (c.in-None.ensures.steps.0 left).0)
