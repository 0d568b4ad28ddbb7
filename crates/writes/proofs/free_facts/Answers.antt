use Rattle.std.proofs.Common.{◌∙◌}
use Rattle.std.proofs.lemmas.List.{take_all}
use Rattle.writes.proofs.Narrowing.{covered_none, covered_more}
use Rattle.writes.proofs.free_facts.Goals as goal

pub loop-fact-init : goal.loop-fact-init
loop-fact-init g c = λ _. covered_none _ _ _ c.args.facts.now _

pub loop-fact-preserved : goal.loop-fact-preserved
loop-fact-preserved g c =
    λ w. covered_more _ _ _ c.args.facts.now _ c.fact-item.result _ _ _ c.loop-fact-test.true c.fact-item.is (c.loop-fact.invariant w) (c.free_fact.ensures (c.loop-fact.auto.cells ∙ w))

pub returns : goal.returns
returns g c = λ w. rw (take_all c.loop-fact.fact-index c.args.facts.now c.loop-fact-test.false) at (c.loop-fact.invariant w)
