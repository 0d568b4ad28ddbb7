use Rattle.std.proofs.Common.{rules}
use Rattle.std.proofs.lemmas.List.{take_all}
use Rattle.writes.proofs.Narrowing.{facts_none, facts_more}
use Rattle.writes.proofs.lay_facts.Goals as goal

pub loop-i-init : goal.loop-i-init
loop-i-init g c = facts_none _ _ c.args.facts.now _

pub loop-i-preserved : goal.loop-i-preserved
loop-i-preserved g c = facts_more _ _ c.args.facts.now _ _ _ _ _ c.loop-i-test.true (search rules) c.loop-i.invariant c.lay_fact.ensures

pub returns : goal.returns
returns g c = rw (take_all c.loop-i.i c.args.facts.now c.loop-i-test.false) at c.loop-i.invariant
