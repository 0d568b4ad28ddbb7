use Rattle.std.proofs.lemmas.List.{take_all, get_or_default}
use Rattle.engine.proofs.Judging.{judgeable}
use Rattle.engine.proofs.Pressing.{rules_none, rules_more}
use Rattle.engine.proofs.rules.apply_rules.Goals as goal

pub loop-rule-init : goal.loop-rule-init
loop-rule-init g c = λ _. rules_none g.S.Scale.size g.S.Scale.has c.args.judged.now.house.now _ _ c.args.judged.now.house.now.rules.now c.args.hour

pub loop-rule-preserved : goal.loop-rule-preserved
loop-rule-preserved g c =
    λ a. let h = c.args.judged.now.house.now in
    let is = get_or_default h.rules.now c.loop-rule.rule-index _ _ c.loop-rule-test.true in
    let one = a.delays c.loop-rule.rule-index c.loop-rule-test.true _ is in
    rules_more g.S.Scale.size g.S.Scale.has h _ _ _ _ h.rules.now c.args.hour c.loop-rule.rule-index _ c.loop-rule-test.true is one (c.loop-rule.invariant a)
    (c.apply_rule.ensures (judgeable _ _ _ _ a) one (a.in_book c.loop-rule.rule-index c.loop-rule-test.true _ is))

pub returns : goal.returns
returns g c = λ a. rw (take_all c.loop-rule.rule-index c.args.judged.now.house.now.rules.now c.loop-rule-test.false) at (c.loop-rule.invariant a)
