use Rattle.std.proofs.Common.{◌∙◌}
use Rattle.std.proofs.lemmas.List.{take_all, get_or_default}
use Rattle.engine.proofs.Starting.{ruled_none, ruled_more}
use Rattle.engine.proofs.start.free_rules.Goals as goal

pub loop-rule-init : goal.loop-rule-init
loop-rule-init g c = λ _ _. ruled_none _ _ _ c.args.judged.now.house.now.rules.now _ _

pub loop-rule-preserved : goal.loop-rule-preserved
loop-rule-preserved g c =
    λ ready w. ruled_more _ _ _ c.args.judged.now.house.now.rules.now _ _ _ _ _ _ c.loop-rule-test.true (get_or_default c.args.judged.now.house.now.rules.now _ _ _ c.loop-rule-test.true) (c.loop-rule.invariant ready w)
    (c.free_rule.ensures ready (c.loop-rule.auto.cells ∙ w))

pub returns : goal.returns
returns g c = λ ready w. rw (take_all c.loop-rule.rule-index c.args.judged.now.house.now.rules.now c.loop-rule-test.false) at (c.loop-rule.invariant ready w)
