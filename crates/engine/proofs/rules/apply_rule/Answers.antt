use Rattle.engine.proofs.Pressing.{nodes_none, nodes_more, nodes_all, early_pressed}
use Rattle.engine.proofs.rules.apply_rule.Goals as goal

pub returns-then-rule-hour : goal.returns-then-rule-hour
returns-then-rule-hour g c = λ _ _ _. early_pressed g.S.Scale.size g.S.Scale.has c.args.judged.now.house.now _ _ c.args.rule c.args.hour c.if-rule-hour.true

pub loop-component-init : goal.loop-component-init
loop-component-init g c = λ _ _ _. nodes_none g.S.Scale.size g.S.Scale.has c.args.judged.now.house.now _ _ c.args.rule c.args.hour

pub loop-component-preserved : goal.loop-component-preserved
loop-component-preserved g c =
    λ ready one book. nodes_more g.S.Scale.size g.S.Scale.has c.args.judged.now.house.now _ _ _ _ c.args.rule c.args.hour c.loop-component.component one (c.loop-component.invariant ready one book)
    (c.press.ensures ready book c.if-rule-hour.false c.loop-component-test.true)

pub returns : goal.returns
returns g c =
    λ ready one book. nodes_all g.S.Scale.size g.S.Scale.has c.args.judged.now.house.now _ _ _ c.args.rule c.args.hour c.loop-component.component c.loop-component-test.false (c.loop-component.invariant ready one book)
