use Rattle.std.proofs.Common.{sym, ◌∙◌, arith}
use Rattle.engine.proofs.Starting.{below_none, below_held, below_free, below_all, early_frees}
use Rattle.engine.proofs.start.free_rule.Goals as goal
use Rattle.engine.proofs.start.free_rule.Goals.{then-holds, else-holds}

pub returns-then-rule-hour : goal.returns-then-rule-hour
returns-then-rule-hour g c = λ _ _. early_frees _ _ _ c.args.rule _ _ c.if-rule-hour.true

pub loop-component-init : goal.loop-component-init
loop-component-init g c = λ _ _. below_none _ _ _ c.args.rule _ _

pub loop-component-preserved : goal.loop-component-preserved
loop-component-preserved g c =
    λ ready w. let h = c.args.judged.now.house.now in
    elim c.if-holds.branch [
      | then-holds q ↦
          rw q.cells-is (below_held g.S.Scale.size g.S.Scale.has h c.args.rule c.args.hour c.loop-component.component _ _ _ c.if-rule-hour.false c.loop-component-test.true
          (sym (q.if-holds.ensures ready (omega arith))) (c.loop-component.invariant ready w) (rw q.cell.ensures at (q.free_cell.ensures (c.loop-component.auto.cells ∙ w))))
      | else-holds q ↦
          rw q.cells-is (below_free g.S.Scale.size g.S.Scale.has h c.args.rule c.args.hour c.loop-component.component _ _ (sym (q.if-holds.ensures ready (omega arith))) (c.loop-component.invariant ready w))
    ]

pub returns : goal.returns
returns g c = λ ready w. below_all _ _ _ c.args.rule _ _ _ _ c.loop-component-test.false (c.loop-component.invariant ready w)
