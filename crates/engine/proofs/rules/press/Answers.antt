use Rattle.std.proofs.Common.{sym, ◌∙◌, arith}
use Rattle.engine.proofs.Pressing.{off_pressed, alone_pressed, pressed}
use Rattle.engine.proofs.rules.press.Goals as goal

pub returns-then-not-holds : goal.returns-then-not-holds
returns-then-not-holds g c =
    λ ready _ _ node. off_pressed g.S.Scale.size g.S.Scale.has c.args.judged.now.house.now _ _ c.args.rule c.args.node.hour c.args.node.component (sym (c.if-not-holds.ensures ready (omega arith)))

pub returns-then-count-eq0 : goal.returns-then-count-eq0
returns-then-count-eq0 g c =
    λ ready _ _ _. alone_pressed g.S.Scale.size g.S.Scale.has c.args.judged.now.house.now _ _ c.args.rule c.args.node.hour c.args.node.component (sym (c.neighbours-count.ensures.eligible ready) ∙ c.if-count-eq0.true)

pub returns : goal.returns
returns g c =
    λ ready book late node. pressed g.S.Scale.size g.S.Scale.has c.args.judged.now.house.now _ _ _ c.args.rule c.args.node.hour c.args.node.component _ _ _ c.answer-bound.result ready.countable.few_nodes book late node
    (sym (c.if-not-holds.ensures ready (omega arith))) c.if-count-eq0.false (c.neighbours-count.ensures.eligible ready) (c.neighbours-count.ensures.qualifying ready) c.answer-bound.ensures
    (rw c.cell.ensures at c.narrow_cell.ensures)
