use Rattle.std.proofs.Common.{true, sym, ◌∙◌, below_more}
use Rattle.points.proofs.Tabled.{at-get_or}
use Rattle.examining.specs.Checks.{condition_passes}
use Rattle.examining.proofs.checks.bad_condition.Goals as goal

pub returns-then-not-keeps_kind : goal.returns-then-not-keeps_kind
unfolding condition_passes
returns-then-not-keeps_kind g c = (c.loop-at-test.true, at-get_or true _ _ _ _ c.loop-at-test.true ∙ sym c.if-not-keeps_kind.ensures, c.loop-at.invariant)

pub loop-at-preserved : goal.loop-at-preserved
unfolding condition_passes
loop-at-preserved g c = below_more _ _ c.loop-at.invariant (at-get_or true _ _ _ _ c.loop-at-test.true ∙ sym c.if-not-keeps_kind.ensures)
