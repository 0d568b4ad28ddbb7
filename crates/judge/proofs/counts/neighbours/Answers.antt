use Rattle.judge.proofs.Feeding.{tallied_none, tallied_skip, tallied_unmet, tallied_met, tallied_all}
use Rattle.judge.proofs.counts.neighbours.Goals as goal
use Rattle.judge.proofs.counts.neighbours.Goals.{then-feeds+then-body_met, then-feeds+else-body_met, else-feeds}

pub loop-e-init : goal.loop-e-init
loop-e-init g c = tallied_none _ _ _ _ _ _ _ _

pub loop-e-preserved : goal.loop-e-preserved
loop-e-preserved g c =
    elim c.if-feeds.branch [
      | then-feeds+then-body_met w ↦ rw w.count-is (tallied_met _ _ _ _ _ _ _ _ _ _ _ _ c.loop-e-test.true c.loop-e.invariant c.feeds.ensures w.if-feeds.true _ (rw c.saturating_sub-past.ensures at w.body_met.ensures)
          _ w.saturating_add.ensures w.if-body_met.true _ w.saturating_add-then-body_met.ensures)
      | then-feeds+else-body_met w ↦ rw w.count-is (tallied_unmet _ _ _ _ _ _ _ _ _ _ _ _ c.loop-e-test.true c.loop-e.invariant c.feeds.ensures w.if-feeds.true _ (rw c.saturating_sub-past.ensures at w.body_met.ensures)
          _ w.saturating_add.ensures w.if-body_met.false)
      | else-feeds w ↦ rw w.count-is (tallied_skip _ _ _ _ _ _ _ _ _ _ _ _ c.loop-e-test.true c.loop-e.invariant c.feeds.ensures w.if-feeds.false)
    ]

pub returns : goal.returns
returns g c = λ ready all. tallied_all _ _ _ ready _ all _ _ _ _ c.loop-e.e _ c.loop-e-test.false c.loop-e.auto.e-end c.loop-e.invariant
