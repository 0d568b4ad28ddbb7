use Rattle.judge.proofs.TableReads.{seen_fixed, seen_else, cell_read, cell_none, bound_got}
use Rattle.judge.proofs.seen.Goals as goal

pub returns-then-label-house : goal.returns-then-label-house
returns-then-label-house g c = seen_fixed g.S.Scale.has _ _ _ _ _ _ c.if-label-house.true c.fixed_bound.ensures

pub returns-in_err-at : goal.returns-in_err-at
returns-in_err-at g c =
    rw c.from_residual.ensures (seen_else g.S.Scale.has _ _ _ _ _ _ c.if-label-house.false (cell_none g.S.Scale.has _ _ _ _ _ (rw c.cell.ensures at c.in_err-at.ensures)))

pub returns : goal.returns
returns g c =
    let found = rw c.cell.ensures at c.in_ok-at.ensures in
    seen_else g.S.Scale.has _ _ _ _ _ _ c.if-label-house.false
    (cell_read g.S.Scale.has _ _ _ _ _ _ found.0 (rw (← found.1, c.copied.ensures) (bound_got g.S.Scale.has c.args.cells.now _ c.get.result c.get.ensures.lookup)))
