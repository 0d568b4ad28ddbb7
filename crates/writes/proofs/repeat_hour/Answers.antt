use Rattle.std.proofs.Common.{◌+◌, ◌*◌, ◌≤◌, length, arith}
use Rattle.writes.proofs.Rows.{row_few, row_step, row_copied, row_there, first_repeats}
use Rattle.writes.proofs.repeat_hour.Goals as goal
use Rattle.writes.proofs.repeat_hour.Goals.{else-hour-ge1-via-then-hour-ge1+else-start-row, else-hour-ge1-via-else-hour-ge1}

pub overflow_mul-start : goal.overflow_mul-start
overflow_mul-start g c = let few = row_few c.args.hour c.components.result c.args.sizes.moving (omega arith) (omega arith) (omega arith) in omega (arith, few.0)

pub overflow_add-start : goal.overflow_add-start
overflow_add-start g c = let few = row_few c.args.hour c.components.result c.args.sizes.moving (omega arith) (omega arith) (omega arith) in omega (arith, few.0, few.1)

pub overflow_sub-start : goal.overflow_sub-start
overflow_sub-start g c = omega (arith, row_step c.args.hour (c.components.result * c.args.sizes.moving) c.if-hour-ge1.true)

pub returns-then-start-row : goal.returns-then-start-row
returns-then-start-row g c =
    λ whole last. row_copied _ c.args.sizes c.args.cells.now _ c.args.hour whole c.copy_within.ensures.len c.if-hour-ge1.true last c.components.result c.components.ensures c.copy_within.ensures.by_index

pub returns-else-hour-ge1 : goal.returns-else-hour-ge1
returns-else-hour-ge1 g c =
    elim c.else-hour-ge1.branch [
      | else-hour-ge1-via-then-hour-ge1+else-start-row w ↦ λ whole last.
          let e : c.args.hour * (c.components.result * c.args.sizes.moving) + c.components.result * c.args.sizes.moving ≤ length c.args.cells.now =
          rw c.components.ensures (row_there c.args.sizes c.args.hour _ whole last) in
          absurd (omega (arith, w.if-start-row.false))
      | else-hour-ge1-via-else-hour-ge1 w ↦ λ _ _. first_repeats _ c.args.hour w.if-hour-ge1.false
    ]
