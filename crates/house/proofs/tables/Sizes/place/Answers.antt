use Rattle.std.proofs.Common.{sym, refl, arith}
use Rattle.house.proofs.Places.{inside_use, place_lt, row_few}
use Rattle.house.proofs.tables.Sizes.place.Goals as goal

pub overflow_mul-result : goal.overflow_mul-result
overflow_mul-result c =
    omega (arith, row_few c.args.cell.hour c.components.result c.args.cell.component c.args.self.moving (omega arith) (omega arith) (omega arith) (omega arith))

pub overflow_sub-result : goal.overflow_sub-result
overflow_sub-result c = let i = inside_use _ _ _ _ (sym c.if-inside.ensures) in omega (arith, i.fixed)

pub overflow_add-result : goal.overflow_add-result
overflow_add-result c =
    omega (arith, row_few c.args.cell.hour c.components.result c.args.cell.component c.args.self.moving (omega arith) (omega arith) (omega arith) (omega arith))

pub returns-then-inside : goal.returns-then-inside
returns-then-inside c =
    let i = inside_use _ _ _ _ (sym c.if-inside.ensures) in
    rw c.components.ensures (sym c.if-inside.ensures, refl, place_lt _ _ _ _ i)
