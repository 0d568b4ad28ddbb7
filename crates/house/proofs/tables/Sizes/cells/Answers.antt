use Rattle.std.proofs.Common.{arith}
use Rattle.house.proofs.Places.{cells_few}
use Rattle.house.proofs.tables.Sizes.cells.Goals as goal

pub overflow_mul-result-2 : goal.overflow_mul-result-2
overflow_mul-result-2 c = omega (arith, cells_few c.args.self.last c.components.result c.args.self.moving (omega arith) (omega arith) (omega arith))
