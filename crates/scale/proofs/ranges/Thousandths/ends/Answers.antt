use Rattle.std.proofs.Common.{◌≡◌, true, sym, arith, rules}
use Rattle.points.proofs.Decided.{void_decides}
use Rattle.scale.specs.Ranges.{points}
use Rattle.scale.specs.RangeFacts.{range_use, range_from, not_void}
use Rattle.scale.proofs.ranges.Thousandths.ends.Goals as goal

pub returns-then-void : goal.returns-then-void
returns-then-void c =
    (void_decides 1001 (points c.args.self) (λ p h. (range_use _ _ p h).2)).0 (sym c.if-void.ensures)

pub returns : goal.returns
returns c =
    let some = not_void _ _ (sym c.if-void.ensures) in
    let lowest : points c.args.self c.args.self.low ≡ true = range_from c.args.self.low c.args.self.high c.args.self.low (omega arith) some.0 some.1 in
    let highest : points c.args.self c.min-high.result ≡ true = range_from c.args.self.low c.args.self.high c.min-high.result (omega arith) (omega arith) (omega arith) in
    (search rules, search rules, λ p h. let u = range_use _ _ p h in (omega arith, omega arith))
