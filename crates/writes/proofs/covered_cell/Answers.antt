use Rattle.std.proofs.Common.{◌≡◌, ℕ, Bool, true, false, ◌&&◌, leb, refl, rules, tests, arith}
use Rattle.std.specs.Bool.{then_some}
use Rattle.std.proofs.lemmas.Bool.Decides.{nat_tests}
use Rattle.house.specs.declared.tables.Fact.{Fact}
use Rattle.house.specs.Cells.{covers}
use Rattle.writes.specs.Written.{one_cell, Covered}
use Rattle.writes.proofs.covered_cell.Goals as goal

covered_is : {S : Type 0} (f : Fact S) (hour : ℕ) (b : Bool) → b ≡ (leb f.from hour && leb hour f.to) → Covered f hour (then_some b (record { hour = hour; component = f.component; label = f.label }))
unfolding covers one_cell
covered_is f hour true e = (refl, λ c l. grind (arith, nat_tests))
covered_is f hour false e = λ c l. grind (arith, nat_tests)

pub returns : goal.returns
returns g c =
    let e : c.contains-covers.result ≡ (leb c.args.fact.now.from c.args.hour && leb c.args.hour c.args.fact.now.to) = search (rules, tests) in
    rw (c.then_some.ensures, c.cell.ensures) (covered_is c.args.fact.now c.args.hour c.contains-covers.result e)
