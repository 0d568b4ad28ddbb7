use Rattle.std.proofs.Common.{true, false, refl}
use Rattle.writes.proofs.CellSet.{cell_narrowed, absent_narrowed, absent_tells, read_tells, read_within}
use Rattle.writes.proofs.tighten.Goals as goal

pub returns-in_default : goal.returns-in_default
returns-in_default g c = record { narrowed = absent_narrowed _ _ _ _ _ c.in_default.ensures; tells = absent_tells _ _ _ _ _ _ c.in_default.ensures }

pub returns-then-within : goal.returns-then-within
returns-then-within g c =
    record {
      narrowed = read_within _ _ _ _ _ _ c.in-Some.at c.in-Some.ensures c.index-cells-at.result c.index-cells-at.is true c.if-within.ensures g.met.S.Scale.inside refl;
      tells = read_tells _ _ _ _ _ _ c.in-Some.at c.in-Some.ensures c.index-cells-at.result c.index-cells-at.is true c.if-within.ensures;
    }

pub returns : goal.returns
returns g c =
    record {
      narrowed = cell_narrowed _ _ _ _ c.in-Some.at c.in-Some.ensures c.args.bound c.meet.result c.index-cells-at.result c.index-cells-at.is c.meet.ensures;
      tells = read_tells _ _ _ _ _ _ c.in-Some.at c.in-Some.ensures c.index-cells-at.result c.index-cells-at.is false c.if-within.ensures;
    }
