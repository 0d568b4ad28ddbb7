use Rattle.std.proofs.Common.{sym}
use Rattle.engine.proofs.Constraining.{absent_applied, unmet_applied, absent_still, unmet_still, met_applied, met_fires}
use Rattle.engine.proofs.constraints.apply.Goals as goal

pub returns-in_default : goal.returns-in_default
returns-in_default g c =
    record {
      narrowed = absent_applied g.S.Scale.size g.S.Scale.has c.args.house.now _ c.args.spot.hour c.args.spot.component c.args.constraint c.in_default.ensures.lookup.3;
      tells = absent_still g.S.Scale.size g.S.Scale.has c.args.house.now _ c.args.spot.hour c.args.spot.component c.args.constraint c.in_default.ensures.lookup.3;
    }

pub returns-then-not-body_met : goal.returns-then-not-body_met
returns-then-not-body_met g c =
    record {
      narrowed = unmet_applied g.S.Scale.size g.S.Scale.has c.args.house.now _ c.args.spot.hour c.args.spot.component c.args.constraint (sym c.if-not-body_met.ensures);
      tells = unmet_still g.S.Scale.size g.S.Scale.has c.args.house.now _ c.args.spot.hour c.args.spot.component c.args.constraint (sym c.if-not-body_met.ensures);
    }

pub returns : goal.returns
returns g c =
    let found = c.in-Some.ensures.lookup in
    record {
      narrowed = met_applied g.S.Scale.size g.S.Scale.has c.args.house.now _ _ c.args.spot.hour c.args.spot.component c.args.constraint c.in-Some.head.now found.3.0 found.1 (sym c.if-not-body_met.ensures)
          (rw c.cell.ensures at c.tighten.ensures.narrowed);
      tells = met_fires g.S.Scale.size g.S.Scale.has c.args.house.now _ c.args.spot.hour c.args.spot.component c.args.constraint c.in-Some.head.now c.tighten.result found.3.0 found.1 (sym c.if-not-body_met.ensures)
          (rw c.cell.ensures at c.tighten.ensures.tells);
    }
