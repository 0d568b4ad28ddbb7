use Rattle.std.proofs.Common.{refl, arith}
use Rattle.plan.proofs.Seen.{at_past, at_stands}
use Rattle.plan.proofs.cells.satisfied_at.Goals as goal

pub returns : goal.returns
returns g c =
    let placed = rw c.cell.ensures at c.in-Some.ensures in
    rw c.within.ensures
    (at_stands _ _ g.met.S.Scale.inside _ _ _ _ c.in-Some.place c.index-course-place.result placed.0 placed.1 (omega (arith, placed.2, c.requires)) c.index-course-place.is)

pub returns-in_default : goal.returns-in_default
returns-in_default g c =
    let placed = rw c.cell.ensures at c.in_default.ensures in
    ((λ _. at_past _ _ g.met.S.Scale.inside _ _ _ _ placed), λ _. refl)
