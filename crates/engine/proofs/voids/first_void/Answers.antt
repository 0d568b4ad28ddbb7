use Rattle.std.proofs.Common.{◌≡◌, true, false, rules, tests}
use Rattle.std.proofs.lemmas.Iterator.{IsFirst-from_position, YieldsList-from_slice}
use Rattle.points.specs.Points.{void}
use Rattle.engine.proofs.VoidCells.{full_from, none_void, some_void}
use Rattle.engine.proofs.voids.first_void.Goals as goal

pub returns-in_err-at : goal.returns-in_err-at
returns-in_err-at g c = λ few whole.
    let first = IsFirst-from_position _ _ c.position.result (λ x. void g.S.Scale.size (g.S.Scale.has x) ≡ true) (λ x. void g.S.Scale.size (g.S.Scale.has x) ≡ false) c.position.ensures.ran
    (YieldsList-from_slice c.args.course.now cc) (λ x q k. search (rules, tests)) (λ x q k. search (rules, tests)) in
    rw c.from_residual.ensures (none_void g.S.Scale.size g.S.Scale.has g.met.S.Scale.inside c.args.sizes c.args.course.now whole (full_from _ _ _ _ (rw c.in_err-at.was at first)))

pub returns : goal.returns
returns g c = λ few whole.
    let first = IsFirst-from_position _ _ c.position.result (λ x. void g.S.Scale.size (g.S.Scale.has x) ≡ true) (λ x. void g.S.Scale.size (g.S.Scale.has x) ≡ false) c.position.ensures.ran
    (YieldsList-from_slice c.args.course.now cc) (λ x q k. search (rules, tests)) (λ x q k. search (rules, tests)) in
    let found = rw c.in_ok-at.was at first in
    some_void g.S.Scale.size g.S.Scale.has g.met.S.Scale.inside c.args.sizes c.args.course.now whole c.in_ok-at.at c.cell_at.result found.0 found.1 (full_from _ _ _ _ found.2) (c.cell_at.ensures few)
