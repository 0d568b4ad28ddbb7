use Rattle.std.proofs.Common.{◌≡◌, ◌<◌, [], ◌∷◌, ◌++◌, length, get_or, refl, arith, rules}
use Rattle.std.proofs.lemmas.List.{get_or-take, get_or-drop, length-take, length-drop, length_push}
use Rattle.std.proofs.lemmas.Result.{err_from_is_err_and}
use Rattle.record.specs.Faults.{placed}
use Rattle.record.proofs.Taking.{So, so_none, so_more, so_stops, at_row, lent_on, passed, failed}
use Rattle.record.proofs.takes.take_all.Goals as goal

pub loop-i-init : goal.loop-i-init
loop-i-init g c =
    let so =
    so_none g.S.Scale.size g.S.Scale.has g.S.Recorded.form c.args.lines.now c.args.sizes c.args.tables.now c.open-draft.result.count
    c.requires c.open-draft.ensures in
    ([], refl, so.taken, so.filings, (refl, refl, refl, refl, refl, refl, refl, refl))

pub returns-in_err-map_err-clause-does : goal.returns-in_err-map_err-clause-does
returns-in_err-map_err-clause-does g c =
    let p = err_from_is_err_and c.from_residual.result c.from_residual.ensures.1 in
    let f = failed _ c.take.result c.map_err.result c.map_err.ensures.cases c.in_err-map_err.field-0.0 c.in_err-map_err.was in
    let told : c.in_err-map_err.field-0.0 ≡ placed f.0 c.loop-i.i-counter = let t = f.2 in search rules in
    let i = c.loop-i.invariant in
    let here : c.loop-i.i-counter < length c.args.lines.now = grind (arith, length-take, length-drop, c.loop-i-test.true) in
    let does =
    at_row g.S.Scale.size g.S.Scale.has g.S.Recorded.form c.args.sizes c.loop-i.tables c.loop-i.draft c.take.result c.take.new.tables c.take.new.draft
    _ (get_or c.args.lines.now c.loop-i.i-counter []) c.take.ensures.does
    (grind (arith, get_or-take, get_or-drop, length-take, length-drop, c.loop-i-test.true)) in
    let so : So g.S.Scale.size g.S.Scale.has g.S.Recorded.form c.args.lines.now c.args.sizes c.args.tables.now i.0 c.loop-i.tables c.loop-i.draft.count =
    record { taken = i.2; filings = i.3 } in
    rw (p.1, p.2, told) (so_stops g.S.Scale.size g.S.Scale.has g.S.Recorded.form c.args.lines.now c.args.sizes c.args.tables.now c.requires i.0 c.loop-i.tables
    c.loop-i.draft so f.0 c.loop-i.i-counter c.take.new.tables c.take.new.draft i.1 here (rw f.1 at does))

pub loop-i-preserved : goal.loop-i-preserved
loop-i-preserved g c =
    let p = passed _ c.take.result c.map_err.result c.map_err.ensures.cases c.in_ok-map_err.field-0 c.in_ok-map_err.was in
    let i = c.loop-i.invariant in
    let does =
    at_row g.S.Scale.size g.S.Scale.has g.S.Recorded.form c.args.sizes c.loop-i.tables c.loop-i.draft c.take.result c.take.new.tables c.take.new.draft
    _ (get_or c.args.lines.now c.loop-i.i-counter []) c.take.ensures.does
    (grind (arith, get_or-take, get_or-drop, length-take, length-drop, c.loop-i-test.true)) in
    let d = rw p at does in
    let so : So g.S.Scale.size g.S.Scale.has g.S.Recorded.form c.args.lines.now c.args.sizes c.args.tables.now i.0 c.loop-i.tables c.loop-i.draft.count =
    record { taken = i.2; filings = i.3 } in
    let r = d.0 in
    let more =
    so_more g.S.Scale.size g.S.Scale.has g.S.Recorded.form c.args.lines.now c.args.sizes c.args.tables.now c.requires i.0 c.loop-i.tables
    c.loop-i.draft.count so r c.take.new.tables c.take.new.draft.count (rw i.1 d.1) d.2.0 d.2.1 in (
      i.0 ++ r ∷ [],
      omega (arith, length_push i.0 r, i.1),
      more.taken,
      more.filings,
      lent_on c.args.tables.now c.loop-i.tables c.take.new.tables i.4 c.take.ensures.lent,
    )
