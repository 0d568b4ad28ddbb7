use Rattle.std.proofs.Common.{◌≡◌, ◌<◌, length, get_or, arith, rules}
use Rattle.std.proofs.lemmas.List.{length-append, length-take, length-drop, get_or_append_left}
use Rattle.std.proofs.lemmas.Slice.{overwrites}
use Rattle.points.specs.Points.{Loose}
use Rattle.engine.proofs.VoidCells.{made}
use Rattle.engine.proofs.voids.loosen.Goals as goal

pub returns : goal.returns
returns g c = λ i lt x is.
    let below : i < length c.fill_with.new.self = grind (arith, lt, length-append, length-take, length-drop, overwrites, c.fill_with.ensures.len) in
    let same : x ≡ get_or c.fill_with.new.self i x = grind (arith, is, below, get_or_append_left) in
    made _ (λ x. Loose g.S.Scale.size (g.S.Scale.has x)) _ _ _ (λ x q k. search rules) c.fill_with.ensures.ran.1 i below x same
