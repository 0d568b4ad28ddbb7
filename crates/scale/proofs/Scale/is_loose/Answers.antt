use Rattle.std.proofs.Common.{◌≡◌, ◌∙◌}
use Rattle.points.specs.Points.{is_loose}
use Rattle.points.proofs.Decided.{is_loose_decides, loose_within}
use Rattle.scale.proofs.Scale.is_loose.Goals as goal

pub returns : goal.returns
returns g c =
    let points = g.Self.Scale.has c.args.self in
    let says : c.within.result ≡ is_loose g.Self.Scale.size points = c.within.ensures ∙ loose_within _ _ points c.loose.ensures in
    record { answer = says; means = rw says (is_loose_decides _ points (g.met.Self.Scale.inside c.args.self)) }
