use Rattle.std.proofs.Common.{ℕ, ◌+◌, ◌∙◌, refl, arith, rules, tests}
use Rattle.std.proofs.lemmas.Iterator.{YieldsList-from_range}
use Rattle.std.proofs.lemmas.Iterator.Search.{all_from_yields_List}
use Rattle.fitting.specs.Course.{course_of}
use Rattle.fitting.specs.Tests.{test_met_lem, body_met_lem}
use Rattle.judge.proofs.TableReads.{all_below}
use Rattle.judge.proofs.body_met.Goals as goal

pub returns : goal.returns
unfolding body_met_lem
returns g c =
    let f = λ (k : ℕ). test_met_lem g.S.Scale.size g.S.Scale.has c.args.house.now (course_of c.args.house.now.sizes g.S.Scale.has c.args.cells.now) c.args.spot.hour c.args.spot.component (c.args.body.first + k) in
    all_from_yields_List f _ _ c.all.result c.all.ensures.ran (YieldsList-from_range 0 c.args.body.count c.args.body.count refl (omega arith)) (λ x b q k. search (rules, tests))
    ∙ all_below c.args.body.count f
