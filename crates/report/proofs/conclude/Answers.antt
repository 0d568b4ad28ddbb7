use Rattle.std.proofs.Common.{min, length, ap, ◌∙◌}
use Rattle.std.proofs.lemmas.List.{length-replicate}
use Rattle.std.proofs.lemmas.Result.{IfOk-weaker}
use Rattle.report.proofs.Concluding.{concluded}
use Rattle.report.proofs.conclude.Goals as goal

pub returns : goal.returns
returns g c =
    let described = c.in-Some.ensures.0 in
    IfOk-weaker c.settled_text.result _ _
    (λ s. concluded g.S.Scale.size g.S.Scale.has g.S.Recorded.form c.args.content c.args.tables.now _ c.deref_mut.result.now _ _ _
    described.house
    (ap length (c.deref_mut.ensures.value ∙ c.in_ok-course.ensures) ∙ (length-replicate _ _ ∙ (c.min.ensures ∙ ap (λ k. min k 8192) c.cells.ensures)))
    described.steps
    described.quorum)
    c.settled_text.ensures
