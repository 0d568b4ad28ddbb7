use Rattle.std.proofs.Common.{◌+◌, unwrap_or, ap, ◌∙◌, rules, tests}
use Rattle.std.proofs.lemmas.Iterator.{YieldsList-from_slice, YieldsList-from_map}
use Rattle.std.proofs.lemmas.Iterator.Consumers.{reduce_from_yields_List}
use Rattle.book.proofs.Counting.{counts_by_max}
use Rattle.book.proofs.steps.counted.Goals as goal

pub returns : goal.returns
returns g c =
    let steps = c.args.steps.now in
    c.unwrap_or.ensures
    ∙ ap (λ o. unwrap_or o 0) (reduce_from_yields_List _ c.map.result _ c.max.ensures.ran (YieldsList-from_map _ (λ t. g.T.Step.number t + 1) (YieldsList-from_slice steps cc) c.map.ensures.closure (λ x b q k. search (rules, tests))))
    ∙ counts_by_max g.T.Step.number steps
