use Rattle.std.proofs.Common.{◌<◌, length, refl, ap, arith, rules}
use Rattle.std.proofs.lemmas.Bool.{ltb-true}
use Rattle.std.proofs.lemmas.Result.{err_from_is_err_and}
use Rattle.record_entry.specs.Parts.{fact_in}
use Rattle.record_entry.proofs.enter.Goals as goal

pub returns-in_err-file-in-Fact-clause-does : goal.returns-in_err-file-in-Fact-clause-does
returns-in_err-file-in-Fact-clause-does g c =
    let p = err_from_is_err_and c.from_residual.result c.from_residual.ensures.1 in
    let q = c.in_err-file-in-Fact.ensures in
    rw (p.1, p.2) (
      (c.in-Fact.fact, ap (fact_in {B = g.row.S.Denot}) c.in-Fact.is, q.0),
      record { edges = refl; fixed = refl; tests = refl; conditions = refl; constraints = refl; rules = refl; steps = refl; facts = q.2; counts = refl },
      q.1,
    )

pub returns-in_ok-file-in-Fact-clause-does : goal.returns-in_ok-file-in-Fact-clause-does
returns-in_ok-file-in-Fact-clause-does g c =
    let q = c.in_ok-file-in-Fact.ensures in
    let space : c.args.draft.now.count < length c.args.tables.now.facts.now = ltb-true _ _ (q.0.1.1.1.0 0 (omega arith)) in
    search rules
