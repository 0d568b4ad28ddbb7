use Rattle.writes.proofs.Narrowing.{fact_on, fact_off}
use Rattle.writes.proofs.lay_fact.Goals as goal

pub returns-in-Some : goal.returns-in-Some
returns-in-Some g c = fact_on _ c.args.fact.now _ _ _ _ c.in-Some.ensures c.narrow_cell.ensures

pub returns-in_default : goal.returns-in_default
returns-in_default g c = fact_off _ c.args.fact.now _ _ c.in_default.ensures
