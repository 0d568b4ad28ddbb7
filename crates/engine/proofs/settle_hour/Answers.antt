use Rattle.std.proofs.Common.{arith}
use Rattle.engine.proofs.Judging.{judgeable}
use Rattle.engine.proofs.Hourly.{settled_more}
use Rattle.engine.proofs.settle_hour.Goals as goal

pub returns : goal.returns
returns g c =
    λ ready whole last before. settled_more g.S.Scale.size g.S.Scale.has c.args.judged.now.house.now _ _ ready.countable.few_nodes (g.met.B.Book.narrows c.args.book.now) ready.delays c.args.hour _ _ _ _ _
    (c.start_hour.ensures (judgeable _ _ _ _ ready) whole last) c.lay_facts.ensures (c.apply_rules.ensures ready) c.constrain_hour.ensures.narrowed (c.constrain_hour.ensures.rests (omega (arith, ready.few_components))) before
