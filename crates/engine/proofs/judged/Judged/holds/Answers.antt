use Rattle.std.proofs.Common.{◌∙◌}
use Rattle.judge.proofs.Feeding.{held_holds}
use Rattle.engine.proofs.judged.Judged.holds.Goals as goal

pub returns : goal.returns
returns g c = λ ready node. c.held_on.ensures ∙ held_holds _ _ _ ready.countable _ (c.args.self.now.judged ready.few_components) c.args.condition c.args.component node
