use Rattle.std.proofs.Common.{false, rules}
use Rattle.points.proofs.Tabled.{got_tells}
use Rattle.judge.specs.Judged.{held_by, held_on_lem}
use Rattle.judge.proofs.verdicts.held_on.Goals as goal

pub returns : goal.returns
unfolding held_on_lem
returns c =
    got_tells false (held_by c.args.condition) c.args.verdicts.now c.args.component c.get.result c.is_some_and.result c.get.ensures.lookup (search rules)
