use Rattle.std.proofs.Common.{◌+◌, ◌*◌, arith}
use Rattle.fitting.specs.Tests.{fixed_at}
use Rattle.judge.specs.Judged.{bound_at}
use Rattle.judge.proofs.TableReads.{bound_got_at}
use Rattle.judge.proofs.fixed_bound.Goals as goal

pub returns : goal.returns
unfolding fixed_at bound_at
returns g c =
    rw c.copied.ensures
    (bound_got_at g.S.Scale.has c.args.house.now.fixed.now _ (c.args.component * c.args.house.now.sizes.fixed + c.args.label) c.get.result c.get.ensures.lookup
    (omega arith))
