use Rattle.std.proofs.Common.{sym, false, None}
use Rattle.fitting.specs.Tests.{test_met_lem}
use Rattle.points.proofs.Tabled.{at_got}
use Rattle.judge.proofs.TableReads.{met_read}
use Rattle.judge.proofs.test_met.Goals as goal

pub returns-in_default : goal.returns-in_default
unfolding test_met_lem
returns-in_default g c = sym (at_got false _ c.args.house.now.tests.now c.args.i None c.in_default.ensures.lookup)

pub returns : goal.returns
unfolding test_met_lem
returns g c = met_read _ _ _ _ _ c.in-Some.test _ _ c.in-Some.ensures.lookup c.seen.ensures c.met_by.ensures
