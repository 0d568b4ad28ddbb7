use Rattle.std.proofs.Common.{not, ap, ◌∙◌}
use Rattle.judge.proofs.TableReads.{meets_none}
use Rattle.judge.proofs.met_by.Goals as goal

pub returns-in-None : goal.returns-in-None
returns-in-None g c = rw c.in-None.is (ap not c.void.ensures ∙ meets_none _ _)
