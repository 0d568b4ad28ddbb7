use Rattle.book.proofs.Counting.{counts_all, counts_least}
use Rattle.book.specs.Saying.{said_means}
use Rattle.book.proofs.steps.step_laws_stand.Goals as goal

pub returns : goal.returns
returns g c = record { said_means = said_means _ _ _ _; counts_all = counts_all _; counts_least = counts_least _ }
