use Rattle.std.proofs.Common.{◌≡◌, ℕ, ◌<◌, true}
use Rattle.examining.specs.Checks.{condition_passes}
use Rattle.examining.proofs.checks.bad_condition.Given as goal

abbrev pub invariant-loop-at : goal.invariant-loop-at
invariant-loop-at g l = (k : ℕ) → k < l.at → condition_passes l.house.sizes l.house.tests.now l.house.conditions.now k ≡ true
