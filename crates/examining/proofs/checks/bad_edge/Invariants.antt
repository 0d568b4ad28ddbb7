use Rattle.std.proofs.Common.{◌≡◌, ℕ, ◌<◌, true, get_or}
use Rattle.examining.specs.Checks.{edge_passes, new_pair}
use Rattle.examining.proofs.checks.bad_edge.Given as goal

abbrev pub invariant-loop-at : goal.invariant-loop-at
invariant-loop-at l = (k : ℕ) → k < l.at → edge_passes l.sizes l.edges k ≡ true

abbrev pub invariant-loop-earlier : goal.invariant-loop-earlier
invariant-loop-earlier l = new_pair l.edges l.earlier-index (get_or l.edges l.at (record { from = 0; to = 0 })) ≡ true
