-- Which cells are touched: these are not carried over from the hour before.
use Rattle.std.specs.Prelude.{ℕ, Bool, ◌&&◌, ◌||◌, List, ◌==◌, nat_le, nat_lt}
use Rattle.points.specs.Points.{Points}
use Rattle.points.specs.Tables.{one_passes}
use Rattle.house.specs.declared.tables.House.{House}
use Rattle.house.specs.declared.tables.Fact.{Fact}
use Rattle.house.specs.declared.tables.Rule.{Rule}
use Rattle.house.specs.Cells.{covers}
use Rattle.fitting.specs.Conditions.{holds}

module _ {S : Type 0} (n : ℕ) (has : S → Points) (h : House S) where
  -- a rule acts on component v at hour t: v is a node, the delay has passed, and the target condition holds on v
  unfoldable pub acts : ℕ → ℕ → Rule → Bool
  acts t v r = nat_lt v h.sizes.nodes && nat_le r.delay t && holds n has h r.onto v

  -- a cell is touched: a fact covers it, or a rule with its label as the target acts on it, whatever these then ask
  unfoldable pub touched : List (Fact S) → ℕ → ℕ → ℕ → Bool
  touched filed t c l = one_passes (covers t c l) filed || one_passes (λ r. (r.target == l) && acts t c r) h.rules.now
