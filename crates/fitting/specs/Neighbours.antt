-- The neighbours that a rule counts, as nodes.
use Rattle.std.specs.Prelude.{ℕ, ◌+◌, ◌-◌, Bool, false, ◌&&◌, length, ◌==◌}
use Rattle.points.specs.Points.{Points, some_below, count_below}
use Rattle.points.specs.Tables.{at_place}
use Rattle.house.specs.declared.tables.House.{House}
use Rattle.house.specs.declared.tables.Rule.{Rule}
use Rattle.fitting.specs.Course.{Course}
use Rattle.fitting.specs.Tests.{body_met_lem}
use Rattle.fitting.specs.Conditions.{holds}

-- edge e leads from node u to node v
unfoldable pub leads : {S : Type 0} → House S → ℕ → ℕ → ℕ → Bool
leads h e u v = at_place false (λ edge. (edge.from == u) && edge.to == v) h.edges.now e

module _ {S : Type 0} (n : ℕ) (has : S → Points) (h : House S) where
  -- node u is eligible for node v: it meets the neighbour condition, and an edge leads from u to v that meets the edge condition
  unfoldable pub eligible : Rule → ℕ → ℕ → Bool
  eligible r u v =
      holds n has h r.source u
      && some_below (length h.edges.now) (λ e. leads h e u v && holds n has h r.along (h.sizes.nodes + e))

  -- node u qualifies for node v at hour t: it is eligible, and the rule's body is met on it `delay` hours before
  unfoldable pub qualifies : Course → Rule → ℕ → ℕ → ℕ → Bool
  qualifies a r t u v = eligible r u v && body_met_lem n has h a (t - r.delay) u r.body

  -- y: how many nodes are eligible for node v, at every hour and on every course
  unfoldable pub eligibles : Rule → ℕ → ℕ
  eligibles r v = count_below h.sizes.nodes (λ u. eligible r u v)

  -- x: how many nodes qualify for node v at hour t
  unfoldable pub qualified : Course → Rule → ℕ → ℕ → ℕ
  qualified a r t v = count_below h.sizes.nodes (λ u. qualifies a r t u v)
