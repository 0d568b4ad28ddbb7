-- The same neighbours counted by edges, and what makes the two counts one.
use Rattle.std.specs.Prelude.{◌≡◌, ℕ, ◌+◌, ◌-◌, ◌<◌, Bool, false, ◌&&◌, List, length, ◌==◌, ◌≢◌, slice_index_or}
use Rattle.points.specs.Points.{Points, count_below}
use Rattle.points.specs.Tables.{at_place}
use Rattle.house.specs.declared.tables.House.{House}
use Rattle.house.specs.declared.tables.Edge.{Edge}
use Rattle.house.specs.declared.tables.Rule.{Rule}
use Rattle.fitting.specs.Course.{Course}
use Rattle.fitting.specs.Tests.{body_met_lem}
use Rattle.fitting.specs.Conditions.{holds}
use Rattle.fitting.specs.Neighbours.{eligibles, qualified}

-- the edge at place i
abbrev pub edge_at : List Edge → ℕ → Edge
edge_at edges i = slice_index_or edges i (record { from = 0; to = 0 })

-- every edge leads from a node, and no pair of nodes is repeated
pub record Graph (nodes : ℕ) (edges : List Edge) : Type 0 where
  pub from_node : (i : ℕ) → i < length edges → (edge_at edges i).from < nodes
  pub no_repeat : (i j : ℕ) → i < j → j < length edges → (edge_at edges i).from ≡ (edge_at edges j).from → (edge_at edges i).to ≢ (edge_at edges j).to

-- how many edges into v pass `open`, by their number, and come from a node that passes `source`
unfoldable pub edges_count : List Edge → (ℕ → Bool) → (ℕ → Bool) → ℕ → ℕ
edges_count edges open' source v = count_below (length edges) (λ e. at_place false (λ edge. (edge.to == v) && source edge.from) edges e && open' e)

-- for a house whose edges make such a graph, the nodes counted by a rule are as many as the edges that make them count
pub record CountLaws {S : Type 0} (n : ℕ) (has : S → Points) (h : House S) : Type 0 where
  -- y is the number of edges into v that meet the edge condition and come from a node that meets the neighbour condition
  pub by_edges : (r : Rule) (v : ℕ) →
      eligibles n has h r v ≡ edges_count h.edges.now (λ e. holds n has h r.along (h.sizes.nodes + e)) (holds n has h r.source) v
  -- x is the number of those that come from a node on which, besides, the body is met `delay` hours before
  pub met_by_edges : (a : Course) (r : Rule) (t v : ℕ) →
      qualified n has h a r t v
      ≡ edges_count h.edges.now (λ e. holds n has h r.along (h.sizes.nodes + e)) (λ u. holds n has h r.source u && body_met_lem n has h a (t - r.delay) u r.body) v
