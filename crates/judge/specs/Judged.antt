-- What the code that judges tests, conditions and neighbours answers.
use Rattle.std.specs.Prelude.{◌≡◌, ℕ, ◌+◌, ◌<◌, ◌≤◌, Bool, true, false, ◌&&◌, List, length, Some, None, Option, ◌==◌, slice_index_or}
use Rattle.points.specs.Points.{Points}
use Rattle.points.specs.Tables.{at_place}
use Rattle.house.specs.declared.tables.House.{House}
use Rattle.house.specs.declared.tables.Rule.{Rule}
use Rattle.house.specs.Cells.{components}
use Rattle.fitting.specs.Course.{Course}
use Rattle.fitting.specs.Conditions.{said}
use Rattle.fitting.specs.Edges.{Graph}
use Rattle.fitting.specs.Neighbours.{eligibles, qualified}
use Rattle.judge.specs.declared.verdicts.Verdicts.{Verdicts}
use Rattle.judge.specs.declared.counts.Count.{Count}

-- the points of what is seen: of a bound its points, and of nothing none
abbrev pub points_of : {S : Type 0} → (S → Points) → Option S → Points
points_of has (Some bound) = has bound
points_of has None = λ p. false

-- what stands at a place of a list of bounds has the points of the bound there, and none where there is no bound
unfoldable pub bound_at : {S : Type 0} → (S → Points) → List S → ℕ → Points
bound_at has bounds i p = at_place false (λ b. has b p) bounds i

-- what verdicts on a component say of a condition; where none is named, every one will do
unfoldable pub held_by : Option ℕ → Verdicts → Bool
held_by None v = true
held_by (Some k) v = slice_index_or v.said k false

-- the same of the verdicts on component c, one of those of a list
unfoldable pub held_on_lem : List Verdicts → Option ℕ → ℕ → Bool
held_on_lem vs k c = at_place false (held_by k) vs c

-- edge e feeds node v under a rule, by the verdicts: it leads to v, and its node and it meet the rule's conditions
unfoldable pub feeds : {S : Type 0} → House S → List Verdicts → Rule → ℕ → ℕ → Bool
feeds h vs r v e =
    at_place false (λ edge. (edge.to == v) && held_on_lem vs r.source edge.from) h.edges.now e && held_on_lem vs r.along (h.sizes.nodes + e)

module _ {S : Type 0} (n : ℕ) (has : S → Points) (h : House S) where
  -- these verdicts are what the first 64 conditions of the house say on component c
  pub record Judges (c : ℕ) (v : Verdicts) : Type 0 where
    pub sixty_four : length v.said ≡ 64
    pub each : (i : ℕ) → i < 64 → slice_index_or v.said i false ≡ said n has h c (length h.conditions.now) i

  -- a list has the verdicts on every component, in order
  pub record AllJudged (vs : List Verdicts) : Type 0 where
    pub enough : components h.sizes ≤ length vs
    pub judges : (c : ℕ) → c < components h.sizes → (v : Verdicts) → v ≡ slice_index_or vs c v → Judges c v

  -- a house whose neighbours can be counted by its edges: as in every house that examine accepts, there are at most 200
  -- nodes and 64 conditions, the edge table is as long as the sizes say, its edges leave nodes, and no pair is repeated
  pub record Countable : Type 0 where
    pub few_nodes : h.sizes.nodes ≤ 200
    pub few_conditions : length h.conditions.now ≤ 64
    pub all_edges : length h.edges.now ≡ h.sizes.edges
    pub graph : Graph h.sizes.nodes h.edges.now

  -- the neighbours of node v for a rule at hour t on a course: y eligible ones, of which x qualify, counted as nodes
  abbrev pub Counted : List Verdicts → Course → Rule → ℕ → ℕ → Count → Type 0
  Counted vs a r t v count = Countable → AllJudged vs → (count.eligible ≡ eligibles n has h r v) × (count.qualifying ≡ qualified n has h a r t v)
