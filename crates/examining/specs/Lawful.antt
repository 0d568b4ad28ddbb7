-- What holds of an accepted house, as plain facts of its sizes and of the records read in its tables.
use Rattle.std.specs.Prelude.{◌≡◌, ℕ, ◌+◌, ◌*◌, ◌<◌, ◌≤◌, true, false, length, Some, None, Option, Err, ◌≢◌, slice_index_or}
use Rattle.points.specs.Points.{Points, void}
use Rattle.points.specs.Tables.{Every}
use Rattle.examining.specs.declared.defects.Defect.{Defect}
use Rattle.house.specs.declared.tables.Body.{Body}
use Rattle.house.specs.declared.tables.Condition.{Condition}
use Rattle.house.specs.declared.tables.Constraint.{Constraint}
use Rattle.house.specs.declared.tables.Edge.{Edge}
use Rattle.house.specs.declared.tables.House.{House}
use Rattle.house.specs.declared.tables.Rule.{Rule}
use Rattle.house.specs.declared.tables.Sizes.{Sizes}
use Rattle.house.specs.declared.tables.Test.{Test}
use Rattle.house.specs.Cells.{components, moves}
use Rattle.house.specs.Kinds.{is_known, names_test, names_first, names_second}
use Rattle.examining.specs.Defects.{number_of, place_of}
use Rattle.examining.specs.Examine.{Accepted, Examined}

-- the sizes are within their limits
pub record LawfulSizes (s : Sizes) : Type 0 where
  pub nodes_least : 1 ≤ s.nodes
  pub nodes_most : s.nodes ≤ 200
  pub edges_most : s.edges ≤ 600
  pub fixed_most : s.fixed ≤ 16
  pub moving_least : 1 ≤ s.moving
  pub moving_most : s.moving ≤ 8
  pub last_most : s.last ≤ 63

-- the test of this number is there, and its label is fixed
abbrev pub FixedTest : {S : Type 0} → House S → ℕ → Type 0
FixedTest {S} h a = (a < length h.tests.now) × ((t : Test S) → t ≡ slice_index_or h.tests.now a t → t.label < h.sizes.fixed)

-- the test of this number is there, and its label moves
abbrev pub MovingTest : {S : Type 0} → House S → ℕ → Type 0
MovingTest {S} h a = (a < length h.tests.now) × ((t : Test S) → t ≡ slice_index_or h.tests.now a t → moves h.sizes t.label ≡ true)

-- a body ends among the tests
abbrev pub BodyEnds : {S : Type 0} → House S → Body → Type 0
BodyEnds h b = b.first + b.count ≤ length h.tests.now

-- a rule's condition, if it has one here, is one of the house's
abbrev pub ConditionNamed : {S : Type 0} → House S → Option ℕ → Type 0
ConditionNamed h None = Unit {0}
ConditionNamed h (Some k) = k < length h.conditions.now

-- the condition at place i keeps to its kind
pub record LawfulCondition {S : Type 0} (h : House S) (i : ℕ) (c : Condition) : Type 0 where
  pub kind : is_known c.kind ≡ true
  pub test : names_test c.kind ≡ true → FixedTest h c.a
  pub first : names_first c.kind ≡ true → c.a < i
  pub second : names_second c.kind ≡ true → c.b < i

-- every part of a constraint is there
pub record LawfulConstraint {S : Type 0} (h : House S) (k : Constraint) : Type 0 where
  pub head : MovingTest h k.head
  pub body : BodyEnds h k.body

-- every part of a rule is in its range
pub record LawfulRule {S : Type 0} (h : House S) (formulas : ℕ) (r : Rule) : Type 0 where
  pub target : moves h.sizes r.target ≡ true
  pub delay_least : 1 ≤ r.delay
  pub delay_most : r.delay ≤ 63
  pub onto : ConditionNamed h r.onto
  pub along : ConditionNamed h r.along
  pub source : ConditionNamed h r.source
  pub body : BodyEnds h r.body
  pub formula : r.formula < formulas

-- a house with a book of so many formulas
pub record Lawful {S : Type 0} (size : ℕ) (has : S → Points) (h : House S) (formulas : ℕ) : Type 0 where
  pub sizes : LawfulSizes h.sizes
  -- the tables' lengths
  pub edge_count : length h.edges.now ≡ h.sizes.edges
  pub fixed_count : length h.fixed.now ≡ components h.sizes * h.sizes.fixed
  pub test_count : length h.tests.now ≤ 64
  pub condition_count : length h.conditions.now ≤ 64
  pub constraint_count : length h.constraints.now ≤ 64
  pub rule_count : length h.rules.now ≤ 64
  -- edges lead from nodes to nodes, and no two have the same pair
  pub edge_ends : Every h.edges.now (λ e. (e.from < h.sizes.nodes) × (e.to < h.sizes.nodes))
  pub edges_differ : (i j : ℕ) → i < j → j < length h.edges.now → (d e : Edge) → d ≡ slice_index_or h.edges.now i d → e ≡ slice_index_or h.edges.now j e →
      d.from ≡ e.from → d.to ≢ e.to
  -- no fixed bound is void
  pub fixed_bounds : Every h.fixed.now (λ b. void size (has b) ≡ false)
  pub test_labels : Every h.tests.now (λ t. t.label < h.sizes.fixed + h.sizes.moving)
  pub conditions : (i : ℕ) → i < length h.conditions.now → (c : Condition) → c ≡ slice_index_or h.conditions.now i c → LawfulCondition h i c
  pub constraints : Every h.constraints.now (LawfulConstraint h)
  pub rules : Every h.rules.now (LawfulRule h formulas)

-- what the examination of a house says
pub record AcceptedLaws {S : Type 0} (size : ℕ) (has : S → Points) : Type 0 where
  -- an accepted house is lawful
  pub lawful : (h : House S) (formulas : ℕ) → Accepted size has h formulas → Lawful size has h formulas
  -- a house that is refused is not accepted
  pub refused : (h : House S) (formulas : ℕ) (d : Defect) → Examined size has h formulas (Err d) → Accepted size has h formulas → ⊥
  -- and there is but one refusal of it
  pub one_refusal : (h : House S) (formulas : ℕ) (d e : Defect) → Examined size has h formulas (Err d) → Examined size has h formulas (Err e) →
      (number_of d ≡ number_of e) × (place_of d ≡ place_of e)
