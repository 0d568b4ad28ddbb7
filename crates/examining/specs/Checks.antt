-- What each check asks of a house, place by place.
use Rattle.std.specs.Prelude.{ℕ, ◌+◌, ◌*◌, Bool, true, false, not, ◌&&◌, List, [], ◌∷◌, length, Some, None, Option, ◌==◌, nat_le, nat_lt}
use Rattle.points.specs.Points.{Points, each_below, implies, void}
use Rattle.points.specs.Tables.{at_place}
use Rattle.house.specs.declared.tables.Body.{Body}
use Rattle.house.specs.declared.tables.Condition.{Condition}
use Rattle.house.specs.declared.tables.Constraint.{Constraint}
use Rattle.house.specs.declared.tables.Edge.{Edge}
use Rattle.house.specs.declared.tables.House.{House}
use Rattle.house.specs.declared.tables.Rule.{Rule}
use Rattle.house.specs.declared.tables.Sizes.{Sizes}
use Rattle.house.specs.declared.tables.Test.{Test}
use Rattle.house.specs.Cells.{components, moves}
use Rattle.house.specs.Kinds.{is_known, names_test, names_first, names_second}

-- one answer of a list of answers
abbrev pub answer_at : List Bool → ℕ → Bool
answer_at = at_place true (λ b. b)

-- a size is at least `low` and at most `high`
abbrev pub between : ℕ → ℕ → ℕ → Bool
between low n high = nat_le low n && nat_le n high

-- the limits of the sizes: 0 nodes, 1 edges, 2 fixed labels, 3 moving labels, 4 the last hour
abbrev pub size_answers : Sizes → List Bool
size_answers s =
    between 1 s.nodes 200
    ∷ between 0 s.edges 600
    ∷ between 0 s.fixed 16
    ∷ between 1 s.moving 8
    ∷ between 0 s.last 63
    ∷ []

-- 1: a size is within its limits
abbrev pub size_passes : Sizes → ℕ → Bool
size_passes s = answer_at (size_answers s)

-- the lengths of the tables: 0 edges, 1 fixed bounds, 2 tests, 3 conditions, 4 constraints, 5 rules
abbrev pub table_answers : {S : Type 0} → House S → List Bool
table_answers h =
    (length h.edges.now == h.sizes.edges)
    ∷ (length h.fixed.now == components h.sizes * h.sizes.fixed)
    ∷ nat_le (length h.tests.now) 64
    ∷ nat_le (length h.conditions.now) 64
    ∷ nat_le (length h.constraints.now) 64
    ∷ nat_le (length h.rules.now) 64
    ∷ []

-- 2: a table has the right length
abbrev pub table_passes : {S : Type 0} → House S → ℕ → Bool
table_passes h = answer_at (table_answers h)

-- an edge leads from a node to a node
abbrev pub joins_nodes_lem : Sizes → Edge → Bool
joins_nodes_lem s e = nat_lt e.from s.nodes && nat_lt e.to s.nodes

-- two edges lead from one node to one node
abbrev pub same_pair : Edge → Edge → Bool
same_pair d e = d.from == e.from && d.to == e.to

-- the edges before place i have other pairs than e
unfoldable pub new_pair : List Edge → ℕ → Edge → Bool
new_pair es i e = each_below i (at_place true (λ d. not (same_pair d e)) es)

-- 3: an edge leads from a node to a node, and no edge before it has the same pair
unfoldable pub edge_passes : Sizes → List Edge → ℕ → Bool
edge_passes s es i = at_place true (λ e. joins_nodes_lem s e && new_pair es i e) es i

-- 4: a fixed bound is not void
unfoldable pub fixed_passes : {S : Type 0} → ℕ → (S → Points) → List S → ℕ → Bool
fixed_passes size has = at_place true (λ b. not (void size (has b)))

-- a label is fixed or moves
abbrev pub names_label_lem : Sizes → ℕ → Bool
names_label_lem s l = nat_lt l (s.fixed + s.moving)

-- 5: a test is of a fixed label or of a moving one
unfoldable pub test_passes : {S : Type 0} → Sizes → List (Test S) → ℕ → Bool
test_passes s = at_place true (λ t. names_label_lem s t.label)

-- there is a test of this number, and its label is fixed
unfoldable pub tests_fixed_lem : {S : Type 0} → Sizes → List (Test S) → ℕ → Bool
tests_fixed_lem s = at_place false (λ t. nat_lt t.label s.fixed)

-- there is a test of this number, and its label moves
unfoldable pub tests_moving_lem : {S : Type 0} → Sizes → List (Test S) → ℕ → Bool
tests_moving_lem s = at_place false (λ t. moves s t.label)

-- the condition at place i: a test is of a fixed label, and the other kinds name earlier conditions
unfoldable pub condition_kept : {S : Type 0} → Sizes → List (Test S) → ℕ → Condition → Bool
condition_kept s tests i c =
    is_known c.kind
    && implies (names_test c.kind) (tests_fixed_lem s tests c.a)
    && implies (names_first c.kind) (nat_lt c.a i)
    && implies (names_second c.kind) (nat_lt c.b i)

-- 6: a condition keeps to its kind
unfoldable pub condition_passes : {S : Type 0} → Sizes → List (Test S) → List Condition → ℕ → Bool
condition_passes s tests cs i = at_place true (condition_kept s tests i) cs i

-- a body ends among the n tests
abbrev pub body_ends_lem : ℕ → Body → Bool
body_ends_lem n b = nat_le (b.first + b.count) n

-- a constraint's head is a test of a moving label, and its body ends among the tests
abbrev pub constraint_kept : {S : Type 0} → Sizes → List (Test S) → Constraint → Bool
constraint_kept s tests k = tests_moving_lem s tests k.head && body_ends_lem (length tests) k.body

-- 7: every part of a constraint is there
unfoldable pub constraint_passes : {S : Type 0} → Sizes → List (Test S) → List Constraint → ℕ → Bool
constraint_passes s tests = at_place true (constraint_kept s tests)

-- a rule has no condition here, or one of n
abbrev pub names_condition_lem : ℕ → Option ℕ → Bool
names_condition_lem n None = true
names_condition_lem n (Some k) = nat_lt k n

-- a rule in a house of so many tests and conditions, with so many formulas in its book
abbrev pub rule_kept : Sizes → ℕ → ℕ → ℕ → Rule → Bool
rule_kept s tests conditions formulas r =
    moves s r.target
    && between 1 r.delay 63
    && names_condition_lem conditions r.onto
    && names_condition_lem conditions r.along
    && names_condition_lem conditions r.source
    && body_ends_lem tests r.body
    && nat_lt r.formula formulas

-- 8: every part of a rule is in its range
unfoldable pub rule_passes : Sizes → ℕ → ℕ → ℕ → List Rule → ℕ → Bool
rule_passes s tests conditions formulas = at_place true (rule_kept s tests conditions formulas)
