-- A small house worked out by the definitions: the nodes 0 and 1 feed the node 2.
use Rattle.std.specs.Borrow.{Bor}
use Rattle.std.specs.Prelude.{◌≡◌, ℕ, ◌+◌, ◌*◌, ◌/◌, ◌%◌, ◌^◌, Bool, true, false, ◌&&◌, ◌||◌, List, [], ◌∷◌, Some, None, Option, ◌==◌, nat_lt}
use Rattle.points.specs.Points.{Points}
use Rattle.house.specs.declared.tables.House.{House}
use Rattle.house.specs.declared.tables.Rule.{Rule}
use Rattle.house.specs.declared.tables.Fact.{Fact}
use Rattle.house.specs.declared.tables.Kind.TheVariants.{Test, Not, Both, Either}
use Rattle.fitting.specs.Course.{Course, loosest, course_of}
use Rattle.fitting.specs.Tests.{test_met_lem, body_met_lem}
use Rattle.fitting.specs.Conditions.{holds}
use Rattle.fitting.specs.Neighbours.{eligible, eligibles, qualified}
use Rattle.fitting.specs.Edges.{edges_count}
use Rattle.fitting.specs.Touched.{touched}
use Rattle.fitting.specs.Fits.{Fits}
use Rattle.fitting.specs.Laws.{LoosestFitting}

-- four points; a bound is a number, and has the points whose bits are set: 15 has all, 3 has 0 and 1, 0 is void
abbrev pub has : ℕ → Points
has s p = nat_lt p 4 && s / 2 ^ p % 2 == 1

-- one formula: all points as long as fewer than half of the neighbours qualify, then the points 0 and 1
abbrev pub says : ℕ → ℕ → ℕ → Points
says f x y p = nat_lt p 4 && (nat_lt (2 * x) y || has 3 p)

abbrev lent : {A : Type 0} → List A → Bor (List A)
lent xs = record { ref_ptr = (0, 0); now = xs }

-- on a node that meets condition 0, over edges that meet condition 1, from any node, an hour after test 2 is met on it
abbrev pub rule : Rule
rule = record { target = 1; delay = 1; onto = Some 0; along = Some 1; source = None; body = record { first = 2; count = 1 }; formula = 0 }

-- on every node, over edges of which none meets condition 3
abbrev pub idle : Rule
idle = record { target = 2; delay = 1; onto = None; along = Some 3; source = None; body = record { first = 0; count = 0 }; formula = 0 }

-- label 0 is fixed, 1 and 2 move. Test 3 is void. The conditions are test 0, test 1, not the second, the first and the
-- third, the first or the second. Where test 2 is met test 4 has to be; where test 3 is met test 2 would have to be
abbrev pub house : House ℕ
house =
    record {
      sizes = record { nodes = 3; edges = 2; fixed = 1; moving = 2; last = 1 };
      edges = lent (record { from = 0; to = 2 } ∷ record { from = 1; to = 2 } ∷ []);
      fixed = lent (15 ∷ 15 ∷ 8 ∷ 2 ∷ 4 ∷ []);
      tests = lent (record { label = 0; bound = 8 } ∷ record { label = 0; bound = 2 } ∷ record { label = 1; bound = 1 } ∷ record { label = 1; bound = 0 } ∷ record { label = 2; bound = 3 } ∷ []);
      conditions = lent (record { kind = Test; a = 0; b = 0 } ∷ record { kind = Test; a = 1; b = 0 } ∷ record { kind = Not; a = 1; b = 0 } ∷ record { kind = Both; a = 0; b = 2 } ∷ record { kind = Either; a = 0; b = 1 } ∷ []);
      constraints = lent (record { head = 4; body = record { first = 2; count = 1 } } ∷ record { head = 2; body = record { first = 3; count = 1 } } ∷ []);
      rules = lent (rule ∷ idle ∷ []);
    }

-- at hour 0 label 1 of each node has point 0 alone
abbrev pub filed : List (Fact ℕ)
filed =
    record { component = 0; label = 1; bound = 1; from = 0; to = 0 }
    ∷ record { component = 1; label = 1; bound = 1; from = 0; to = 0 }
    ∷ record { component = 2; label = 1; bound = 1; from = 0; to = 0 }
    ∷ []

-- the cells hour by hour, the three nodes and then the two edges, labels 1 and 2 of each
abbrev pub settled : List ℕ
settled =
    1 ∷ 3 ∷ 1 ∷ 3 ∷ 1 ∷ 3 ∷ 15 ∷ 15 ∷ 15 ∷ 15
    ∷ 1 ∷ 3 ∷ 1 ∷ 3 ∷ 3 ∷ 15 ∷ 15 ∷ 15 ∷ 15 ∷ 15 ∷ []

abbrev pub course : Course
course = course_of house.sizes has settled

-- a course without any point
abbrev pub nothing : Course
nothing t c l p = false

-- condition i on the three nodes and then the two edges
abbrev pub on_each : Option ℕ → List Bool
on_each i = holds 4 has house i 0 ∷ holds 4 has house i 1 ∷ holds 4 has house i 2 ∷ holds 4 has house i 3 ∷ holds 4 has house i 4 ∷ []

pub record ExampleStands : Type 0 where
  -- a void cell meets a test, but not a void one
  pub void_cell : test_met_lem 4 has house nothing 0 0 2 ≡ true
  pub void_test : test_met_lem 4 has house nothing 0 0 3 ≡ false
  -- the five conditions, and the one that always holds
  pub test_0 : on_each (Some 0) ≡ false ∷ false ∷ true ∷ false ∷ false ∷ []
  pub test_1 : on_each (Some 1) ≡ false ∷ false ∷ false ∷ true ∷ false ∷ []
  pub not_1 : on_each (Some 2) ≡ true ∷ true ∷ true ∷ false ∷ true ∷ []
  pub both : on_each (Some 3) ≡ false ∷ false ∷ true ∷ false ∷ false ∷ []
  pub either : on_each (Some 4) ≡ false ∷ false ∷ true ∷ true ∷ false ∷ []
  pub always : on_each None ≡ true ∷ true ∷ true ∷ true ∷ true ∷ []
  -- of the two nodes that feed node 2 one is eligible, since the edge from the other does not meet its condition
  pub one_eligible : eligible 4 has house rule 0 2 ≡ true
  pub other_not : eligible 4 has house rule 1 2 ≡ false
  pub y_is : eligibles 4 has house rule 2 ≡ 1
  pub by_edges : edges_count house.edges.now (λ e. holds 4 has house (Some 1) (3 + e)) (holds 4 has house None) 2 ≡ 1
  -- on both the body is met at hour 0, and only the eligible one is counted at hour 1
  pub met_on_one : body_met_lem 4 has house course 0 0 rule.body ≡ true
  pub met_on_other : body_met_lem 4 has house course 0 1 rule.body ≡ true
  pub x_is : qualified 4 has house course rule 1 2 ≡ 1
  -- on the loosest course none qualifies
  pub x_loose : qualified 4 has house (loosest house.sizes 4) rule 1 2 ≡ 0
  -- a fact touches its cell at its hour, and a rule touches its target label from its delay on where its condition holds
  pub by_fact : touched 4 has house filed 0 0 1 ≡ true
  pub by_fact_no_more : touched 4 has house filed 1 0 1 ≡ false
  pub by_rule : touched 4 has house filed 1 2 1 ≡ true
  pub by_rule_early : touched 4 has house filed 0 2 2 ≡ false
  -- a rule for which no node is eligible touches too, but never an edge
  pub y_none : eligibles 4 has house idle 2 ≡ 0
  pub by_idle : touched 4 has house filed 1 2 2 ≡ true
  pub not_edges : touched 4 has house filed 1 3 2 ≡ false
  -- the cells are the loosest course that fits: the touched cells of node 2 are wider at hour 1 than at hour 0
  pub fits : LoosestFitting 4 has house says filed course
  -- and the loosest course does not fit
  pub too_loose : Fits 4 has house says filed (loosest house.sizes 4) → ⊥
