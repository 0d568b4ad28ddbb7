-- The joint step: every cell keeps the points that facts, constraints, rules and carrying all ask for on the present course.
use Rattle.std.specs.Prelude.{ℕ, zero, suc, ◌-◌, Bool, true, ◌&&◌, ◌||◌, List, ◌==◌, nat_lt}
use Rattle.points.specs.Points.{Points, implies, Meet}
use Rattle.points.specs.Tables.{at_place, all_pass}
use Rattle.house.specs.declared.tables.House.{House}
use Rattle.house.specs.declared.tables.Fact.{Fact}
use Rattle.house.specs.declared.tables.Rule.{Rule}
use Rattle.house.specs.declared.tables.Constraint.{Constraint}
use Rattle.house.specs.Cells.{covers}
use Rattle.fitting.specs.Course.{Course, Cell, loosest}
use Rattle.fitting.specs.Tests.{body_met_lem}
use Rattle.fitting.specs.Neighbours.{eligibles, qualified}
use Rattle.fitting.specs.Touched.{acts, touched}

-- a fact grants point p to a cell: if it covers the cell, its bound has p
unfoldable pub fact_grants : {S : Type 0} → (S → Points) → ℕ → ℕ → ℕ → ℕ → Fact S → Bool
fact_grants has t c l p f = implies (covers t c l f) (has f.bound p)

module _ {S : Type 0} (n : ℕ) (has : S → Points) (h : House S) where
  -- a constraint grants point p to a cell: if its body is met there and its head test is of this label, the head's bound has p
  unfoldable pub constraint_grants : Course → ℕ → ℕ → ℕ → ℕ → Constraint → Bool
  constraint_grants a t c l p k =
      implies (body_met_lem n has h a t c k.body) (at_place true (λ head. implies (head.label == l) (has head.bound p)) h.tests.now k.head)

  -- a rule grants point p to a cell: if this label is its target, it acts here and y is not 0, its formula says p at x of y
  unfoldable pub rule_grants : (ℕ → ℕ → ℕ → Points) → Course → ℕ → ℕ → ℕ → ℕ → Rule → Bool
  rule_grants says a t c l p r =
      implies (r.target == l && acts n has h t c r && nat_lt 0 (eligibles n has h r c))
      (says r.formula (qualified n has h a r t c) (eligibles n has h r c) p)

  -- carrying grants point p to a cell: it is hour 0, or the cell is touched, or it had p an hour before
  unfoldable pub carry_grants : List (Fact S) → Course → ℕ → ℕ → ℕ → ℕ → Bool
  carry_grants filed a t c l p = t == 0 || touched n has h filed t c l || a (t - 1) c l p

module _ {S : Type 0} (n : ℕ) (has : S → Points) (h : House S) (says : ℕ → ℕ → ℕ → Points) (filed : List (Fact S)) where
  -- the points that are granted to a cell on the present course
  unfoldable pub granted : Course → Course
  granted a t c l p =
      all_pass (fact_grants has t c l p) filed
      && all_pass (constraint_grants n has h a t c l p) h.constraints.now
      && all_pass (rule_grants n has h says a t c l p) h.rules.now
      && carry_grants n has h filed a t c l p

  -- a joint step leads from a to b: each cell of the house has in b exactly the points that it has in a and is granted on a
  abbrev pub JointStep : Course → Course → Type 0
  JointStep a b = (t c l : ℕ) → Cell h.sizes t c l → Meet (a t c l) (granted a t c l) (b t c l)

  -- the joint step as a function
  unfoldable pub step : Course → Course
  step a t c l p = a t c l p && granted a t c l p

  -- m joint steps from the loosest course
  unfoldable pub steps : ℕ → Course
  steps zero = loosest h.sizes n
  steps (suc m) = step (steps m)
