-- What settle answers, and where the joint step leads.
use Rattle.std.specs.Prelude.{◌≡◌, ℕ, false, List, take}
use Rattle.points.specs.Points.{Points}
use Rattle.house.specs.declared.tables.House.{House}
use Rattle.house.specs.declared.tables.Fact.{Fact}
use Rattle.fitting.specs.Course.{SameCourse, course_of}
use Rattle.fitting.specs.Step.{step, steps}
use Rattle.plan.specs.declared.Draft.{Draft}
use Rattle.plan.specs.declared.outcomes.Outcome.{Outcome}
use Rattle.plan.specs.declared.outcomes.Outcome.TheVariants.{Settled as Came, Contradiction as Failed, Refused as Denied}
use Rattle.plan.specs.Calls.{SettleDoes}

module _ {S : Type 0} (n : ℕ) (has : S → Points) (h : House S) (says : ℕ → ℕ → ℕ → Points) (filed : List (Fact S)) where
  -- the joint step leaves the points of the cells as they are, and so many joint steps from the loosest course lead to them
  pub record Reached (cells : List S) : Type 0 where
    pub rests : SameCourse (step n has h says filed (course_of h.sizes has cells)) (course_of h.sizes has cells)
    pub count : ℕ
    pub leads : SameCourse (steps n has h says filed count) (course_of h.sizes has cells)

  -- so many joint steps from the loosest course lead to one in which a cell has no point
  pub record Emptied (t c l : ℕ) : Type 0 where
    pub count : ℕ
    pub void : (p : ℕ) → steps n has h says filed count t c l p ≡ false

module _ {S : Type 0} (n : ℕ) (has : S → Points) (h : House S) (formulas : ℕ) (says : ℕ → ℕ → ℕ → Points) where
  -- joint steps lead to the settled course, or to a void cell where a contradiction names it
  abbrev pub Led : List (Fact S) → Outcome → List S → Type 0
  Led filed (Came settled) cells = Reached n has h says filed cells
  Led filed (Failed at draft) cells = Emptied n has h says filed at.cell.hour at.cell.component at.cell.label
  Led filed (Denied r draft) cells = Unit {0}

  -- so it is whatever settle answers
  abbrev pub StepsLead : Type 0
  StepsLead = (draft : Draft) (table : List (Fact S)) (cells cells' : List S) (o : Outcome) →
      SettleDoes n has h formulas says draft table cells o cells' → Led (take draft.count table) o cells'
