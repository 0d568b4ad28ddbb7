-- When a course fits a house and the facts filed, under a book.
use Rattle.std.specs.Prelude.{◌≡◌, ℕ, ◌-◌, ◌<◌, ◌≤◌, true, false, List, length, slice_index_or}
use Rattle.points.specs.Points.{Points, Among}
use Rattle.points.specs.Tables.{Every}
use Rattle.house.specs.declared.tables.House.{House}
use Rattle.house.specs.declared.tables.Fact.{Fact}
use Rattle.house.specs.declared.tables.Test.{Test}
use Rattle.house.specs.Cells.{covers}
use Rattle.fitting.specs.Course.{Course, Cell}
use Rattle.fitting.specs.Tests.{body_met_lem}
use Rattle.fitting.specs.Conditions.{holds}
use Rattle.fitting.specs.Neighbours.{eligibles, qualified}
use Rattle.fitting.specs.Touched.{touched}

-- on a scale of n points whose bounds have the points that `has` says; `says` is what the book's formulas say at x of y
pub record Fits {S : Type 0} (n : ℕ) (has : S → Points) (h : House S) (says : ℕ → ℕ → ℕ → Points) (filed : List (Fact S)) (a : Course) : Type 0 where
  -- each fact: the cells that it covers are within its bound
  pub facts : Every filed (λ f. (t c l : ℕ) → Cell h.sizes t c l → covers t c l f ≡ true → Among (a t c l) (has f.bound))
  -- each constraint: wherever its body is met, the cell of its head test's label is within that test's bound
  pub constraints : Every h.constraints.now (λ k. k.head < length h.tests.now → (head : Test S) → head ≡ slice_index_or h.tests.now k.head head →
      (t c : ℕ) → Cell h.sizes t c head.label → body_met_lem n has h a t c k.body ≡ true → Among (a t c head.label) (has head.bound))
  -- each rule: at each hour from its delay on and each node where its target condition holds and y is not 0, the target
  -- cell is within what its formula says at x of y
  pub rules : Every h.rules.now (λ r. (t v : ℕ) → Cell h.sizes t v r.target → v < h.sizes.nodes → r.delay ≤ t → holds n has h r.onto v ≡ true →
      1 ≤ eligibles n has h r v → Among (a t v r.target) (says r.formula (qualified n has h a r t v) (eligibles n has h r v)))
  -- carrying: from hour 1 on a cell is within the same cell an hour before, unless it is touched
  pub carrying : (t c l : ℕ) → Cell h.sizes t c l → 1 ≤ t → touched n has h filed t c l ≡ false → Among (a t c l) (a (t - 1) c l)
