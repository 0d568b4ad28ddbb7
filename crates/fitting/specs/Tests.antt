-- Tests and bodies on a course.
use Rattle.std.specs.Prelude.{ℕ, ◌+◌, ◌*◌, Bool, false, cond, not, ◌&&◌, nat_lt}
use Rattle.points.specs.Points.{Points, each_below, within, void}
use Rattle.points.specs.Tables.{at_place}
use Rattle.house.specs.declared.tables.House.{House}
use Rattle.house.specs.declared.tables.Body.{Body}
use Rattle.fitting.specs.Course.{Course}

-- on a scale of n points, a cell meets a test's bound: that bound is not void, and the cell is within it
unfoldable pub meets : ℕ → Points → Points → Bool
meets n cell bound = not (void n bound) && within n cell bound

module _ {S : Type 0} (has : S → Points) (h : House S) where
  -- the fixed bound of component c at the fixed label l
  unfoldable pub fixed_at : ℕ → ℕ → Points
  fixed_at c l p = at_place false (λ s. has s p) h.fixed.now (c * h.sizes.fixed + l)

  -- what a test of label l looks at: the fixed bound if the label is fixed, and else the course's cell
  unfoldable pub seen : Course → ℕ → ℕ → ℕ → Points
  seen a t c l p = cond (nat_lt l h.sizes.fixed) (fixed_at c l p) (a t c l p)

module _ {S : Type 0} (n : ℕ) (has : S → Points) (h : House S) where
  -- test i is met on component c at hour t
  unfoldable pub test_met_lem : Course → ℕ → ℕ → ℕ → Bool
  test_met_lem a t c i = at_place false (λ test. meets n (seen has h a t c test.label) (has test.bound)) h.tests.now i

  -- a body is met on component c at hour t: all its tests are. An empty body is met
  unfoldable pub body_met_lem : Course → ℕ → ℕ → Body → Bool
  body_met_lem a t c body = each_below body.count (λ k. test_met_lem a t c (body.first + k))
