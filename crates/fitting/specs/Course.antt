-- Courses: which points every cell has.
use Rattle.std.specs.Prelude.{◌≡◌, ℕ, ◌≤◌, true, false, ◌&&◌, List, nat_lt}
use Rattle.points.specs.Points.{Points, Among, Same}
use Rattle.points.specs.Tables.{at_place}
use Rattle.house.specs.declared.tables.Sizes.{Sizes}
use Rattle.house.specs.Cells.{inside, place}

-- hour, component and label give a cell, which is a set of points
abbrev pub Course : Type 0
Course = ℕ → ℕ → ℕ → Points

-- every cell of a is within the same cell of b
abbrev pub Within : Course → Course → Type 0
Within a b = (t c l : ℕ) → Among (a t c l) (b t c l)

-- the same, for the hours up to `hour`
abbrev pub WithinUpto : ℕ → Course → Course → Type 0
WithinUpto hour a b = (t c l : ℕ) → t ≤ hour → Among (a t c l) (b t c l)

-- every cell has the same points in a and in b
abbrev pub SameCourse : Course → Course → Type 0
SameCourse a b = (t c l : ℕ) → Same (a t c l) (b t c l)

-- the same, for the hours up to `hour`
abbrev pub SameUpto : ℕ → Course → Course → Type 0
SameUpto hour a b = (t c l : ℕ) → t ≤ hour → Same (a t c l) (b t c l)

module _ (s : Sizes) where
  -- the house has this cell: the hour is one up to the last, the component is there, and the label moves
  abbrev pub Cell : ℕ → ℕ → ℕ → Type 0
  Cell t c l = inside s t c l ≡ true

  -- the loosest course on a scale of n points: every cell of the house has every point, and nothing else has one
  unfoldable pub loosest : ℕ → Course
  loosest n t c l p = inside s t c l && nat_lt p n

  -- a course of the house: it has no point outside the house and none that the scale has not
  abbrev pub OfHouse : ℕ → Course → Type 0
  OfHouse n a = Within a (loosest n)

  -- what a lent list of cells means: a cell has the points of the bound at its place, and none outside the house or past the list
  unfoldable pub course_of : {S : Type 0} → (S → Points) → List S → Course
  course_of has cells t c l p = inside s t c l && at_place false (λ x. has x p) cells (place s t c l)

  -- each cell of the house has a point
  abbrev pub VoidFree : Course → Type 0
  VoidFree a = (t c l : ℕ) → Cell t c l → (p : ℕ) × (a t c l p ≡ true)
