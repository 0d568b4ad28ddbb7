-- Which courses a plan speaks of: those that fit its house and its filed facts, the one that it settles to, and what it
-- means that there is none.
use Rattle.std.specs.Prelude.{◌≡◌, ℕ, ◌≤◌, true, List, length, ◌≢◌}
use Rattle.points.specs.Points.{Points, Among}
use Rattle.house.specs.declared.tables.Sizes.{Sizes}
use Rattle.house.specs.declared.tables.House.{House}
use Rattle.house.specs.declared.tables.Fact.{Fact}
use Rattle.house.specs.Cells.{place, cell_count, covers}
use Rattle.fitting.specs.Course.{Course, Cell, OfHouse, VoidFree, course_of}
use Rattle.fitting.specs.Fits.{Fits}
use Rattle.fitting.specs.Laws.{LoosestFitting}
use Rattle.house.specs.declared.tables.Cell.{Cell as Named}
use Rattle.plan.specs.declared.outcomes.Clash.{Clash}

module _ {S : Type 0} (has : S → Points) where
  -- a course satisfies a fact: each cell of the house that the fact covers is within its bound
  unfoldable pub Satisfies : Sizes → Course → Fact S → Type 0
  Satisfies s a f = (t c l : ℕ) → Cell s t c l → covers t c l f ≡ true → Among (a t c l) (has f.bound)

  -- the same at one hour: the cell of the fact, if the house has it, is within its bound
  unfoldable pub SatisfiesAt : Sizes → Course → Fact S → ℕ → Type 0
  SatisfiesAt s a f t = Cell s t f.component f.label → Among (a t f.component f.label) (has f.bound)

-- on a scale of n points; `says` is what the book's formulas say at x of y
module _ {S : Type 0} (n : ℕ) (has : S → Points) (h : House S) (says : ℕ → ℕ → ℕ → Points) (filed : List (Fact S)) where
  -- a course of the house that fits, without a void cell
  pub record Fitting (a : Course) : Type 0 where
    pub fits : Fits n has h says filed a
    pub of_house : OfHouse h.sizes n a
    pub void_free : VoidFree h.sizes a

  -- cells that hold such a course, as long as the house asks, within which every course of the house that fits lies,
  -- with void cells or without
  pub record Settles (cells : List S) : Type 0 where
    pub long : length cells ≡ cell_count h.sizes
    pub loosest : LoosestFitting n has h says filed (course_of h.sizes has cells)
    pub void_free : VoidFree h.sizes (course_of h.sizes has cells)

  -- a cell has no point in any course of the house that fits
  abbrev pub Doomed : ℕ → ℕ → ℕ → Type 0
  Doomed t c l = (a : Course) → Fits n has h says filed a → OfHouse h.sizes n a → (p : ℕ) → a t c l p ≢ true

  -- no course without a void cell fits, and of the cells that are void in every course that fits this one is the first
  pub record Contradicts (t c l : ℕ) : Type 0 where
    pub none : (a : Course) → Fitting a → ⊥
    pub cell : Cell h.sizes t c l
    pub doomed : Doomed t c l
    pub first : (t' c' l' : ℕ) → Cell h.sizes t' c' l' → Doomed t' c' l' → place h.sizes t c l ≤ place h.sizes t' c' l'

-- a cell that is named, with its place if the house has it
pub record Clashes (s : Sizes) (cell : Named) (r : Clash) : Type 0 where
  pub named : r.cell ≡ cell
  pub place_is : Cell s cell.hour cell.component cell.label → r.place ≡ place s cell.hour cell.component cell.label
