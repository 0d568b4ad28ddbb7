-- Hours settled one after the other.
use Rattle.std.specs.Prelude.{ℕ, ◌<◌, List}
use Rattle.points.specs.Points.{Points, Among}
use Rattle.house.specs.declared.tables.House.{House}
use Rattle.house.specs.declared.tables.Fact.{Fact}
use Rattle.examining.specs.Examine.{Accepted}
use Rattle.fitting.specs.Course.{Course, Cell, OfHouse, course_of}
use Rattle.fitting.specs.Fits.{Fits}
use Rattle.fitting.specs.Step.{granted}
use Rattle.fitting.specs.Laws.{LoosestFitting}
use Rattle.writes.specs.Written.{Whole}

module _ {S : Type 0} (n : ℕ) (has : S → Points) (h : House S) (says : ℕ → ℕ → ℕ → Points) (filed : List (Fact S)) where
  -- the hours before `hour` are settled: what they have is granted, and no fitting course has more there
  pub record SettledBefore (hour : ℕ) (a : Course) : Type 0 where
    pub grants : (t c l : ℕ) → t < hour → Cell h.sizes t c l → Among (a t c l) (granted n has h says filed a t c l)
    pub contains : (x : Course) → Fits n has h says filed x → OfHouse h.sizes n x → (t c l : ℕ) → t < hour → Among (x t c l) (a t c l)

  -- the house is accepted with a book of so many formulas, and there is an entry for each cell: then the cells hold the
  -- loosest course that fits, whatever they held before
  abbrev pub Settles : ℕ → List S → List S → Type 0
  Settles formulas before after = Accepted n has h formulas → Whole h.sizes before → LoosestFitting n has h says filed (course_of h.sizes has after)
