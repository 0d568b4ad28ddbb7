-- Cells without a point.
use Rattle.std.specs.Prelude.{◌≡◌, ℕ, ◌+◌, ◌<◌, ◌≤◌, true, false, List, Some, None, Option}
use Rattle.points.specs.Points.{Points, Loose}
use Rattle.points.specs.Tables.{Every}
use Rattle.house.specs.declared.tables.Sizes.{Sizes}
use Rattle.house.specs.declared.tables.Cell.{Cell}
use Rattle.house.specs.Cells.{components, inside, place, cell_count}
use Rattle.fitting.specs.Course.{Course, VoidFree}

-- every bound of a list is loose, on a scale of n points
abbrev pub AllLoose : {S : Type 0} → ℕ → (S → Points) → List S → Type 0
AllLoose n has cells = Every cells (λ x. Loose n (has x))

-- every component has a number of 16 bits, and every label one of 8
abbrev pub Numbered : Sizes → Type 0
Numbered s = (components s ≤ 65536) × (s.fixed + s.moving ≤ 256)

-- the cell that stands at a place, and none past the last
abbrev pub CellAt : Sizes → ℕ → Option Cell → Type 0
CellAt s i (Some x) = (inside s x.hour x.component x.label ≡ true) × (place s x.hour x.component x.label ≡ i)
CellAt s i None = cell_count s ≤ i

-- the first cell without a point, in the order of cells; none exactly if every cell has a point
abbrev pub FirstVoid : Sizes → Course → Option Cell → Type 0
FirstVoid s a (Some x) =
    (inside s x.hour x.component x.label ≡ true)
    × ((p : ℕ) → a x.hour x.component x.label p ≡ false)
    × ((t c l : ℕ) → inside s t c l ≡ true → place s t c l < place s x.hour x.component x.label → (p : ℕ) × (a t c l p ≡ true))
FirstVoid s a None = VoidFree s a
