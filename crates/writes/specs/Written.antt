-- What code that writes cells makes of the course that they mean.
use Rattle.std.specs.Prelude.{◌≡◌, ℕ, ◌-◌, ◌<◌, ◌≤◌, Bool, true, false, cond, ◌&&◌, List, length, Some, None, Option, ◌==◌}
use Rattle.points.specs.Points.{Points, implies}
use Rattle.points.specs.Tables.{all_pass, one_passes}
use Rattle.house.specs.declared.tables.Sizes.{Sizes}
use Rattle.house.specs.declared.tables.Cell.{Cell}
use Rattle.house.specs.declared.tables.Fact.{Fact}
use Rattle.house.specs.Cells.{inside, place, cell_count, covers}
use Rattle.fitting.specs.Course.{Course, loosest}
use Rattle.fitting.specs.Step.{fact_grants}

-- there is one entry for each cell of the house
abbrev pub Whole : {S : Type 0} → Sizes → List S → Type 0
Whole s cells = length cells ≡ cell_count s

-- where the entry of a cell stands in a list of so many entries; None where there is no such cell, or it has no entry
abbrev pub Entered : Sizes → ℕ → Cell → Option ℕ → Type 0
Entered s n x (Some i) = (inside s x.hour x.component x.label ≡ true) × (i ≡ place s x.hour x.component x.label) × (i < n)
Entered s n x None = inside s x.hour x.component x.label ≡ true → n ≤ place s x.hour x.component x.label

-- b has exactly the points of a that g grants
unfoldable pub Narrowed : Course → Course → Course → Type 0
Narrowed a g b = (t c l p : ℕ) → b t c l p ≡ (a t c l p && g t c l p)

-- what a bound on one cell grants: that cell has its points, every other cell all
unfoldable pub on_cell : ℕ → ℕ → ℕ → Points → Course
on_cell hour component label bound t c l p = implies (t == hour && (c == component && l == label)) (bound p)

-- what g grants at one hour
unfoldable pub at_hour : ℕ → Course → Course
at_hour hour g t c l p = implies (t == hour) (g t c l p)

-- the points that every fact grants
unfoldable pub facts_grant : {S : Type 0} → (S → Points) → List (Fact S) → Course
facts_grant has filed t c l p = all_pass (fact_grants has t c l p) filed

-- b is a, but at one hour the cells that pass `free` are loose
unfoldable pub Freed : Sizes → ℕ → ℕ → (ℕ → ℕ → Bool) → Course → Course → Type 0
Freed s n hour free a b = (t c l p : ℕ) → b t c l p ≡ cond (t == hour && free c l) (loosest s n t c l p) (a t c l p)

-- one cell, by its component and label
unfoldable pub one_cell : ℕ → ℕ → ℕ → ℕ → Bool
one_cell component label c l = c == component && l == label

-- the cell that a fact covers at an hour; None where it covers none
abbrev pub Covered : {S : Type 0} → Fact S → ℕ → Option Cell → Type 0
Covered f hour (Some x) = (x.hour ≡ hour) × ((c l : ℕ) → covers hour c l f ≡ one_cell x.component x.label c l)
Covered f hour None = (c l : ℕ) → covers hour c l f ≡ false

-- the cells that some fact covers at an hour
unfoldable pub covered : {S : Type 0} → List (Fact S) → ℕ → ℕ → ℕ → Bool
covered filed hour c l = one_passes (covers hour c l) filed

-- b is a, but at one hour every cell is as it was an hour before
unfoldable pub Repeats : ℕ → Course → Course → Type 0
Repeats hour a b = (t c l p : ℕ) → b t c l p ≡ cond (t == hour) (a (t - 1) c l p) (a t c l p)
