-- Components, cells and facts of a house, by its sizes alone.
use Rattle.std.specs.Prelude.{◌≡◌, ℕ, suc, ◌+◌, ◌-◌, ◌*◌, ◌<◌, Bool, true, false, ◌&&◌, Some, None, Option, ◌==◌, nat_le, nat_lt}
use Rattle.house.specs.declared.tables.Sizes.{Sizes}
use Rattle.house.specs.declared.tables.Fact.{Fact}

-- how many components there are: the nodes, then the edges
abbrev pub components : Sizes → ℕ
components s = s.nodes + s.edges

-- a label that moves: the labels below `fixed` are fixed, and the next `moving` ones move
abbrev pub moves : Sizes → ℕ → Bool
moves s l = nat_le s.fixed l && nat_lt l (s.fixed + s.moving)

-- a cell: an hour up to the last, a component and a moving label
unfoldable pub inside : Sizes → ℕ → ℕ → ℕ → Bool
inside s t c l = nat_le t s.last && nat_lt c (components s) && moves s l

-- where a cell stands in the list of cells: hour by hour, in an hour component by component, there label by label
abbrev pub place : Sizes → ℕ → ℕ → ℕ → ℕ
place s t c l = (t * components s + c) * s.moving + (l - s.fixed)

-- how many cells there are
abbrev pub cell_count : Sizes → ℕ
cell_count s = suc s.last * components s * s.moving

-- a cell is found at its place, which is one of the cells', and nothing that is no cell is
abbrev pub Placed : Sizes → ℕ → ℕ → ℕ → Option ℕ → Type 0
Placed s t c l (Some i) = (inside s t c l ≡ true) × (i ≡ place s t c l) × (i < cell_count s)
Placed s t c l None = inside s t c l ≡ false

-- a fact is inside the house: its component and hours are, its label moves, and it does not end before it begins
unfoldable pub fact_inside : {S : Type 0} → Sizes → Fact S → Bool
fact_inside s f = nat_lt f.component (components s) && moves s f.label && nat_le f.from f.to && nat_le f.to s.last

-- a fact covers the cells of its component and label at its hours, both ends included
unfoldable pub covers : {S : Type 0} → ℕ → ℕ → ℕ → Fact S → Bool
covers t c l f = f.component == c && f.label == l && nat_le f.from t && nat_le t f.to
