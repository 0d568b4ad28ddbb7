-- The listing of a course: a line for each cell that is not loose.
use Rattle.std.specs.Prelude.{ℕ, suc, ◌+◌, ◌*◌, ◌/◌, ◌%◌, max, cond, List, [], ◌∷◌, ◌++◌, codes, decimal, slice_index}
use Rattle.points.specs.Points.{Points, is_loose}
use Rattle.house.specs.declared.tables.Sizes.{Sizes}
use Rattle.house.specs.Cells.{components}

-- the hour, the component and the label of the cell at place i: cells stand hour by hour, in an hour component by
-- component, there label by label. A house has at least one component and one moving label; where sizes have none, one
-- is taken
abbrev pub hour_of : Sizes → ℕ → ℕ
hour_of s i = i / max s.moving 1 / max (components s) 1

abbrev pub component_of : Sizes → ℕ → ℕ
component_of s i = i / max s.moving 1 % max (components s) 1

abbrev pub label_of : Sizes → ℕ → ℕ
label_of s i = s.fixed + i % max s.moving 1

-- a number of 16 bits from its two bytes, the high one first
abbrev pub number : ℕ → ℕ → ℕ
number high low = high * 256 + low

-- the line of the cell at place i, by the form of its bound: "hour component label a b", where a and b are the two halves
-- of the four bytes
abbrev pub cell_line : Sizes → ℕ → List ℕ → List ℕ
cell_line s i form =
    decimal (hour_of s i) ++ (codes " " ++ (decimal (component_of s i) ++ (codes " " ++ (decimal (label_of s i) ++ (codes " "
    ++ (decimal (number (slice_index form 0) (slice_index form 1)) ++ (codes " " ++ (decimal (number (slice_index form 2) (slice_index form 3)) ++ codes "\n"))))))))

module _ {S : Type 0} (n : ℕ) (has : S → Points) (form : S → List ℕ) where
  -- a loose cell has no line
  unfoldable pub line_of : Sizes → ℕ → S → List ℕ
  line_of s i x = cond (is_loose n (has x)) [] (cell_line s i (form x))

  -- the lines of the cells from place i on, in their order
  unfoldable pub lines_from : Sizes → ℕ → List S → List ℕ
  lines_from s i [] = []
  lines_from s i (x ∷ xs) = line_of s i x ++ lines_from s (suc i) xs

  -- the listing of a course
  abbrev pub listing_of : Sizes → List S → List ℕ
  listing_of s cells = lines_from s 0 cells
