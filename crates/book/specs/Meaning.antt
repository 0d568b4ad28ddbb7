-- What a book of formulas answers.
use Rattle.std.specs.Prelude.{ℕ, Bool, cond, ◌&&◌, nat_le, nat_lt}
use Rattle.points.specs.Points.{Points}

-- a call asks for one of the book's formulas at x of y neighbours, where x ≤ y ≤ 200
abbrev pub asked : ℕ → ℕ → ℕ → ℕ → Bool
asked formulas f x y = nat_lt f formulas && nat_le x y && nat_le y 200

-- the points of the answer: what the formula says where one is asked for, and all points of the scale elsewhere
unfoldable pub answered : ℕ → ℕ → (ℕ → ℕ → ℕ → Points) → ℕ → ℕ → ℕ → Points
answered size formulas says f x y p = cond (asked formulas f x y) (says f x y p) (nat_lt p size)
