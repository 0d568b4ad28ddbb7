-- Modes: the points 0 to 15, and the bounds that are sets of them.
use Rattle.std.specs.Prelude.{◌≡◌, ℕ, ◌/◌, ◌%◌, ◌^◌, ◌<◌, Bool, ◌&&◌, List, ◌==◌, nat_lt}
use Rattle.points.specs.Points.{Points, Same}
use Rattle.scale.specs.declared.sets.Modes.{Modes}
use Rattle.scale.specs.Forms.{halves}

-- bit p of a mask, which is worth 2 ^ p, is set
unfoldable pub bit : ℕ → ℕ → Bool
bit mask p = mask / 2 ^ p % 2 == 1

-- the modes of a mask: mode p, one of 0 to 15, where bit p is set
unfoldable pub modes : ℕ → Points
modes mask p = nat_lt p 16 && bit mask p

-- the points of a bound
abbrev pub points : Modes → Points
points s = modes s.mask

-- the value with this mask
abbrev pub masked : ℕ → Modes
masked mask = record { mask = mask }

-- the named bounds: the 65,536 sets, each by its mask of 16 bits
abbrev pub Canonical : Modes → Type 0
Canonical s = s.mask < 2 ^ 16

-- the form of a bound: its mask of 16 bits, then 00 00
abbrev pub set_form : Modes → List ℕ
set_form s = halves (s.mask % 2 ^ 16) 0

-- different named bounds have different points
abbrev pub SetsApart : Type 0
SetsApart = (a b : Modes) → Canonical a → Canonical b → Same (points a) (points b) → a ≡ b
