-- Thousandths: the points 0 to 1000, and the bounds that are closed ranges of them.
use Rattle.std.specs.Prelude.{◌≡◌, ℕ, ◌≤◌, min, true, cond, ◌&&◌, ◌⊎◌, List, Some, None, Ok, Err, Option, Result, ◌≢◌, nat_le, nat_lt}
use Rattle.points.specs.Points.{Points, Same}
use Rattle.scale.specs.declared.ranges.Thousandths.{Thousandths}
use Rattle.scale.specs.declared.ranges.NotARange.{NotARange}
use Rattle.scale.specs.Forms.{halves}

-- the points from 0 to 1000 that lie from low to high, whatever these are
abbrev pub range : ℕ → ℕ → Points
range low high p = nat_le low p && nat_le p high && nat_lt p 1001

-- the points of a bound
abbrev pub points : Thousandths → Points
points s = range s.low s.high

-- the value with these ends
abbrev pub ranging : ℕ → ℕ → Thousandths
ranging low high = record { low = low; high = high }

-- the named bounds: the closed ranges of points, and one void
abbrev pub Canonical : Thousandths → Type 0
Canonical s = ((s.low ≤ s.high) × (s.high ≤ 1000)) ⊎ (s ≡ ranging 1 0)

-- the named bound that has the points from low to high: the range cut at 1000, or the void
abbrev pub named : ℕ → ℕ → Thousandths
named low high = cond (nat_le low (min high 1000)) (ranging low (min high 1000)) (ranging 1 0)

-- the form of a bound: the two ends of the named bound that has its points. The void is 00 01 00 00
abbrev pub range_form : Thousandths → List ℕ
range_form s = halves (named s.low s.high).low (named s.low s.high).high

-- a range is made from two ends in order, of which none is above 1000; others are refused
abbrev pub Ranged : ℕ → ℕ → Result Thousandths NotARange → Type 0
Ranged low high (Ok s) = (s ≡ ranging low high) × (low ≤ high) × (high ≤ 1000)
Ranged low high (Err e) = (e.low ≡ low) × (e.high ≡ high) × (low ≤ high → high ≤ 1000 → ⊥)

-- the lowest and the highest point, if there are any
abbrev pub Ends : Thousandths → Option (ℕ × ℕ) → Type 0
Ends s (Some e) = (points s e.0 ≡ true) × (points s e.1 ≡ true) × ((p : ℕ) → points s p ≡ true → (e.0 ≤ p) × (p ≤ e.1))
Ends s None = (p : ℕ) → points s p ≢ true

-- different named bounds have different points
abbrev pub RangesApart : Type 0
RangesApart = (a b : Thousandths) → Canonical a → Canonical b → Same (points a) (points b) → a ≡ b
