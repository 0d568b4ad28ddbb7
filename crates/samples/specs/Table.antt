-- The samples: worked examples, in one table under one statement.
use Rattle.std.specs.Prelude.{◌≡◌, ℕ, Bool, true, false, cond, List, [], ◌∷◌, nat_lt}
use Rattle.points.specs.Points.{Points, Meet, Same}
use Rattle.scale.specs.declared.ranges.Thousandths.{Thousandths}
use Rattle.scale.specs.declared.sets.Modes.{Modes}
use Rattle.scale.specs.Ranges as ranges
use Rattle.scale.specs.Sets as sets
use Rattle.book.specs.Steps.{share_reached, least_reached}
use Rattle.book.specs.Quorums.{quorate}

pub data Sample : Type 0 where
  -- two bounds in thousandths meet in a third
  ranges_meet : Thousandths → Thousandths → Thousandths → Sample
  -- two sets of modes meet in a third
  sets_meet : Modes → Modes → Modes → Sample
  -- a stair of this share is reached at x of y, or not
  stair_reached : ℕ → ℕ → ℕ → Bool → Sample
  -- a counting step from this number on is reached at x of y, or not
  count_reached : ℕ → ℕ → ℕ → Bool → Sample
  -- a quorum of so many is silent at y eligible neighbours, or repeats the book below it
  quorum_silent : ℕ → ℕ → Bool → Sample

-- what a sample says: the contracts leave one answer, and it is the sample's
abbrev pub Right : Sample → Type 0
Right (ranges_meet a b want) = (m : Thousandths) → Meet (ranges.points a) (ranges.points b) (ranges.points m) → ranges.Canonical m → m ≡ want
Right (sets_meet a b want) = (m : Modes) → Meet (sets.points a) (sets.points b) (sets.points m) → sets.Canonical m → m ≡ want
Right (stair_reached share x y want) = share_reached share x y ≡ want
Right (count_reached least x y want) = least_reached least x y ≡ want
Right (quorum_silent least y want) =
    (size : ℕ) (says : ℕ → ℕ → ℕ → Points) (f x : ℕ) → Same (quorate size least says f x y) (cond want (λ p. nat_lt p size) (says f x y))

-- every sample of a table is right
abbrev pub AllRight : List Sample → Type 0
AllRight [] = Unit {0}
AllRight (s ∷ ss) = Right s × AllRight ss

abbrev pub samples : List Sample
samples =
    -- 0 to 600 and 400 to 1000 meet in 400 to 600
    ranges_meet (ranges.ranging 0 600) (ranges.ranging 400 1000) (ranges.ranging 400 600)
    -- 0 to 399 and 400 to 1000 meet in the void
    ∷ ranges_meet (ranges.ranging 0 399) (ranges.ranging 400 1000) (ranges.ranging 1 0)
    -- the masks 6 and 3 meet in 2
    ∷ sets_meet (sets.masked 6) (sets.masked 3) (sets.masked 2)
    -- share 500 is reached at 1 of 2, and not at 1 of 3
    ∷ stair_reached 500 1 2 true
    ∷ stair_reached 500 1 3 false
    -- a counting step from 2 on is reached at 2, and not at 1
    ∷ count_reached 2 2 2 true
    ∷ count_reached 2 1 2 false
    -- a quorum of 3 is silent at 2 eligible neighbours, and repeats at 3
    ∷ quorum_silent 3 2 true
    ∷ quorum_silent 3 3 false
    ∷ []

-- the one statement
abbrev pub SamplesStand : Type 0
SamplesStand = AllRight samples
