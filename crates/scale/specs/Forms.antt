-- The four-byte form of a bound.
use Rattle.std.specs.Prelude.{◌≡◌, ℕ, ◌/◌, ◌%◌, List, [], ◌∷◌, Ok, Err, Result, ◌≢◌}
use Rattle.points.specs.Points.{Iff, Points, Same}
use Rattle.scale.specs.declared.forms.NotABound.{NotABound}

-- two 16-bit numbers as four bytes, each number with its high byte first
abbrev pub halves : ℕ → ℕ → List ℕ
halves a b = a / 256 ∷ a % 256 ∷ b / 256 ∷ b % 256 ∷ []

module _ {S : Type 0} (form : S → List ℕ) where
  -- four bytes are read as a bound with that form, and refused where no bound has it
  abbrev pub Reads : List ℕ → Result S NotABound → Type 0
  Reads bytes (Ok s) = form s ≡ bytes
  Reads bytes (Err e) = (e.bytes ≡ bytes) × ((s : S) → form s ≢ bytes)

-- what holds of every recorded scale
pub record FormLaws {S : Type 0} (has : S → Points) (form : S → List ℕ) : Type 0 where
  -- bounds of the same points have one form, and bounds of different points have different forms
  pub one_form : (a b : S) → Iff (form a ≡ form b) (Same (has a) (has b))
  -- what was written is read again, as a bound of the same points
  pub read_back : (a : S) (r : Result S NotABound) → Reads form (form a) r → (b : S) × ((r ≡ Ok b) × Same (has b) (has a))
