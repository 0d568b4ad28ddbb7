-- What a list of steps says.
use Rattle.std.specs.Prelude.{◌≡◌, ℕ, ◌+◌, ◌*◌, ◌<◌, ◌≤◌, max, Bool, true, ◌&&◌, List, [], ◌∷◌, ◌==◌, nat_le, nat_lt}
use Rattle.points.specs.Points.{Iff, Points, implies}
use Rattle.points.specs.Tables.{Every, all_pass}

-- a stair is reached at x of y where some are eligible, and x is at least `share` thousandths of y
abbrev pub share_reached : ℕ → ℕ → ℕ → Bool
share_reached share x y = nat_le 1 y && nat_le (share * y) (1000 * x)

-- a counting step is reached where at least `least` qualify, of however many
abbrev pub least_reached : ℕ → ℕ → ℕ → Bool
least_reached least x y = nat_le least x

-- a list has one formula more than the highest that a step is of, and none where it has no step
unfoldable pub formulas_of : {T : Type 0} → (T → ℕ) → List T → ℕ
formulas_of number [] = 0
formulas_of number (t ∷ ts) = max (number t + 1) (formulas_of number ts)

-- step t presses on formula f at x of y: it is of f, and reached there
abbrev pub presses : {T : Type 0} → (T → ℕ) → (T → ℕ → ℕ → Bool) → ℕ → ℕ → ℕ → T → Bool
presses number reaches f x y t = number t == f && reaches t x y

-- formula f says, at x of y, the points of the scale that every step has which presses on it
unfoldable pub said : {T : Type 0} → (T → ℕ) → (T → ℕ → ℕ → Bool) → (T → Points) → ℕ → List T → ℕ → ℕ → ℕ → Points
said number reaches has size steps f x y p = nat_lt p size && all_pass (λ t. implies (presses number reaches f x y t) (has t p)) steps

-- what the steps of one kind mean, on a scale of `size` points
pub record StepLaws {T : Type 0} (number : T → ℕ) (reaches : T → ℕ → ℕ → Bool) (has : T → Points) (size : ℕ) : Type 0 where
  -- a formula says exactly the points of the scale that each of its reached steps has
  pub said_means : (steps : List T) (f x y p : ℕ) →
      Iff (said number reaches has size steps f x y p ≡ true) ((p < size) × Every steps (λ t. number t ≡ f → reaches t x y ≡ true → has t p ≡ true))
  -- every step is of one of the formulas
  pub counts_all : (steps : List T) → Every steps (λ t. number t < formulas_of number steps)
  -- and no smaller number of formulas is enough
  pub counts_least : (steps : List T) (n : ℕ) → Every steps (λ t. number t < n) → formulas_of number steps ≤ n
