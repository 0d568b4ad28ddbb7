-- Sets of points, and tests over the numbers below a limit.
use Rattle.std.specs.Prelude.{◌≡◌, ℕ, zero, suc, ◌+◌, Bool, true, false, cond, not, ◌&&◌, ◌||◌, nat_lt}

-- each follows from the other
abbrev pub Iff : Type 0 → Type 0 → Type 0
Iff P Q = (P → Q) × (Q → P)

-- a set of points, by the test that its points pass
abbrev pub Points : Type 0
Points = ℕ → Bool

-- every point of a is one of b
abbrev pub Among : Points → Points → Type 0
Among a b = (p : ℕ) → a p ≡ true → b p ≡ true

-- a and b have the same points
abbrev pub Same : Points → Points → Type 0
Same a b = (p : ℕ) → a p ≡ b p

-- a has all the points of a scale of n points
abbrev pub Loose : ℕ → Points → Type 0
Loose n a = (p : ℕ) → a p ≡ nat_lt p n

-- m has exactly the points that a and b both have
abbrev pub Meet : Points → Points → Points → Type 0
Meet a b m = (p : ℕ) → m p ≡ (a p && b p)

-- where a passes, b has to pass
unfoldable pub implies : Bool → Bool → Bool
implies a b = not a || b

-- every number below n passes
unfoldable pub each_below : ℕ → (ℕ → Bool) → Bool
each_below zero f = true
each_below (suc n) f = each_below n f && f n

-- on a scale of n points: every point of a is one of b
unfoldable pub within : ℕ → Points → Points → Bool
within n a b = each_below n (λ p. implies (a p) (b p))

-- on a scale of n points: a has no point
unfoldable pub void : ℕ → Points → Bool
void n a = each_below n (λ p. not (a p))

-- on a scale of n points: a has every point
unfoldable pub is_loose : ℕ → Points → Bool
is_loose n a = each_below n a

-- some number below n passes
unfoldable pub some_below : ℕ → (ℕ → Bool) → Bool
some_below zero f = false
some_below (suc n) f = some_below n f || f n

-- how many numbers below n pass
unfoldable pub count_below : ℕ → (ℕ → Bool) → ℕ
count_below zero f = 0
count_below (suc n) f = count_below n f + cond (f n) 1 0
