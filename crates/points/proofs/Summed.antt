-- Sums over the numbers below a limit: where a smaller one is no less, nothing is smaller. Assumes nothing.
use Rattle.std.proofs.Common.{◌≡◌, ℕ, zero, suc, ◌+◌, ◌<◌, ◌≤◌, Bool, true, cond, sym, subst, ⊎_elim, le_of_suc-le-suc, eq-or-lt_of_le, arith}
use Rattle.std.proofs.lemmas.Bool.Decides.{nat_tests}
use Rattle.points.specs.Points.{count_below}
use Rattle.points.proofs.Counted.{count_mono}

-- the sum of f over the numbers below n
unfoldable pub sum_below : ℕ → (ℕ → ℕ) → ℕ
sum_below zero f = 0
sum_below (suc n) f = sum_below n f + f n

pub sum_mono : (n : ℕ) (f g : ℕ → ℕ) → ((k : ℕ) → k < n → f k ≤ g k) → sum_below n f ≤ sum_below n g
unfolding sum_below
sum_mono zero f g all = omega arith
sum_mono (suc n) f g all = omega (arith, all n (omega arith), sum_mono n f g (λ k l. all k (omega arith)))

pub sum_same : (n : ℕ) (f g : ℕ → ℕ) → ((k : ℕ) → k < n → f k ≤ g k) → sum_below n g ≤ sum_below n f → (k : ℕ) → k < n → g k ≤ f k
unfolding sum_below
sum_same zero f g all e k l = absurd (omega arith)
sum_same (suc n) f g all e k l =
    let here : f n ≤ g n = all n (omega arith) in
    let rest : sum_below n f ≤ sum_below n g = sum_mono n f g (λ j m. all j (omega arith)) in
    ⊎_elim (λ q. subst (λ (j : ℕ). g j ≤ f j) (sym q) (omega arith)) (λ lt. sum_same n f g (λ j m. all j (omega arith)) (omega arith) k lt)
    (eq-or-lt_of_le (le_of_suc-le-suc l))

pub count_same : (n : ℕ) (f g : ℕ → Bool) → ((k : ℕ) → k < n → f k ≡ true → g k ≡ true) → count_below n g ≤ count_below n f → (k : ℕ) → k < n → g k ≡ true → f k ≡ true
unfolding count_below
count_same zero f g all e k l = absurd (omega arith)
count_same (suc n) f g all e k l =
    let rest : count_below n f ≤ count_below n g = count_mono n f g (λ j m. all j (omega arith)) in
    let both : (count_below n g ≤ count_below n f) × (g n ≡ true → f n ≡ true) = one (f n) (g n) (all n (omega arith)) rest e in
    ⊎_elim (λ q. subst (λ (j : ℕ). g j ≡ true → f j ≡ true) (sym q) both.1) (λ lt. count_same n f g (λ j m. all j (omega arith)) both.0 k lt)
    (eq-or-lt_of_le (le_of_suc-le-suc l))
  where
    one : (a b : Bool) → (a ≡ true → b ≡ true) → count_below n f ≤ count_below n g → count_below n g + cond b 1 0 ≤ count_below n f + cond a 1 0 →
        (count_below n g ≤ count_below n f) × (b ≡ true → a ≡ true)
    one a b h le e = grind (arith, nat_tests)
