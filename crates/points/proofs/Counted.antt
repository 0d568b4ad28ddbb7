-- Counts over the numbers below a limit. Assumes nothing.
use Rattle.std.proofs.Common.{◌≡◌, ℕ, zero, suc, ◌+◌, ◌<◌, ◌≤◌, Bool, true, false, cond, ◌||◌, ◌≢◌, sym, refl, subst, ⊎_elim, le_of_suc-le-suc, eq-or-lt_of_le, arith}
use Rattle.std.proofs.lemmas.Bool.{true≢false, or_cases, or_left, or_right}
use Rattle.std.proofs.lemmas.Bool.Decides.{nat_tests}
use Rattle.points.specs.Points.{some_below, count_below}

pub some_use : (n : ℕ) (f : ℕ → Bool) → some_below n f ≡ true → (k : ℕ) × (k < n) × (f k ≡ true)
unfolding some_below
some_use zero f e = absurd (true≢false (sym e))
some_use (suc n) f e =
    ⊎_elim (λ h. let s = some_use n f h in (s.0, omega (arith, s.1), s.2)) (λ h. (n, omega arith, h)) (or_cases (some_below n f) (f n) e)

pub count_mono : (n : ℕ) (f g : ℕ → Bool) → ((k : ℕ) → k < n → f k ≡ true → g k ≡ true) → count_below n f ≤ count_below n g
unfolding count_below
count_mono zero f g all = omega arith
count_mono (suc n) f g all = grind (arith, nat_tests, count_mono n f g (λ k l. all k (omega arith)), all n (omega arith))

pub count_none : (n : ℕ) (f : ℕ → Bool) → ((k : ℕ) → f k ≡ false) → count_below n f ≡ 0
unfolding count_below
count_none zero f all = refl
count_none (suc n) f all = rw (all n) (omega (arith, count_none n f all))

pub count_ext : (n : ℕ) (f g : ℕ → Bool) → ((k : ℕ) → k < n → f k ≡ g k) → count_below n f ≡ count_below n g
unfolding count_below
count_ext zero f g all = refl
count_ext (suc n) f g all =
    rw (all n (omega arith), count_ext n f g (λ k l. all k (omega arith)))

-- one number more passes, if b
pub count_one : (n : ℕ) (f g : ℕ → Bool) (k : ℕ) (b : Bool) → k < n → ((u : ℕ) → u ≢ k → f u ≡ g u) → f k ≡ (g k || b) → (b ≡ true → g k ≡ false) →
    count_below n f ≡ count_below n g + cond b 1 0
unfolding count_below
count_one zero f g k b l other here apart = absurd (omega arith)
count_one (suc n) f g k b l other here apart =
    ⊎_elim last
    (λ lt. let h : f n ≡ g n = other n (omega arith) in rw h (omega (arith, count_one n f g k b lt other here apart)))
    (eq-or-lt_of_le (le_of_suc-le-suc l))
  where
    sum : (x y b : Bool) → x ≡ (y || b) → (b ≡ true → y ≡ false) → count_below n f ≡ count_below n g → count_below n f + cond x 1 0 ≡ count_below n g + cond y 1 0 + cond b 1 0
    sum x y b h a e = grind (arith, nat_tests)

    last : k ≡ n → count_below n f + cond (f n) 1 0 ≡ count_below n g + cond (g n) 1 0 + cond b 1 0
    last e =
        sum (f n) (g n) b (subst (λ (j : ℕ). f j ≡ (g j || b)) e here) (λ y. subst (λ (j : ℕ). g j ≡ false) e (apart y))
        (count_ext n f g (λ u lt. other u (omega arith)))

-- no more pass than there are
pub count_le : (n : ℕ) (f : ℕ → Bool) → count_below n f ≤ n
unfolding count_below
count_le zero f = omega arith
count_le (suc n) f = grind (arith, nat_tests, count_le n f)

pub some_from : (n : ℕ) (f : ℕ → Bool) (k : ℕ) → k < n → f k ≡ true → some_below n f ≡ true
unfolding some_below
some_from zero f k l e = absurd (omega arith)
some_from (suc n) f k l e =
    ⊎_elim (λ q. or_right (some_below n f) (f n) (subst (λ (j : ℕ). f j ≡ true) q e)) (λ lt. or_left (some_below n f) (f n) (some_from n f k lt e))
    (eq-or-lt_of_le (le_of_suc-le-suc l))
