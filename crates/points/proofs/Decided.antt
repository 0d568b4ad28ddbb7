-- What the tests over points say. Assumes nothing.
use Rattle.std.proofs.Common.{◌≡◌, ℕ, zero, suc, ◌+◌, ◌<◌, Bool, true, false, sym, refl, subst, ⊎_elim, le_of_suc-le-suc, eq-or-lt_of_le, add-one, ◌∙◌, arith}
use Rattle.std.proofs.lemmas.Bool.{and_parts, and_from, true≢false, both_ways, not-true, not_from_false, false_from_ne_true, cases_Bool, ltb-true, lt-ltb}
use Rattle.std.proofs.lemmas.Bool.Decides.{same_from_decides}
use Rattle.points.specs.Points.{Iff, Points, Among, Loose, implies, each_below, within, void, is_loose}

-- implies
pub implies_use : (a b : Bool) → implies a b ≡ true → a ≡ true → b ≡ true
unfolding implies
implies_use true b h e = h
implies_use false b h e = absurd (true≢false (sym e))

pub implies_from : (a b : Bool) → (a ≡ true → b ≡ true) → implies a b ≡ true
unfolding implies
implies_from true b h = h refl
implies_from false b h = refl

-- below a limit
pub each_use : (n : ℕ) (f : ℕ → Bool) → each_below n f ≡ true → (k : ℕ) → k < n → f k ≡ true
unfolding each_below
each_use zero f e k l = absurd (omega arith)
each_use (suc n) f e k l =
    let both = and_parts (each_below n f) (f n) e in
    ⊎_elim (λ q. subst (λ (j : ℕ). f j ≡ true) (sym q) both.1) (λ lt. each_use n f both.0 k lt) (eq-or-lt_of_le (le_of_suc-le-suc l))

pub each_from : (n : ℕ) (f : ℕ → Bool) → ((k : ℕ) → k < n → f k ≡ true) → each_below n f ≡ true
unfolding each_below
each_from zero f all = refl
each_from (suc n) f all = and_from (each_below n f) (f n) (each_from n f (λ k l. all k (omega arith))) (all n (omega arith))

-- a loop's start, its step and its end
pub each_none : (f : ℕ → Bool) → each_below 0 f ≡ true
unfolding each_below
each_none f = refl

pub each_more : (n : ℕ) (f : ℕ → Bool) → each_below n f ≡ true → f n ≡ true → each_below (n + 1) f ≡ true
unfolding each_below
each_more n f e x = rw add-one (and_from (each_below n f) (f n) e x)

pub each_stops : (n : ℕ) (f : ℕ → Bool) (k : ℕ) → k < n → f k ≡ false → false ≡ each_below n f
each_stops n f k l x = ⊎_elim (λ e. absurd (both_ways (f k) x (each_use n f e k l))) sym (cases_Bool (each_below n f))

-- two tests that follow from each other say the same
pub same_test : (x y : Bool) → (x ≡ true → y ≡ true) → (y ≡ true → x ≡ true) → x ≡ y
same_test x y to from = same_from_decides {P = x ≡ true} x y (λ e. e, λ e. e) (from, to)

-- over all the points of a scale of n points, within, void and is_loose say what they mean
pub within_decides : (n : ℕ) (a b : Points) → ((p : ℕ) → a p ≡ true → p < n) → Iff (within n a b ≡ true) (Among a b)
unfolding within
within_decides n a b low = (
  (λ e p x. implies_use (a p) (b p) (each_use n _ e p (low p x)) x),
  λ all. each_from n _ (λ p l. implies_from (a p) (b p) (all p)),
)

pub void_decides : (n : ℕ) (a : Points) → ((p : ℕ) → a p ≡ true → p < n) → Iff (void n a ≡ true) ((p : ℕ) → a p ≡ true → ⊥)
unfolding void
void_decides n a low = (
  (λ e p x. both_ways (a p) (not-true (a p) (each_use n _ e p (low p x))) x),
  λ none. each_from n _ (λ p l. not_from_false (a p) (false_from_ne_true (a p) (none p))),
)

pub is_loose_decides : (n : ℕ) (a : Points) → ((p : ℕ) → a p ≡ true → p < n) → Iff (is_loose n a ≡ true) (Loose n a)
unfolding is_loose
is_loose_decides n a low = (
  (λ e p. same_test _ _ (λ x. lt-ltb p n (low p x)) (λ x. each_use n a e p (ltb-true p n x))),
  λ all. each_from n a (λ p l. all p ∙ lt-ltb p n l),
)

-- a bound has every point where a bound that does is within it
pub loose_within : (n : ℕ) (a b : Points) → Loose n a → within n a b ≡ is_loose n b
unfolding within is_loose
loose_within n a b all =
    same_test _ _
    (λ e. each_from n b (λ p l. implies_use (a p) (b p) (each_use n _ e p l) (all p ∙ lt-ltb p n l)))
    (λ e. each_from n _ (λ p l. implies_from (a p) (b p) (λ _. each_use n b e p l)))
