-- What reads of tables and cells come to. Assumes nothing.
use Rattle.std.proofs.Common.{◌≡◌, ℕ, ◌<◌, ◌≤◌, Bool, true, false, not, ◌&&◌, List, get_or, Some, None, Option, Bor, sym, refl, subst, ◌∙◌, zero-add}
use Rattle.std.specs.Prelude.{option_copied}
use Rattle.std.specs.Slice.{IsItemAt}
use Rattle.std.proofs.lemmas.Bool.{true≢false, lt-ltb, le-ltb, cond-true, cond-false}
use Rattle.std.specs.List.{list_all, range_with_len}
use Rattle.std.proofs.lemmas.List.FromFn.{length-range_with_len, get_or-range_with_len}
use Rattle.std.proofs.lemmas.List.Recursion.{and_at, and_from_places}
use Rattle.points.specs.Points.{Points, Same, within, void, each_below}
use Rattle.points.proofs.Decided.{each_use, each_from, implies_from, same_test}
use Rattle.points.specs.Tables.{at_place}
use Rattle.points.proofs.Tabled.{at_got}
use Rattle.house.specs.declared.tables.House.{House}
use Rattle.house.specs.declared.tables.Test.{Test}
use Rattle.house.specs.declared.tables.Sizes.{Sizes}
use Rattle.house.specs.Cells.{inside, place}
use Rattle.fitting.specs.Course.{Course, course_of}
use Rattle.fitting.specs.Tests.{meets, fixed_at, seen}
use Rattle.fitting.proofs.Narrow.{meets_mono}
use Rattle.judge.specs.Judged.{points_of, bound_at}

-- a test of every number below a limit
pub all_below : (n : ℕ) (f : ℕ → Bool) → list_all f (range_with_len 0 n) ≡ each_below n f
all_below n f =
    same_test _ _
    (λ e. each_from n f (λ k l. rw (read k l) at (and_at (list_all f) f refl (λ _ _. refl) (range_with_len 0 n) k 0 (rw length-range_with_len l) e)))
    (λ e. and_from_places (list_all f) f refl (λ _ _. refl) (range_with_len 0 n) 0 (λ k l. let lt : k < n = rw length-range_with_len at l in rw (read k lt) (each_use n f e k lt)))
  where
    read : (k : ℕ) → k < n → get_or (range_with_len 0 n) k 0 ≡ k
    read k l = get_or-range_with_len 0 n k 0 l ∙ zero-add k

none_within : (n : ℕ) (bound : Points) → within n (λ p. false) bound ≡ true
unfolding within
none_within n bound = each_from n _ (λ p l. implies_from false (bound p) (λ e. absurd (true≢false (sym e))))

module _ {S : Type 0} (has : S → Points) where
  -- the points of what `get` gives of a list of bounds
  pub bound_got : (xs : List S) (i : ℕ) (r : Option (Bor S)) → IsItemAt xs i r → Same (points_of has (option_copied r)) (bound_at has xs i)
  unfolding bound_at
  bound_got xs i None got p = sym (at_got false (λ b. has b p) xs i None got)
  bound_got xs i (Some x) got p = sym (at_got false (λ b. has b p) xs i (Some x) got)

  -- the same of a place however it was reckoned
  pub bound_got_at : (xs : List S) (i j : ℕ) (r : Option (Bor S)) → IsItemAt xs i r → i ≡ j → Same (points_of has (option_copied r)) (bound_at has xs j)
  bound_got_at xs i j r got e = subst (λ (k : ℕ). Same (points_of has (option_copied r)) (bound_at has xs k)) e (bound_got xs i r got)

  module _ (h : House S) (a : Course) where
    -- a fixed label looks at the fixed bound
    pub seen_fixed : (r : Points) (t c l : ℕ) → l < h.sizes.fixed → Same r (fixed_at has h c l) → Same r (seen has h a t c l)
    unfolding seen
    seen_fixed r t c l lt e p = e p ∙ sym (cond-true _ _ _ (lt-ltb l h.sizes.fixed lt))

    -- any other label looks at the course
    pub seen_else : (r : Points) (t c l : ℕ) → h.sizes.fixed ≤ l → Same r (a t c l) → Same r (seen has h a t c l)
    unfolding seen
    seen_else r t c l le e p = e p ∙ sym (cond-false _ _ _ (le-ltb l h.sizes.fixed le))

  -- a cell of the house has the points of the bound at its place, and what is no cell has none
  pub cell_read : (s : Sizes) (cells : List S) (r : Points) (t c l : ℕ) → inside s t c l ≡ true → Same r (bound_at has cells (place s t c l)) → Same r (course_of s has cells t c l)
  unfolding bound_at course_of
  cell_read s cells r t c l e same p = same p ∙ (rw e)

  pub cell_none : (s : Sizes) (cells : List S) (t c l : ℕ) → inside s t c l ≡ false → Same (λ p. false) (course_of s has cells t c l)
  unfolding course_of
  cell_none s cells t c l e p = rw e

-- what has the same points meets the same tests
pub meets_same : (n : ℕ) (a b bound : Points) → Same a b → meets n a bound ≡ meets n b bound
meets_same n a b bound e = same_test _ _ (meets_mono n b a bound (λ p x. e p ∙ x)) (meets_mono n a b bound (λ p x. sym (e p) ∙ x))

-- what has no point meets every bound that is not void
pub meets_none : (n : ℕ) (bound : Points) → not (void n bound) ≡ meets n (λ p. false) bound
unfolding meets
meets_none n bound = sym (right (not (void n bound)) (within n (λ p. false) bound) (none_within n bound))
  where
    right : (x y : Bool) → y ≡ true → (x && y) ≡ x
    right true y e = e
    right false y e = refl

-- a test is met by what is seen of its label
pub met_read : {S : Type 0} (n : ℕ) (has : S → Points) (tests : List (Test S)) (look : ℕ → Points) (i : ℕ) (d : Bor (Test S)) (cell : Points) (r : Bool) → IsItemAt tests i (Some d) →
    Same cell (look d.now.label) → r ≡ meets n cell (has d.now.bound) → r ≡ at_place false (λ test. meets n (look test.label) (has test.bound)) tests i
met_read n has tests look i d cell r got e m = m ∙ (meets_same n _ _ _ e ∙ sym (at_got false (λ test. meets n (look test.label) (has test.bound)) tests i (Some d) got))
