-- The laws of bounds that all code over a scale leans on.
use Rattle.std.specs.Prelude.{◌≡◌, ℕ, true, ◌≢◌}
use Rattle.points.specs.Points.{Iff, Points, Among, Meet, Loose, within, void}

-- a scale of `size` points, whose bounds have the points that `has` says
pub record Laws {S : Type 0} (size : ℕ) (has : S → Points) : Type 0 where
  -- within says yes exactly when every point of the first bound is one of the second
  pub within_means : (a b : S) → Iff (within size (has a) (has b) ≡ true) (Among (has a) (has b))
  -- void says yes exactly when a bound has no point
  pub void_means : (a : S) → Iff (void size (has a) ≡ true) ((p : ℕ) → has a p ≢ true)
  -- within is reflexive and transitive
  pub reflexive : (a : S) → within size (has a) (has a) ≡ true
  pub transitive : (a b c : S) → within size (has a) (has b) ≡ true → within size (has b) (has c) ≡ true → within size (has a) (has c) ≡ true
  -- everything is within a loose bound
  pub below_loose : (a b : S) → Loose size (has b) → within size (has a) (has b) ≡ true
  -- a meet is within both bounds, and contains what is within both
  pub meet_left : (a b m : S) → Meet (has a) (has b) (has m) → within size (has m) (has a) ≡ true
  pub meet_right : (a b m : S) → Meet (has a) (has b) (has m) → within size (has m) (has b) ≡ true
  pub meet_most : (a b c m : S) → Meet (has a) (has b) (has m) → within size (has c) (has a) ≡ true → within size (has c) (has b) ≡ true → within size (has c) (has m) ≡ true
  -- void is within everything, and what is within void is void
  pub void_below : (a b : S) → void size (has a) ≡ true → within size (has a) (has b) ≡ true
  pub below_void : (a b : S) → void size (has b) ≡ true → within size (has a) (has b) ≡ true → void size (has a) ≡ true
