-- The meet of the bounds of a list of steps. Assumes nothing.
use Rattle.std.proofs.Common.{◌≡◌, ℕ, Bool, ◌&&◌, List, [], ◌∷◌, ◌++◌, filter, nat_lt, refl, arith}
use Rattle.std.proofs.lemmas.Bool.Decides.{nat_tests}
use Rattle.points.specs.Points.{Points, Same, Meet, Loose, implies}
use Rattle.points.specs.Tables.{all_pass}
use Rattle.book.specs.Steps.{presses, said}
use Rattle.book.specs.Saying.{pass_push}

pass_filter : {T : Type 0} (q r : T → Bool) (ts : List T) → all_pass r (filter q ts) ≡ all_pass (λ t. implies (q t) (r t)) ts
unfolding all_pass implies
pass_filter q r [] = refl
pass_filter q r (t ∷ ts) = grind (arith, nat_tests, pass_filter q r ts)

module _ {T : Type 0} (has : T → Points) (size : ℕ) where
  -- the points of the scale that every step of the list has
  unfoldable pub shared : List T → Points
  shared ts p = nat_lt p size && all_pass (λ t. has t p) ts

  pub shared_none : (b : Points) → Loose size b → Same b (shared [])
  unfolding shared all_pass
  shared_none b loose p = grind (arith, nat_tests, loose p)

  -- a meet with one step more
  pub shared_more : (ts : List T) (t : T) (a b : Points) → Same a (shared ts) → Meet a (has t) b → Same b (shared (ts ++ t ∷ []))
  unfolding shared
  shared_more ts t a b so_far meet p = grind (arith, nat_tests, meet p, so_far p, pass_push (λ u. has u p) ts t)

  -- a formula says what the steps share that press on it
  pub shared_said : (number : T → ℕ) (reaches : T → ℕ → ℕ → Bool) (ts : List T) (f x y : ℕ) →
      Same (shared (filter (presses number reaches f x y) ts)) (said number reaches has size ts f x y)
  unfolding shared said
  shared_said number reaches ts f x y p = rw (pass_filter (presses number reaches f x y) (λ t. has t p) ts)
