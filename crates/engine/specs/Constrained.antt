-- What constraints make of an hour.
use Rattle.std.specs.Prelude.{◌≡◌, ℕ, Bool, true, false, not, ◌&&◌, length, ◌≢◌}
use Rattle.points.specs.Points.{Points, Among, Same, within, count_below}
use Rattle.points.specs.Tables.{at_place, all_pass}
use Rattle.house.specs.declared.tables.House.{House}
use Rattle.house.specs.declared.tables.Constraint.{Constraint}
use Rattle.fitting.specs.Course.{Course, Within}
use Rattle.fitting.specs.Tests.{body_met_lem}
use Rattle.fitting.specs.Step.{constraint_grants}

-- nothing is changed on other components or at other hours
abbrev pub Elsewhere : ℕ → ℕ → Course → Course → Type 0
Elsewhere hour component a b = (t c l : ℕ) → (t ≡ hour → c ≢ component) → Same (b t c l) (a t c l)

module _ {S : Type 0} (n : ℕ) (has : S → Points) (h : House S) where
  -- the cell of the head's label is within the head's bound
  unfoldable pub head_within : Course → ℕ → ℕ → Constraint → Bool
  head_within a t c k = at_place true (λ head. within n (a t c head.label) (has head.bound)) h.tests.now k.head

  -- a constraint fires: its body is met, and the cell is not yet within the head's bound
  unfoldable pub fires : Course → ℕ → ℕ → Constraint → Bool
  fires a t c k = body_met_lem n has h a t c k.body && not (head_within a t c k)

  -- a constraint is spent: its body is met, and the cell is within the head's bound. It stays so
  unfoldable pub spent : Course → ℕ → ℕ → Constraint → Bool
  spent a t c k = body_met_lem n has h a t c k.body && head_within a t c k

  -- how many constraints are spent
  unfoldable pub spent_count : Course → ℕ → ℕ → ℕ
  spent_count a t c = count_below (length h.constraints.now) (λ i. at_place false (spent a t c) h.constraints.now i)

  -- every constraint grants the points of a component's cells at an hour
  unfoldable pub Resting : ℕ → ℕ → Course → Type 0
  Resting t c a = (l p : ℕ) → a t c l p ≡ true → all_pass (constraint_grants n has h a t c l p) h.constraints.now ≡ true

  -- an hour was narrowed from a to b, and nothing was lost: a course that lies within a at that hour, and whose points
  -- there every constraint grants, lies within b too
  pub record Constrained (hour : ℕ) (a b : Course) : Type 0 where
    pub elsewhere : (t c l : ℕ) → (t ≢ hour) → Same (b t c l) (a t c l)
    pub narrower : Within b a
    pub keeps : (x : Course) → ((c l : ℕ) → Among (x hour c l) (a hour c l)) → ((c : ℕ) → Resting hour c x) → (c l : ℕ) → Among (x hour c l) (b hour c l)
