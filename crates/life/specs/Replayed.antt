-- What a replay of calls answers and leaves.
use Rattle.std.specs.Prelude.{◌≡◌, ℕ, Bool, true, false, cond, List, [], ◌∷◌, length, take}
use Rattle.points.specs.Points.{Points}
use Rattle.house.specs.declared.tables.Fact.{Fact}
use Rattle.house.specs.declared.tables.House.{House}
use Rattle.house.specs.Cells.{cell_count}
use Rattle.examining.specs.Examine.{Accepted}
use Rattle.life.specs.declared.calls.Plan.{Plan}
use Rattle.life.specs.declared.calls.Call.{Call}
use Rattle.life.specs.declared.calls.Answer.{Answer}
use Rattle.life.specs.declared.calls.Answer.TheVariants.{Filed, Struck, Settled, Contradiction, Reopened, Seen, Entailed, Refused, Misplaced}
use Rattle.life.specs.Kinds.{State}
use Rattle.life.specs.Life.{Event, Opened, Life, Replay}
use Rattle.life.specs.Promise.{calls, answers, Promise}

module _ {S : Type 0} where
  -- the build did not allow this call
  abbrev pub misplaced : Answer S → Bool
  misplaced Filed = false
  misplaced Struck = false
  misplaced Settled = false
  misplaced (Contradiction at) = false
  misplaced Reopened = false
  misplaced (Seen x) = false
  misplaced (Entailed b) = false
  misplaced (Refused r) = false
  misplaced Misplaced = true

  -- the calls that the build allowed
  abbrev pub placed : List (Event S) → List (Event S)
  placed [] = []
  placed (e ∷ es) = cond (misplaced e.answer) (placed es) (e ∷ placed es)

module _ {S : Type 0} (n : ℕ) (has : S → Points) (h : House S) (formulas : ℕ) (says : ℕ → ℕ → ℕ → Points) where
  -- The calls and their answers, in their order, are those of a replay from open on, which leads from the table and the
  -- cells that were lent to those that are left. Without the calls that the build did not allow they are a life, and on an
  -- accepted house, with as many cells as it asks, this life keeps the promise.
  pub record Replayed (asked : List (Call S)) (told : List (Answer S)) (table : List (Fact S)) (cells : List S) (table' : List (Fact S)) (cells' : List S) : Type 0 where
    pub first : State S
    pub opened : Opened table cells first
    pub plan : Plan
    pub events : List (Event S)
    pub asked_are : calls events ≡ asked
    pub told_are : answers events ≡ told
    pub replay : Replay n has h formulas says first events (record { plan = plan; table = table'; cells = cells' })
    pub life : Life n has h formulas says first (placed events) (record { plan = plan; table = table'; cells = cells' })
    pub promise : Accepted n has h formulas → length cells ≡ cell_count h.sizes → Promise n has h says (length table) (placed events)

  -- where memory for the answers runs out, table and cells are what a replay of the first of the calls leaves
  abbrev pub Stopped : List (Call S) → List (Fact S) → List S → List (Fact S) → List S → Type 0
  Stopped asked table cells table' cells' = (k : ℕ) × (told : List (Answer S)) × Replayed (take k asked) told table cells table' cells'
