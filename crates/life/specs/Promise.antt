-- What is promised of every life of a plan.
use Rattle.std.specs.Prelude.{◌≡◌, ℕ, Bool, true, List, ◌∷◌, ◌++◌, map, length}
use Rattle.points.specs.Points.{Points, Iff}
use Rattle.house.specs.declared.tables.Cell.{Cell}
use Rattle.house.specs.declared.tables.Fact.{Fact}
use Rattle.house.specs.declared.tables.House.{House}
use Rattle.house.specs.Cells.{inside, place, cell_count, fact_inside}
use Rattle.fitting.specs.Course.{Course}
use Rattle.plan.specs.declared.outcomes.Clash.{Clash}
use Rattle.plan.specs.Courses.{Satisfies, Fitting, Settles}
use Rattle.plan.specs.Calls.{Stands}
use Rattle.life.specs.declared.calls.Call.{Call}
use Rattle.life.specs.declared.calls.Call.TheVariants.{Settle, Reopen, Look, Entails}
use Rattle.life.specs.declared.calls.Answer.{Answer}
use Rattle.life.specs.declared.calls.Answer.TheVariants.{Settled, Contradiction, Seen, Entailed}
use Rattle.life.specs.Kinds.{State}
use Rattle.life.specs.Life.{Event, Opened, Life, filed}

module _ {S : Type 0} where
  infix 70 ◌got◌
  -- a call with its answer
  abbrev pub ◌got◌ : Call S → Answer S → Event S
  c got a = record { call = c; answer = a }

  abbrev pub calls : List (Event S) → List (Call S)
  calls es = map (λ e. e.call) es

  abbrev pub answers : List (Event S) → List (Answer S)
  answers es = map (λ e. e.answer) es

  -- no reopen among them
  abbrev pub NoReopen : List (Event S) → Type 0
  NoReopen es = (before later : List (Event S)) (a : Answer S) → es ≡ before ++ Reopen got a ∷ later → ⊥

  -- a contradiction, whatever cell it names
  abbrev pub IsContradiction : Answer S → Type 0
  IsContradiction a = (at : Clash) × (a ≡ Contradiction at)

-- with a house and what its book's formulas say at x of y, on a scale of n points, and a table of `room` places
module _ {S : Type 0} (n : ℕ) (has : S → Points) (h : House S) (says : ℕ → ℕ → ℕ → Points) (room : ℕ) where
  -- a course without a void cell that fits the house and the facts then filed
  abbrev pub FitsThen : List (Event S) → Course → Type 0
  FitsThen before a = Fitting n has h says (filed h.sizes room (calls before)) a

  -- cells that hold such a course, within which every course that fits these lies
  abbrev pub SettlesThen : List (Event S) → List S → Type 0
  SettlesThen before cells = Settles n has h says (filed h.sizes room (calls before)) cells

  pub record Promise (life : List (Event S)) : Type 0 where
    -- settle answers contradiction exactly when no course without a void cell fits the house and the facts then filed,
    -- and settled otherwise
    pub settles : (before later : List (Event S)) (a : Answer S) → life ≡ before ++ Settle got a ∷ later →
        Iff (IsContradiction a) ((course : Course) → FitsThen before course → ⊥) × ((IsContradiction a → ⊥) → a ≡ Settled)
    -- from settled to the next reopen every look inside the house reads one and the same course, which fits, has no void
    -- cell and contains, cell by cell, every other one that fits
    pub looks : (before later : List (Event S)) → life ≡ before ++ Settle got Settled ∷ later →
        (cells : List S) × SettlesThen before cells
        × ((between rest : List (Event S)) (cell : Cell) (a : Answer S) →
        later ≡ between ++ Look cell got a ∷ rest → NoReopen between → inside h.sizes cell.hour cell.component cell.label ≡ true →
        (x : S) × (a ≡ Seen x) × Stands cells (place h.sizes cell.hour cell.component cell.label) x)
    -- until that reopen entails says yes to a fact inside the house exactly when every fitting course without a void
    -- cell satisfies it
    pub entails : (before later : List (Event S)) → life ≡ before ++ Settle got Settled ∷ later →
        (between rest : List (Event S)) (f : Fact S) (a : Answer S) →
        later ≡ between ++ Entails f got a ∷ rest → NoReopen between → fact_inside h.sizes f ≡ true →
        (b : Bool) × (a ≡ Entailed b) × Iff (b ≡ true) ((course : Course) → FitsThen before course → Satisfies has h.sizes course f)

-- with a house, the number of its book's formulas and what these say
module _ {S : Type 0} (n : ℕ) (has : S → Points) (h : House S) (formulas : ℕ) (says : ℕ → ℕ → ℕ → Points) where
  -- every life from open on keeps the promise, whatever its table and its cells first hold, if there are as many cells as
  -- the house asks
  abbrev pub Kept : Type 0
  Kept = (table : List (Fact S)) (cells : List S) (first last : State S) (life : List (Event S)) →
      length cells ≡ cell_count h.sizes → Opened table cells first → Life n has h formulas says first life last →
      Promise n has h says (length table) life
