-- What each call on a plan answers, and what it leaves in the plan and in what it was lent.
use Rattle.std.specs.Prelude.{◌≡◌, ℕ, ◌+◌, ◌-◌, ◌<◌, Bool, true, List, ◌++◌, length, take, drop, Ok, Err, Result, slice_index_or, slice_set}
use Rattle.points.specs.Points.{Points, Iff}
use Rattle.std.specs.List.{remove}
use Rattle.house.specs.declared.tables.Sizes.{Sizes}
use Rattle.house.specs.declared.tables.Cell.{Cell}
use Rattle.house.specs.declared.tables.Fact.{Fact}
use Rattle.house.specs.declared.tables.House.{House}
use Rattle.house.specs.Cells.{place}
use Rattle.examining.specs.Examine.{AllClear}
use Rattle.fitting.specs.Course.{course_of}
use Rattle.engine.specs.Voids.{AllLoose}
use Rattle.plan.specs.declared.Draft.{Draft}
use Rattle.plan.specs.declared.Settled.{Settled}
use Rattle.plan.specs.declared.refusals.Refusal.{Refusal}
use Rattle.plan.specs.declared.outcomes.Outcome.{Outcome}
use Rattle.plan.specs.declared.outcomes.Outcome.TheVariants.{Settled as Came, Contradiction as Failed, Refused as Denied}
use Rattle.plan.specs.Orders.{RefusedBy, file_checks, strike_checks, look_checks, entails_checks, settle_checks}
use Rattle.plan.specs.Courses.{Satisfies, Settles, Contradicts}

-- x stands at place k of a list
abbrev pub Stands : {A : Type 0} → List A → ℕ → A → Type 0
Stands xs k x = (k < length xs) × (x ≡ slice_index_or xs k x)

-- open: a draft without facts
abbrev pub OpenDoes : Draft → Type 0
OpenDoes draft = draft.count ≡ 0

-- reopen: a draft with the facts of the settled plan
abbrev pub ReopenDoes : Settled → Draft → Type 0
ReopenDoes settled draft = draft.count ≡ settled.count

module _ {S : Type 0} where
  -- file: the fact stands behind the filed ones, and all else is as it was; a refusal leaves all
  abbrev pub FileDoes : Sizes → Fact S → Draft → List (Fact S) → Result (Unit {0}) Refusal → Draft → List (Fact S) → Type 0
  FileDoes s f draft table (Ok _) draft' table' =
      AllClear (file_checks s f draft.count (length table)) × (draft'.count ≡ draft.count + 1) × (table' ≡ slice_set table draft.count f)
  FileDoes s f draft table (Err r) draft' table' =
      RefusedBy (file_checks s f draft.count (length table)) r × (draft' ≡ draft) × (table' ≡ table)

  -- strike: the fact is taken out of the filed ones, so that the later ones move down; the table goes on as it was from
  -- the place of the last one, which is filed no more; a refusal leaves all
  abbrev pub StrikeDoes : ℕ → Draft → List (Fact S) → Result (Unit {0}) Refusal → Draft → List (Fact S) → Type 0
  StrikeDoes at draft table (Ok _) draft' table' =
      AllClear (strike_checks at draft.count (length table))
      × (draft'.count ≡ draft.count - 1)
      × (table' ≡ remove (take draft.count table) at ++ drop (draft.count - 1) table)
  StrikeDoes at draft table (Err r) draft' table' =
      RefusedBy (strike_checks at draft.count (length table)) r × (draft' ≡ draft) × (table' ≡ table)

  -- look: the bound that stands in the cell
  abbrev pub LookDoes : Sizes → Cell → List S → Result S Refusal → Type 0
  LookDoes s cell cells (Ok x) =
      AllClear (look_checks s cell (length cells)) × Stands cells (place s cell.hour cell.component cell.label) x
  LookDoes s cell cells (Err r) = RefusedBy (look_checks s cell (length cells)) r

  -- entails: yes exactly when the course in the cells satisfies the fact
  abbrev pub EntailsDoes : (S → Points) → Sizes → Fact S → List S → Result Bool Refusal → Type 0
  EntailsDoes has s f cells (Ok b) = AllClear (entails_checks s f (length cells)) × Iff (b ≡ true) (Satisfies has s (course_of s has cells) f)
  EntailsDoes has s f cells (Err r) = RefusedBy (entails_checks s f (length cells)) r

-- on a scale of n points, with a house, the number of its book's formulas and what these say at x of y
module _ {S : Type 0} (n : ℕ) (has : S → Points) (h : House S) (formulas : ℕ) (says : ℕ → ℕ → ℕ → Points) where
  -- settle: the cells hold the loosest course that fits, which has no void cell; or no such course fits, the first cell
  -- that is void in all that do is named, and every cell is loose; or a refusal leaves all. The plan keeps its facts
  abbrev pub SettleDoes : Draft → List (Fact S) → List S → Outcome → List S → Type 0
  SettleDoes draft table cells (Came settled) cells' =
      AllClear (settle_checks n has h formulas draft.count table (length cells))
      × (settled.count ≡ draft.count)
      × Settles n has h says (take draft.count table) cells'
  SettleDoes draft table cells (Failed at draft') cells' =
      AllClear (settle_checks n has h formulas draft.count table (length cells))
      × (draft' ≡ draft)
      × Contradicts n has h says (take draft.count table) at.cell.hour at.cell.component at.cell.label
      × (at.place ≡ place h.sizes at.cell.hour at.cell.component at.cell.label)
      × (length cells' ≡ length cells)
      × AllLoose n has cells'
  SettleDoes draft table cells (Denied r draft') cells' =
      RefusedBy (settle_checks n has h formulas draft.count table (length cells)) r × (draft' ≡ draft) × (cells' ≡ cells)
