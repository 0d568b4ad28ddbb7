-- What entering a record does.
use Rattle.std.specs.Prelude.{◌≡◌, ℕ, ◌+◌, ◌<◌, List, length, Some, None, Ok, Err, Option, Result, slice_index_or, slice_set}
use Rattle.points.specs.Points.{Points, Loose}
use Rattle.house.specs.declared.tables.Sizes.{Sizes}
use Rattle.house.specs.declared.tables.Fact.{Fact}
use Rattle.house.specs.Cells.{components}
use Rattle.examining.specs.Examine.{AllClear}
use Rattle.plan.specs.declared.Draft.{Draft}
use Rattle.plan.specs.Orders.{RefusedBy, file_checks}
use Rattle.record_line.specs.declared.Record.{Record}
use Rattle.record_line.specs.declared.Record.TheVariants.{Sizes as S, Edge as E, Fixed as X, Test as T, Condition as C, Constraint as K, Rule as R, Step as Q, Fact as F}
use Rattle.record_entry.specs.declared.Tables.{Tables}
use Rattle.record_entry.specs.declared.EntryFault.{EntryFault}
use Rattle.record_entry.specs.declared.EntryFault.TheVariants.{House, Plan}
use Rattle.record_entry.specs.Parts.{edge_in, test_in, condition_in, constraint_in, rule_in, step_in, fact_in, mark_in, Mark, fixed_place}

-- a table of n records takes one more behind them, where it has space, or none
abbrev pub Grown : {A : Type 0} → Option A → List A → ℕ → List A → ℕ → Type 0
Grown None t n t' n' = (t' ≡ t) × (n' ≡ n)
Grown (Some x) t n t' n' = (n < length t) × (t' ≡ slice_set t n x) × (n' ≡ n + 1)

-- a bound goes to its place, or none
abbrev pub Marked : {B : Type 0} → Option (Mark B) → List B → List B → Type 0
Marked None t t' = t' ≡ t
Marked (Some m) t t' = t' ≡ slice_set t m.place m.bound

-- a place of the fixed bounds can take a bound: it is in the house, among so many, and loose
abbrev pub Open : Sizes → ℕ → ℕ → ℕ → (ℕ → Type 0) → Type 0
Open s component label long loose =
    (component < components s) × (label < s.fixed) × (fixed_place s component label < long) × loose (fixed_place s component label)

-- the bound that stands at a place is loose, on a scale of n points
abbrev pub LooseAt : {B : Type 0} → ℕ → (B → Points) → List B → ℕ → Type 0
LooseAt {B} n has fixed p = (x : B) → x ≡ slice_index_or fixed p x → Loose n (has x)

module _ {B : Type 0} (n : ℕ) (has : B → Points) where
  -- the place of a fixed bound, where that can take one
  abbrev pub OpenPlace : Sizes → ℕ → ℕ → List B → Option ℕ → Type 0
  OpenPlace s c l t (Some p) = (p ≡ fixed_place s c l) × Open s c l (length t) (LooseAt n has t)
  OpenPlace s c l t None = Open s c l (length t) (LooseAt n has t) → ⊥

  -- a bound stands at its place, where that can take one; else the table stays as it is
  abbrev pub LayDoes : Sizes → ℕ → ℕ → B → List B → Result (Unit {0}) EntryFault → List B → Type 0
  LayDoes s c l b t (Ok _) t' = Open s c l (length t) (LooseAt n has t) × (t' ≡ slice_set t (fixed_place s c l) b)
  LayDoes s c l b t (Err House) t' = (Open s c l (length t) (LooseAt n has t) → ⊥) × (t' ≡ t)
  LayDoes s c l b t (Err (Plan _)) t' = ⊥

-- how long each table is
pub record Rooms : Type 0 where
  pub edges : ℕ
  pub fixed : ℕ
  pub tests : ℕ
  pub conditions : ℕ
  pub constraints : ℕ
  pub rules : ℕ
  pub steps : ℕ
  pub facts : ℕ

-- how many records each table has; the plan counts the facts
pub record Counts : Type 0 where
  pub edges : ℕ
  pub fixed : ℕ
  pub tests : ℕ
  pub conditions : ℕ
  pub constraints : ℕ
  pub rules : ℕ
  pub steps : ℕ

module _ {B : Type 0} where
  abbrev pub rooms_of : Tables B → Rooms
  rooms_of t = record {
    edges = length t.edges.table.now;
    fixed = length t.fixed.table.now;
    tests = length t.tests.table.now;
    conditions = length t.conditions.table.now;
    constraints = length t.constraints.table.now;
    rules = length t.rules.table.now;
    steps = length t.steps.table.now;
    facts = length t.facts.now;
  }

  abbrev pub counts_of : Tables B → Counts
  counts_of t = record {
    edges = t.edges.count;
    fixed = t.fixed.count;
    tests = t.tests.count;
    conditions = t.conditions.count;
    constraints = t.constraints.count;
    rules = t.rules.count;
    steps = t.steps.count;
  }

  -- the same tables are lent
  abbrev pub Lent : Tables B → Tables B → Type 0
  Lent t t' =
      (t'.edges.table.ghost_name ≡ t.edges.table.ghost_name)
      × (t'.fixed.table.ghost_name ≡ t.fixed.table.ghost_name)
      × (t'.tests.table.ghost_name ≡ t.tests.table.ghost_name)
      × (t'.conditions.table.ghost_name ≡ t.conditions.table.ghost_name)
      × (t'.constraints.table.ghost_name ≡ t.constraints.table.ghost_name)
      × (t'.rules.table.ghost_name ≡ t.rules.table.ghost_name)
      × (t'.steps.table.ghost_name ≡ t.steps.table.ghost_name)
      × (t'.facts.ghost_name ≡ t.facts.ghost_name)

  -- every table holds what it held, and has as many records
  pub record Kept (t t' : Tables B) : Type 0 where
    pub edges : t'.edges.table.now ≡ t.edges.table.now
    pub fixed : t'.fixed.table.now ≡ t.fixed.table.now
    pub tests : t'.tests.table.now ≡ t.tests.table.now
    pub conditions : t'.conditions.table.now ≡ t.conditions.table.now
    pub constraints : t'.constraints.table.now ≡ t.constraints.table.now
    pub rules : t'.rules.table.now ≡ t.rules.table.now
    pub steps : t'.steps.table.now ≡ t.steps.table.now
    pub facts : t'.facts.now ≡ t.facts.now
    pub counts : counts_of t' ≡ counts_of t

  -- a record can be entered: its table has space behind the records that it counts, a fixed bound has a place that is
  -- loose, and the plan files a fact behind so many
  abbrev pub Fits : Sizes → Counts → ℕ → Rooms → (ℕ → Type 0) → Record B → Type 0
  Fits s c filed room loose (S _ _ _ _ _) = Unit {0}
  Fits s c filed room loose (E _) = c.edges < room.edges
  Fits s c filed room loose (X component label _) = Open s component label room.fixed loose
  Fits s c filed room loose (T _) = c.tests < room.tests
  Fits s c filed room loose (C _) = c.conditions < room.conditions
  Fits s c filed room loose (K _) = c.constraints < room.constraints
  Fits s c filed room loose (R _) = c.rules < room.rules
  Fits s c filed room loose (Q _) = c.steps < room.steps
  Fits s c filed room loose (F f) = AllClear (file_checks s f filed room.facts)

  -- a record cannot be entered: a fact for what the plan refuses, and any other for the house
  abbrev pub Unfit : Sizes → Counts → ℕ → Rooms → (ℕ → Type 0) → Record B → EntryFault → Type 0
  Unfit s c filed room loose r House = (fact_in r ≡ None) × (Fits s c filed room loose r → ⊥)
  Unfit s c filed room loose r (Plan refusal) = (f : Fact B) × (fact_in r ≡ Some f) × RefusedBy (file_checks s f filed room.facts) refusal

  -- each table takes its part of the record, and only that
  pub record Entered (s : Sizes) (r : Record B) (t : Tables B) (filed : ℕ) (t' : Tables B) (filed' : ℕ) : Type 0 where
    pub edges : Grown (edge_in r) t.edges.table.now t.edges.count t'.edges.table.now t'.edges.count
    pub fixed : Marked (mark_in s r) t.fixed.table.now t'.fixed.table.now
    pub count_of_fixed : t'.fixed.count ≡ t.fixed.count
    pub tests : Grown (test_in r) t.tests.table.now t.tests.count t'.tests.table.now t'.tests.count
    pub conditions : Grown (condition_in r) t.conditions.table.now t.conditions.count t'.conditions.table.now t'.conditions.count
    pub constraints : Grown (constraint_in r) t.constraints.table.now t.constraints.count t'.constraints.table.now t'.constraints.count
    pub rules : Grown (rule_in r) t.rules.table.now t.rules.count t'.rules.table.now t'.rules.count
    pub steps : Grown (step_in r) t.steps.table.now t.steps.count t'.steps.table.now t'.steps.count
    pub facts : Grown (fact_in r) t.facts.now filed t'.facts.now filed'

module _ {B : Type 0} (n : ℕ) (has : B → Points) where
  -- a record is entered exactly when it can be, and where not everything stays
  abbrev pub EnterDoes : Sizes → Record B → Tables B → Draft → Result (Unit {0}) EntryFault → Tables B → Draft → Type 0
  EnterDoes s r t d (Ok _) t' d' =
      Fits s (counts_of t) d.count (rooms_of t) (LooseAt n has t.fixed.table.now) r × Entered s r t d.count t' d'.count
  EnterDoes s r t d (Err fault) t' d' =
      Unfit s (counts_of t) d.count (rooms_of t) (LooseAt n has t.fixed.table.now) r fault × Kept t t' × (d' ≡ d)
