-- What tables hold after records have been entered: the parts that the records give to each, in their order.
use Rattle.std.specs.Prelude.{◌≡◌, ℕ, ◌*◌, ◌<◌, ◌≤◌, min, cond, List, [], ◌∷◌, ◌++◌, length, drop, Some, None, Option, ◌==◌, slice_index_or}
use Rattle.house.specs.declared.tables.Sizes.{Sizes}
use Rattle.house.specs.Cells.{components}
use Rattle.record_line.specs.declared.Record.{Record}
use Rattle.record_entry.specs.declared.Tables.{Tables}
use Rattle.record_entry.specs.Entries.{Rooms, Counts}
use Rattle.record_entry.specs.Parts.{Mark, edge_in, test_in, condition_in, constraint_in, rule_in, step_in, fact_in}

-- one part more, or none
abbrev pub add : {A : Type 0} → Option A → List A → List A
add None xs = xs
add (Some x) xs = x ∷ xs

-- the parts of one kind that records give, in their order
abbrev pub pick : {A B : Type 0} → (Record B → Option A) → List (Record B) → List A
pick f [] = []
pick f (r ∷ rs) = add (f r) (pick f rs)

-- a table has these records, for which it has space, and behind them what stood there before
abbrev pub Filled : {A : Type 0} → List A → List A → List A → Type 0
Filled xs t t' = (length xs ≤ length t) × (t' ≡ xs ++ drop (length xs) t)

-- how many places the fixed bounds have: one for each fixed label of each component, or as many as the table has
abbrev pub fixed_places_lem : Sizes → ℕ → ℕ
fixed_places_lem s long = min (components s * s.fixed) long

-- the last bound that marks give to a place, or else o
abbrev pub bound_at : {B : Type 0} → Option B → List (Mark B) → ℕ → Option B
bound_at o [] p = o
bound_at o (m ∷ ms) p = bound_at (cond (m.place == p) (Some m.bound) o) ms p

-- what a bound is: the one that is marked, or the one that was there
abbrev pub Stays : {B : Type 0} → Option B → B → B → Type 0
Stays (Some b) was x = x ≡ b
Stays None was x = x ≡ was

-- of the first `places` bounds each is the last one that is marked there or what it was, and the others stay
pub record Laid {B : Type 0} (ms : List (Mark B)) (places : ℕ) (t t' : List B) : Type 0 where
  pub long : length t' ≡ length t
  pub here : (p : ℕ) → p < places → (d : B) → Stays (bound_at None ms p) (slice_index_or t p d) (slice_index_or t' p d)
  pub behind : (p : ℕ) → places ≤ p → (d : B) → slice_index_or t' p d ≡ slice_index_or t p d

module _ {B : Type 0} where
  -- how many records each table has
  abbrev pub counts_after : Sizes → Rooms → List (Record B) → Counts
  counts_after s room rs = record {
    edges = length (pick edge_in rs);
    fixed = fixed_places_lem s room.fixed;
    tests = length (pick test_in rs);
    conditions = length (pick condition_in rs);
    constraints = length (pick constraint_in rs);
    rules = length (pick rule_in rs);
    steps = length (pick step_in rs);
  }

  -- each table has its records, in their order, and behind them what stood there before
  pub record Held (rs : List (Record B)) (t t' : Tables B) : Type 0 where
    pub edges : Filled (pick edge_in rs) t.edges.table.now t'.edges.table.now
    pub tests : Filled (pick test_in rs) t.tests.table.now t'.tests.table.now
    pub conditions : Filled (pick condition_in rs) t.conditions.table.now t'.conditions.table.now
    pub constraints : Filled (pick constraint_in rs) t.constraints.table.now t'.constraints.table.now
    pub rules : Filled (pick rule_in rs) t.rules.table.now t'.rules.table.now
    pub steps : Filled (pick step_in rs) t.steps.table.now t'.steps.table.now
    pub facts : Filled (pick fact_in rs) t.facts.now t'.facts.now
