-- What a program has room for, and the house that its tables describe.
use Rattle.std.specs.Prelude.{◌≡◌, ℕ, ◌<◌, ◌≤◌, take, vec_len, Some, None, Option}
use Rattle.house.specs.declared.tables.House.{House}
use Rattle.house.specs.declared.tables.Sizes.{Sizes}
use Rattle.record_entry.specs.declared.Tables.{Tables}
use Rattle.record_entry.specs.Entries.{counts_of}
use Rattle.workspace.specs.declared.Workspace.{Workspace}
use Rattle.workspace.specs.declared.Described.{Described}

-- room for 600 edges, all fixed bounds of the largest house, 64 tests, conditions, constraints and rules, 256 steps and
-- 1,000 facts
pub record Roomy {S : Type 0} (w : Workspace S) : Type 0 where
  pub edges : vec_len w.edges ≡ 600
  pub fixed : vec_len w.fixed ≡ 12800
  pub tests : vec_len w.tests ≡ 64
  pub conditions : vec_len w.conditions ≡ 64
  pub constraints : vec_len w.constraints ≡ 64
  pub rules : vec_len w.rules ≡ 64
  pub steps : vec_len w.steps ≡ 256
  pub facts : vec_len w.facts ≡ 1000

-- tables that hold what a workspace holds, without records
pub record Lent {S : Type 0} (w : Workspace S) (t : Tables S) : Type 0 where
  pub edges : t.edges.table.now ≡ w.edges.items
  pub fixed : t.fixed.table.now ≡ w.fixed.items
  pub tests : t.tests.table.now ≡ w.tests.items
  pub conditions : t.conditions.table.now ≡ w.conditions.items
  pub constraints : t.constraints.table.now ≡ w.constraints.items
  pub rules : t.rules.table.now ≡ w.rules.items
  pub steps : t.steps.table.now ≡ w.steps.items
  pub facts : t.facts.now ≡ w.facts.items
  pub empty : counts_of t ≡ record { edges = 0; fixed = 0; tests = 0; conditions = 0; constraints = 0; rules = 0; steps = 0 }

-- the house that a file describes: its sizes, and of each table the records that were read
pub record Housed {S : Type 0} (s : Sizes) (t : Tables S) (h : House S) : Type 0 where
  pub sizes : h.sizes ≡ s
  pub edges : h.edges.now ≡ take t.edges.count t.edges.table.now
  pub fixed : h.fixed.now ≡ take t.fixed.count t.fixed.table.now
  pub tests : h.tests.now ≡ take t.tests.count t.tests.table.now
  pub conditions : h.conditions.now ≡ take t.conditions.count t.conditions.table.now
  pub constraints : h.constraints.now ≡ take t.constraints.count t.constraints.table.now
  pub rules : h.rules.now ≡ take t.rules.count t.rules.table.now

-- a house that a file describes, with the book of the stairs that were read, under a quorum
pub record Describes {S : Type 0} (s : Sizes) (least : ℕ) (t : Tables S) (d : Described S) : Type 0 where
  pub house : Housed s t d.house
  pub steps : d.book.book.steps.now ≡ take t.steps.count t.steps.table.now
  pub quorum : d.book.least ≡ least

-- a file describes them where its quorum is at most 200
abbrev pub DescribedBy : {S : Type 0} → Sizes → ℕ → Tables S → Option (Described S) → Type 0
DescribedBy s quorum t None = 200 < quorum
DescribedBy s quorum t (Some d) = Describes s quorum t d × (quorum ≤ 200)
