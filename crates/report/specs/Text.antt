-- The text that a program prints for a record file.
use Rattle.std.specs.Prelude.{◌≡◌, ℕ, min, List, ◌++◌, length, take, Ok, Err, codes, Option, Result}
use Rattle.std.specs.Io.KnownBytes.{Consumes, IsAtEnd, Appends}
use Rattle.points.specs.Points.{Points}
use Rattle.book.specs.Steps.{formulas_of, share_reached, said}
use Rattle.book.specs.Quorums.{quorate}
use Rattle.book.specs.declared.shares.Stair.{Stair}
use Rattle.house.specs.declared.tables.House.{House}
use Rattle.house.specs.declared.tables.Fact.{Fact}
use Rattle.plan.specs.declared.Draft.{Draft}
use Rattle.house.specs.declared.tables.Sizes.{Sizes}
use Rattle.house.specs.Cells.{cell_count}
use Rattle.plan.specs.declared.outcomes.Outcome.{Outcome}
use Rattle.plan.specs.declared.outcomes.Outcome.TheVariants.{Settled, Contradiction, Refused}
use Rattle.plan.specs.Refusals as refusals
use Rattle.plan.specs.Calls.{SettleDoes}
use Rattle.plan.specs.Texts.{refusal_text, clash_text}
use Rattle.listing.specs.Lines.{listing_of}
use Rattle.record_entry.specs.declared.Tables.{Tables}
use Rattle.record.specs.declared.faults.Fault.{Fault}
use Rattle.record.specs.declared.reading.Content.{Content}
use Rattle.record.specs.Faults as faults
use Rattle.record.specs.Reads.{ReadDoes}
use Rattle.workspace.specs.Spaces.{Housed}

-- the line of a refusal: its number and its place
abbrev pub refused_line : ℕ → ℕ → List ℕ
refused_line number place = refusal_text number place ++ codes "\n"

-- the line of a contradiction: the first void cell
abbrev pub clash_line : ℕ → ℕ → ℕ → List ℕ
clash_line hour component label = clash_text hour component label ++ codes "\n"

-- how many cells the programs hold: those of the house, and 8,192 of a larger one, which is then refused
abbrev pub room : Sizes → ℕ
room s = min (cell_count s) 8192

module _ {S : Type 0} (n : ℕ) (has : S → Points) (form : S → List ℕ) where
  -- the text for what settling came to, with the cells that it left
  abbrev pub outcome_text : Sizes → Outcome → List S → List ℕ
  outcome_text s (Settled plan) cells = listing_of n has form s cells
  outcome_text s (Contradiction at draft) cells = clash_line at.cell.hour at.cell.component at.cell.label
  outcome_text s (Refused refusal draft) cells = refused_line (refusals.number_of refusal) (refusals.place_of refusal)

  -- the text for what settling a draft comes to
  abbrev pub Texted : House S → ℕ → (ℕ → ℕ → ℕ → Points) → Draft → List (Fact S) → List S → List ℕ → Type 0
  Texted h formulas says draft table cells text =
      (cells' : List S) × (o : Outcome) × SettleDoes n has h formulas says draft table cells o cells' × (text ≡ outcome_text h.sizes o cells')

  -- the steps that were read, and what their stairs say under the file's quorum
  abbrev pub steps_read : Content → Tables S → List (Stair S)
  steps_read x t = take t.steps.count t.steps.table.now

  abbrev pub stairs_say : List (Stair S) → ℕ → ℕ → ℕ → ℕ → Points
  stairs_say steps quorum = quorate n quorum (said (λ t. t.formula) (λ t. share_reached t.share) (λ t. has t.bound) n steps)

  -- the text of a file that is read: what its draft comes to, in the house and with the stairs that it describes
  abbrev pub Concluded : Content → Tables S → List ℕ → Type 0
  Concluded x t text =
      (h : House S) × Housed x.sizes t h
      × ((cells : List S) × (length cells ≡ room x.sizes)
      × Texted h (formulas_of (λ s. s.formula) (steps_read x t)) (stairs_say (steps_read x t) x.quorum) x.draft t.facts.now cells text)

  -- the text of a file, with the tables that it was read into: of a refused one its line
  abbrev pub Printed : Result Content Fault → Tables S → List ℕ → Type 0
  Printed (Err fault) t text = text ≡ refused_line (faults.number_of fault) (faults.place_of fault)
  Printed (Ok x) t text = Concluded x t text

  -- the text of a file that is read into these tables
  abbrev pub Told : List ℕ → Tables S → List ℕ → Type 0
  Told bytes t text = (r : Result Content Fault) × (t' : Tables S) × ReadDoes n has form bytes t r t' × Printed r t' text

-- what the programs have space for: 600 edges, all fixed bounds of the largest house, 64 tests, conditions, constraints and
-- rules, 256 steps and 1,000 facts
pub record Rooms {S : Type 0} (t : Tables S) : Type 0 where
  pub edges : length t.edges.table.now ≡ 600
  pub fixed : length t.fixed.table.now ≡ 12800
  pub tests : length t.tests.table.now ≡ 64
  pub conditions : length t.conditions.table.now ≡ 64
  pub constraints : length t.constraints.table.now ≡ 64
  pub rules : length t.rules.table.now ≡ 64
  pub steps : length t.steps.table.now ≡ 256
  pub facts : length t.facts.now ≡ 1000

-- the text that a program prints for a file
abbrev pub Reported : {S : Type 0} → ℕ → (S → Points) → (S → List ℕ) → List ℕ → List ℕ → Type 0
Reported {S} n has form bytes text = (t : Tables S) × Rooms t × Told n has form bytes t text

-- a file was read to its end, and its text was written: what is known of the bytes that are left to read, and of those that
-- are written, before and afterwards
abbrev pub Ran : {S : Type 0} → ℕ → (S → Points) → (S → List ℕ) → Option (List ℕ) → Option (List ℕ) → Option (List ℕ) → Option (List ℕ) → Type 0
Ran n has form given left old new =
    (bytes : List ℕ) × Consumes given left bytes × IsAtEnd left × ((text : List ℕ) × Reported n has form bytes text × Appends old new text)
