-- How the text of a file is put together. Assumes nothing.
use Rattle.std.proofs.Common.{◌≡◌, ℕ, List, length}
use Rattle.points.specs.Points.{Points}
use Rattle.book.specs.declared.shares.Stair.{Stair}
use Rattle.book.specs.Steps.{formulas_of}
use Rattle.house.specs.declared.tables.House.{House}
use Rattle.record_entry.specs.declared.Tables.{Tables}
use Rattle.record.specs.declared.reading.Content.{Content}
use Rattle.workspace.specs.Spaces.{Housed}
use Rattle.report.specs.Text.{Texted, Concluded, steps_read, stairs_say, room}

-- the text that a draft comes to, with a book that says what the file's stairs say
pub concluded : {S : Type 0} (n : ℕ) (has : S → Points) (form : S → List ℕ) (x : Content) (t : Tables S) (h : House S) (cells : List S) (text : List ℕ) (steps : List (Stair S)) (quorum : ℕ) →
    Housed x.sizes t h → length cells ≡ room x.sizes → steps ≡ steps_read n has form x t → quorum ≡ x.quorum →
    Texted n has form h (formulas_of (λ s. s.formula) steps) (stairs_say n has form steps quorum) x.draft t.facts.now cells text →
    Concluded n has form x t text
concluded n has form x t h cells text steps quorum housed long same least texted =
    (h, housed, (cells, long, rw (same, least) at texted))
