use Rattle.std.proofs.Common.{◌≡◌, List, length}
use Rattle.record_line.specs.declared.Record.{Record}
use Rattle.record_entry.specs.Entries.{Lent}
use Rattle.record_entry.specs.Parts.{fact_in}
use Rattle.record.specs.Contents.{pick}
use Rattle.record.specs.Takes.{Taken}
use Rattle.record.proofs.takes.take_all.Given as goal

-- the records before this one have been taken
abbrev pub invariant-loop-i : goal.invariant-loop-i
invariant-loop-i g l =
    (rs : List (Record g.row.S.Denot))
    × (length rs ≡ l.i-counter)
    × Taken g.S.Scale.size g.S.Scale.has g.S.Recorded.form l.lines l.sizes l.initial.tables rs l.tables
    × (l.draft.count ≡ length (pick fact_in rs))
    × Lent l.initial.tables l.tables
