use Rattle.std.proofs.Common.{◌≡◌, take, string_bytes}
use Rattle.listing.specs.Lines.{lines_from}
use Rattle.listing.proofs.listing.Given as goal

abbrev pub invariant-loop-at : goal.invariant-loop-at
invariant-loop-at g l = string_bytes l.out ≡ lines_from g.S.Scale.size g.S.Scale.has g.S.Recorded.form l.sizes 0 (take l.at l.course)
