use Rattle.std.proofs.Common.{sym}
use Rattle.book.specs.Answering.{below_quorum, at_quorum}
use Rattle.book.proofs.quorums.QuorumBook.answer.Goals as goal

pub returns-then-misses : goal.returns-then-misses
returns-then-misses g c = below_quorum _ _ _ _ _ _ _ _ (sym c.if-misses.ensures) c.loose.ensures

pub returns-else-misses : goal.returns-else-misses
returns-else-misses g c = at_quorum _ _ _ _ _ _ _ _ (sym c.if-misses.ensures) c.answer.ensures
