use Rattle.std.proofs.Common.{take, vec_items}
use Rattle.life.proofs.Played.{SoFar}
use Rattle.life.proofs.replays.replay.Given as goal

-- The calls so far, with the answers so far, are a replay that leads from open to the present state.
abbrev pub invariant-loop-call : goal.invariant-loop-call
invariant-loop-call g l =
    SoFar g.S.Scale.size g.S.Scale.has l.house (g.B.Book.formulas l.book) (g.B.Book.says l.book)
    (take l.call-index l.calls) (vec_items l.answers) l.initial.facts l.initial.course l.plan l.facts l.course
