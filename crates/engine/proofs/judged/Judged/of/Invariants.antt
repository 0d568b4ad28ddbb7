use Rattle.std.proofs.Common.{◌≡◌, length}
use Rattle.engine.proofs.Judging.{JudgedBelow}
use Rattle.engine.proofs.judged.Judged.of.Given as goal

abbrev pub invariant-loop-component : goal.invariant-loop-component
invariant-loop-component g l = record { long : length l.room ≡ 800; below : JudgedBelow g.S.Scale.size g.S.Scale.has l.house l.component l.room }
