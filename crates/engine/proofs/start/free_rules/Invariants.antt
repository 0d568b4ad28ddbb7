use Rattle.std.proofs.Common.{take}
use Rattle.fitting.specs.Course.{course_of}
use Rattle.writes.specs.Written.{Whole, Freed}
use Rattle.engine.specs.Ready.{Judgeable}
use Rattle.engine.specs.Started.{ruled}
use Rattle.engine.proofs.start.free_rules.Given as goal

abbrev pub invariant-loop-rule : goal.invariant-loop-rule
invariant-loop-rule g l =
    let h = l.judged.house.now in
    Judgeable g.S.Scale.size g.S.Scale.has h → Whole h.sizes l.initial.cells →
    Freed h.sizes g.S.Scale.size l.hour (ruled g.S.Scale.size g.S.Scale.has h (take l.rule-index h.rules.now) l.hour) (course_of h.sizes g.S.Scale.has l.initial.cells) (course_of h.sizes g.S.Scale.has l.cells)
