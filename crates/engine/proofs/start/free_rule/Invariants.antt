use Rattle.fitting.specs.Course.{course_of}
use Rattle.writes.specs.Written.{Whole, Freed}
use Rattle.engine.specs.Ready.{Judgeable}
use Rattle.engine.proofs.Starting.{touches_below}
use Rattle.engine.proofs.start.free_rule.Given as goal

abbrev pub invariant-loop-component : goal.invariant-loop-component
invariant-loop-component g l =
    let h = l.judged.house.now in
    Judgeable g.S.Scale.size g.S.Scale.has h → Whole h.sizes l.initial.cells →
    Freed h.sizes g.S.Scale.size l.hour (touches_below g.S.Scale.size g.S.Scale.has h l.rule l.hour l.component) (course_of h.sizes g.S.Scale.has l.initial.cells) (course_of h.sizes g.S.Scale.has l.cells)
