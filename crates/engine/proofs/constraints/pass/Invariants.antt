use Rattle.fitting.specs.Course.{course_of}
use Rattle.engine.proofs.Constraining.{Passed}
use Rattle.engine.proofs.constraints.pass.Given as goal

abbrev pub invariant-loop-constraint : goal.invariant-loop-constraint
invariant-loop-constraint g l =
    Passed g.S.Scale.size g.S.Scale.has l.house l.spot.hour l.spot.component (course_of l.house.sizes g.S.Scale.has l.initial.cells) l.constraint-index l.fired (course_of l.house.sizes g.S.Scale.has l.cells)
