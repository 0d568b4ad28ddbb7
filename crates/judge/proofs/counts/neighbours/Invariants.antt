use Rattle.fitting.specs.Course.{course_of}
use Rattle.judge.proofs.Feeding.{Tallied}
use Rattle.judge.proofs.counts.neighbours.Given as goal

abbrev pub invariant-loop-e : goal.invariant-loop-e
invariant-loop-e g l =
    Tallied g.S.Scale.size g.S.Scale.has l.house (course_of l.house.sizes g.S.Scale.has l.cells) l.verdicts l.rule l.node.hour l.node.component l.e l.count
