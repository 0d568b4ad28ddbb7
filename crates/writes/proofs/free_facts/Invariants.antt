use Rattle.std.proofs.Common.{take}
use Rattle.fitting.specs.Course.{course_of}
use Rattle.writes.specs.Written.{Whole, Freed, covered}
use Rattle.writes.proofs.free_facts.Given as goal

abbrev pub invariant-loop-fact : goal.invariant-loop-fact
invariant-loop-fact g l =
    Whole l.sizes l.initial.cells → Freed l.sizes g.S.Scale.size l.hour (covered (take l.fact-index l.facts) l.hour) (course_of l.sizes g.S.Scale.has l.initial.cells) (course_of l.sizes g.S.Scale.has l.cells)
