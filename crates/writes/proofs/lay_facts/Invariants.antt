use Rattle.std.proofs.Common.{take}
use Rattle.fitting.specs.Course.{course_of}
use Rattle.writes.specs.Written.{Narrowed, at_hour, facts_grant}
use Rattle.writes.proofs.lay_facts.Given as goal

abbrev pub invariant-loop-i : goal.invariant-loop-i
invariant-loop-i g l =
    Narrowed (course_of l.sizes g.S.Scale.has l.initial.cells) (at_hour l.hour (facts_grant g.S.Scale.has (take l.i l.facts))) (course_of l.sizes g.S.Scale.has l.cells)
