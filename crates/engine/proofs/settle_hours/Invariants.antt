use Rattle.fitting.specs.Course.{course_of}
use Rattle.writes.specs.Written.{Whole}
use Rattle.engine.specs.Ready.{Ready}
use Rattle.engine.specs.Hours.{SettledBefore}
use Rattle.engine.proofs.settle_hours.Given as goal

abbrev pub invariant-loop-hour : goal.invariant-loop-hour
invariant-loop-hour g l =
    let h = l.fn.house in
    Ready g.S.Scale.size g.S.Scale.has h (g.B.Book.formulas l.book) → Whole h.sizes l.initial.course →
    SettledBefore g.S.Scale.size g.S.Scale.has h (g.B.Book.says l.book) l.facts l.hour (course_of h.sizes g.S.Scale.has l.course)
