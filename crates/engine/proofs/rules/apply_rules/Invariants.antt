use Rattle.std.proofs.Common.{take}
use Rattle.fitting.specs.Course.{course_of}
use Rattle.writes.specs.Written.{Narrowed, at_hour}
use Rattle.engine.specs.Ready.{Ready}
use Rattle.engine.specs.Pressed.{rules_grant}
use Rattle.engine.proofs.rules.apply_rules.Given as goal

abbrev pub invariant-loop-rule : goal.invariant-loop-rule
invariant-loop-rule g l =
    let h = l.judged.house.now in
    Ready g.S.Scale.size g.S.Scale.has h (g.B.Book.formulas l.book) →
    Narrowed (course_of h.sizes g.S.Scale.has l.initial.cells)
    (at_hour l.hour (rules_grant g.S.Scale.size g.S.Scale.has h (g.B.Book.says l.book) (course_of h.sizes g.S.Scale.has l.initial.cells) (take l.rule-index h.rules.now)))
    (course_of h.sizes g.S.Scale.has l.cells)
