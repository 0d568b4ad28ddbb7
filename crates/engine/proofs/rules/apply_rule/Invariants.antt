use Rattle.std.proofs.Common.{◌<◌, ◌≤◌, ltb}
use Rattle.fitting.specs.Course.{course_of}
use Rattle.writes.specs.Written.{Narrowed}
use Rattle.engine.specs.Ready.{Judgeable}
use Rattle.engine.specs.Pressed.{on_those}
use Rattle.engine.proofs.Pressing.{granted_by}
use Rattle.engine.proofs.rules.apply_rule.Given as goal

abbrev pub invariant-loop-component : goal.invariant-loop-component
invariant-loop-component g l =
    let h = l.judged.house.now in
    Judgeable g.S.Scale.size g.S.Scale.has h → 1 ≤ l.rule.delay → l.rule.formula < g.B.Book.formulas l.book →
    Narrowed (course_of h.sizes g.S.Scale.has l.initial.cells)
    (on_those l.hour (λ c. ltb c l.component) (granted_by g.S.Scale.size g.S.Scale.has h (g.B.Book.says l.book) l.rule (course_of h.sizes g.S.Scale.has l.initial.cells)))
    (course_of h.sizes g.S.Scale.has l.cells)
