use Rattle.std.proofs.Common.{ℕ, ◌<◌}
use Rattle.fitting.specs.Course.{course_of}
use Rattle.engine.specs.Constrained.{Constrained, Resting}
use Rattle.engine.proofs.constraints.constrain_hour.Given as goal

abbrev pub invariant-loop-component : goal.invariant-loop-component
invariant-loop-component g l =
    Constrained g.S.Scale.size g.S.Scale.has l.house l.hour (course_of l.house.sizes g.S.Scale.has l.initial.cells) (course_of l.house.sizes g.S.Scale.has l.cells)
    × ((c : ℕ) → c < l.component → Resting g.S.Scale.size g.S.Scale.has l.house l.hour c (course_of l.house.sizes g.S.Scale.has l.cells))
