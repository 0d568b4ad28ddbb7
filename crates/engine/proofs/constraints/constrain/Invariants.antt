use Rattle.std.proofs.Common.{◌-◌, length}
use Rattle.fitting.specs.Course.{course_of}
use Rattle.engine.specs.Constrained.{Elsewhere, Constrained, spent_count}
use Rattle.engine.proofs.constraints.constrain.Given as goal

abbrev pub invariant-loop-spot : goal.invariant-loop-spot
invariant-loop-spot g l =
    Constrained g.S.Scale.size g.S.Scale.has l.house l.spot.hour (course_of l.house.sizes g.S.Scale.has l.initial.cells) (course_of l.house.sizes g.S.Scale.has l.cells)
    × Elsewhere l.spot.hour l.spot.component (course_of l.house.sizes g.S.Scale.has l.initial.cells) (course_of l.house.sizes g.S.Scale.has l.cells)

-- the constraints that are not spent
abbrev pub decreases-loop-spot : goal.decreases-loop-spot
decreases-loop-spot g l = length l.house.constraints.now - spent_count g.S.Scale.size g.S.Scale.has l.house (course_of l.house.sizes g.S.Scale.has l.cells) l.spot.hour l.spot.component
