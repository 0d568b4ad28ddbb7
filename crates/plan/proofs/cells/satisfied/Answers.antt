use Rattle.std.proofs.Common.{ℕ, rules, arith}
use Rattle.fitting.specs.Course.{course_of}
use Rattle.plan.specs.Courses.{SatisfiesAt}
use Rattle.plan.proofs.Hours.{all_of_range}
use Rattle.plan.proofs.Seen.{hours_decide}
use Rattle.plan.proofs.cells.satisfied.Goals as goal

pub returns : goal.returns
returns g c =
    let A : ℕ → Type 0 = SatisfiesAt g.S.Scale.has c.args.sizes (course_of c.args.sizes g.S.Scale.has c.args.course.now) c.args.fact.now in
    let tells = all_of_range c.new.result _ _ c.all.result A (λ hour. A hour → ⊥) c.new.ensures.exhausted c.all.ensures.ran
    (λ hour q k. search rules) (λ hour q k. search rules) in
    hours_decide _ _ _ _ c.all.result
    (λ e hour low high. tells.0 e hour (omega (arith, c.new.ensures.start)) (omega (arith, c.new.ensures.end)))
    (λ e. let w = tells.1 e in (w.0, omega (arith, c.new.ensures.start, w.1), omega (arith, c.new.ensures.end, w.2), w.3))
