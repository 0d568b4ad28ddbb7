use Rattle.judge.proofs.Verdict.{Worked}
use Rattle.judge.proofs.verdicts.Verdicts.of.Given as goal

abbrev pub invariant-loop-i : goal.invariant-loop-i
invariant-loop-i g l = Worked g.S.Scale.size g.S.Scale.has l.house l.component l.i-iterator.iter.iter.rest.now l.i-iterator.iter.n l.i-iterator.count l.said
