use Rattle.std.proofs.Common.{arith, ltb-false, ltb-true}
use Rattle.scale.specs.RangeFacts.{is_void}
use Rattle.scale.proofs.ranges.ThousandthsScale.void.Goals as goal

pub returns-then-self : goal.returns-then-self
returns-then-self c = is_void _ _ _ (λ e a b. omega arith) (λ e. omega (arith, ltb-false))

pub returns-else-self : goal.returns-else-self
returns-else-self c = is_void _ _ _ (λ e a b. omega (arith, ltb-true)) (λ e. omega (arith, ltb-false))
