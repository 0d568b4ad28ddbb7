use Rattle.std.proofs.Common.{sym, arith, rules, leb-false, leb-true}
use Rattle.scale.specs.RangeFacts.{is_within, void_within, not_void}
use Rattle.scale.proofs.ranges.ThousandthsScale.within.Goals as goal

pub returns-then-void : goal.returns-then-void
returns-then-void c = let none = sym c.if-void.ensures in search (rules, void_within)

pub returns-then-other-self : goal.returns-then-other-self
returns-then-other-self c =
    let some = not_void _ _ (sym c.if-void.ensures) in
    is_within _ _ _ _ _ (λ e p a b d. omega (arith, leb-true)) (λ e. (c.min.result, omega arith, omega arith, omega arith, λ x y. omega (arith, leb-false)))

pub returns-else-other-self : goal.returns-else-other-self
returns-else-other-self c =
    let some = not_void _ _ (sym c.if-void.ensures) in
    is_within _ _ _ _ _ (λ e p a b d. absurd (omega (arith, leb-true))) (λ e. (c.args.self.low, omega arith, omega arith, omega arith, λ x y. omega arith))
