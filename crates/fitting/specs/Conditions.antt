-- Conditions look at the fixed bounds of a component alone.
use Rattle.std.specs.Prelude.{ℕ, zero, suc, Bool, true, false, cond, not, ◌&&◌, ◌||◌, length, Some, None, Option, ◌==◌}
use Rattle.points.specs.Points.{Points}
use Rattle.points.specs.Tables.{at_place}
use Rattle.house.specs.declared.tables.House.{House}
use Rattle.house.specs.declared.tables.Condition.{Condition}
use Rattle.house.specs.declared.tables.Kind.{Kind}
use Rattle.house.specs.declared.tables.Kind.TheVariants.{Test, Not, Both, Either, Unknown}
use Rattle.fitting.specs.Tests.{meets, fixed_at}

-- what a condition of a kind says, where `test` is whether its test is met, and a and b are what the conditions named say:
-- the test, not a, a and b, or a or b. An unknown kind, which no accepted house has, counts as the last
abbrev pub of_kind : Kind → Bool → Bool → Bool → Bool
of_kind Test test a b = test
of_kind Not test a b = not a
of_kind Both test a b = a && b
of_kind Either test a b = a || b
of_kind (Unknown n) test a b = a || b

module _ {S : Type 0} (n : ℕ) (has : S → Points) (h : House S) where
  -- test i, of a fixed label, is met by the fixed bound of component c
  unfoldable pub fixed_met_lem : ℕ → ℕ → Bool
  fixed_met_lem c i = at_place false (λ test. meets n (fixed_at has h c test.label) (has test.bound)) h.tests.now i

  -- what a condition says on component c, where `known` is what earlier ones say
  unfoldable pub verdict : ℕ → (ℕ → Bool) → Condition → Bool
  verdict c known k = of_kind k.kind (fixed_met_lem c k.a) (known k.a) (known k.b)

  -- what condition i, one of the first m, says on component c. Each says it by the earlier ones
  unfoldable pub said : ℕ → ℕ → ℕ → Bool
  said c zero i = false
  said c (suc m) i = cond (i == m) (at_place false (verdict c (said c m)) h.conditions.now m) (said c m i)

  -- a condition holds on component c; where none is named, it does
  unfoldable pub holds : Option ℕ → ℕ → Bool
  holds None c = true
  holds (Some i) c = said c (length h.conditions.now) i
