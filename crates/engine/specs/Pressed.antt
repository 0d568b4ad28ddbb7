-- What rules make of an hour.
use Rattle.std.specs.Prelude.{ℕ, Bool, ◌&&◌, List, ◌==◌}
use Rattle.points.specs.Points.{Points, implies}
use Rattle.points.specs.Tables.{all_pass}
use Rattle.house.specs.declared.tables.House.{House}
use Rattle.house.specs.declared.tables.Rule.{Rule}
use Rattle.fitting.specs.Course.{Course}
use Rattle.fitting.specs.Step.{rule_grants}

-- what g grants at one hour on the components that pass
unfoldable pub on_those : ℕ → (ℕ → Bool) → Course → Course
on_those hour those g t c l p = implies (t == hour && those c) (g t c l p)

-- the points that every rule of a table grants on a course
unfoldable pub rules_grant : {S : Type 0} → ℕ → (S → Points) → House S → (ℕ → ℕ → ℕ → Points) → Course → List Rule → Course
rules_grant n has h says a rules t c l p = all_pass (rule_grants n has h says a t c l p) rules
