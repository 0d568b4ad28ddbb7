-- How an hour begins: as carrying grants, before facts, rules and constraints narrow it.
use Rattle.std.specs.Prelude.{◌≡◌, ℕ, ◌<◌, Bool, ◌&&◌, List, ◌==◌}
use Rattle.points.specs.Points.{Points, Same}
use Rattle.points.specs.Tables.{one_passes}
use Rattle.house.specs.declared.tables.House.{House}
use Rattle.house.specs.declared.tables.Fact.{Fact}
use Rattle.house.specs.declared.tables.Rule.{Rule}
use Rattle.fitting.specs.Course.{Course, loosest}
use Rattle.fitting.specs.Touched.{acts}
use Rattle.fitting.specs.Step.{carry_grants}

module _ {S : Type 0} (n : ℕ) (has : S → Points) (h : House S) where
  -- a rule touches the cells of its target label where it acts
  unfoldable pub touches : Rule → ℕ → ℕ → ℕ → Bool
  touches r hour c l = r.target == l && acts n has h hour c r

  -- the cells that some rule of a table touches at an hour
  unfoldable pub ruled : List Rule → ℕ → ℕ → ℕ → Bool
  ruled rules hour c l = one_passes (λ r. touches r hour c l) rules

  -- an hour of b begins as the hour before ended in a, and loose at hour 0 and where a cell is touched; earlier hours
  -- are as they were
  pub record Started (filed : List (Fact S)) (hour : ℕ) (a b : Course) : Type 0 where
    pub earlier : (t c l : ℕ) → t < hour → Same (a t c l) (b t c l)
    pub begins : (c l p : ℕ) → b hour c l p ≡ (loosest h.sizes n hour c l p && carry_grants n has h filed a hour c l p)
