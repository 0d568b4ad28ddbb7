-- A house whose hours can be settled. Every house that is accepted for a book is one.
use Rattle.std.specs.Prelude.{ℕ, ◌<◌, ◌≤◌}
use Rattle.points.specs.Points.{Points}
use Rattle.points.specs.Tables.{Every}
use Rattle.house.specs.declared.tables.House.{House}
use Rattle.house.specs.Cells.{components}
use Rattle.judge.specs.Judged.{Countable}

-- on a scale of n points: its neighbours can be counted, and it has at most 800 components
pub record Judgeable {S : Type 0} (n : ℕ) (has : S → Points) (h : House S) : Type 0 where
  pub countable : Countable n has h
  pub few_components : components h.sizes ≤ 800

-- on a scale of n points, with a book of so many formulas: its neighbours can be counted, it has at most 800 components,
-- and every rule looks at an earlier hour and at a formula of the book
pub record Ready {S : Type 0} (n : ℕ) (has : S → Points) (h : House S) (formulas : ℕ) : Type 0 where
  pub countable : Countable n has h
  pub few_components : components h.sizes ≤ 800
  pub delays : Every h.rules.now (λ r. 1 ≤ r.delay)
  pub in_book : Every h.rules.now (λ r. r.formula < formulas)
