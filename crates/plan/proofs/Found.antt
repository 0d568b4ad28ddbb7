-- From the loosest course that fits, and its first void cell if it has one, to what settle says. Assumes nothing.
use Rattle.std.proofs.Common.{◌≡◌, ℕ, ◌≤◌, List, [], ◌∷◌, length, take, Some, ⊎_elim, arith}
use Rattle.std.proofs.lemmas.Bool.{both_ways, cases_lt, eqb-true, leb-true}
use Rattle.points.specs.Points.{Points}
use Rattle.house.specs.declared.tables.House.{House}
use Rattle.house.specs.declared.tables.Fact.{Fact}
use Rattle.house.specs.Cells.{place, cell_count}
use Rattle.examining.specs.Examine.{Check, AllClear, Accepted, checks}
use Rattle.examining.proofs.Laws.{sizes_lawful}
use Rattle.fitting.specs.Course.{Course}
use Rattle.fitting.specs.Laws.{LoosestFitting}
use Rattle.house.specs.declared.tables.Cell.{Cell as Named}
use Rattle.engine.specs.Voids.{Numbered, FirstVoid}
use Rattle.plan.specs.Orders.{table_holds, facts_fit, course_long, settle_checks}
use Rattle.plan.specs.Courses.{Contradicts}
use Rattle.plan.proofs.Checked.{clear_front, clear_back, once_use}

module _ {S : Type 0} (n : ℕ) (has : S → Points) (h : House S) (says : ℕ → ℕ → ℕ → Points) (filed : List (Fact S)) where
  -- the first void cell of the loosest course is the first that is void in every course that fits
  pub first_clashes : (a : Course) (x : Named) → LoosestFitting n has h says filed a → FirstVoid h.sizes a (Some x) →
      Contradicts n has h says filed x.hour x.component x.label
  first_clashes a x m f = record {
    none = λ b fit. let p = fit.void_free x.hour x.component x.label f.0 in
        both_ways _ (f.1 p.0) (m.contains b fit.fits fit.of_house x.hour x.component x.label p.0 p.1);
    cell = f.0;
    doomed = λ b fits of_house p e. both_ways _ (f.1 p) (m.contains b fits of_house x.hour x.component x.label p e);
    first = λ t c l cell doomed. ⊎_elim
        (λ lt. let p = f.2 t c l cell lt in absurd (doomed a m.fits m.of_house p.0 p.1))
        (λ le. le)
        (cases_lt (place h.sizes t c l) (place h.sizes x.hour x.component x.label));
  }

-- what settle's checks say, once they passed
pub record Passed {S : Type 0} (n : ℕ) (has : S → Points) (h : House S) (formulas count : ℕ) (table : List (Fact S)) (long : ℕ) : Type 0 where
  pub accepted : Accepted n has h formulas
  pub numbered : Numbered h.sizes
  pub held : count ≤ length table
  pub whole : long ≡ cell_count h.sizes

pub passed : {S : Type 0} (n : ℕ) (has : S → Points) (h : House S) (formulas count : ℕ) (table : List (Fact S)) (long : ℕ) →
    AllClear (settle_checks n has h formulas count table long) → Passed n has h formulas count table long
passed n has h formulas count table long clear =
    let later : List Check = table_holds count (length table) ∷ facts_fit h.sizes (take count table) ∷ course_long h.sizes long ∷ [] in
    let back = clear_back (checks n has h formulas) later clear in
    let sizes = sizes_lawful h.sizes clear.0 in
    record {
      accepted = clear_front (checks n has h formulas) later clear;
      numbered = (omega arith, omega arith);
      held = leb-true _ _ (once_use 9 _ back.0);
      whole = eqb-true _ _ (once_use 13 _ back.1.1.0);
    }
