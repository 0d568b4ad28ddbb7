-- The small house, computed. Assumes nothing.
use Rattle.std.proofs.Common.{◌≡◌, ◌*◌, Bool, true, ltb, sym, refl, ⊎_elim, arith, lit≤}
use Rattle.std.proofs.lemmas.Bool.{and_parts, and_from, or_cases, or_left, or_right, ltb-true, lt-ltb, true≢false}
use Rattle.points.specs.Points.{implies, each_below, some_below, count_below, within, void}
use Rattle.points.specs.Tables.{at_place, all_pass, one_passes}
use Rattle.points.proofs.Decided.{implies_use, each_use}
use Rattle.house.specs.Cells.{inside, covers}
use Rattle.fitting.specs.Course.{Course, Within, OfHouse, loosest, course_of}
use Rattle.fitting.specs.Tests.{meets, fixed_at, seen, test_met_lem, body_met_lem}
use Rattle.fitting.specs.Conditions.{fixed_met_lem, verdict, said, holds}
use Rattle.fitting.specs.Neighbours.{leads, eligible, qualifies, eligibles, qualified}
use Rattle.fitting.specs.Edges.{edges_count}
use Rattle.fitting.specs.Touched.{acts, touched}
use Rattle.fitting.specs.Step.{fact_grants, constraint_grants, rule_grants, carry_grants, granted, step, steps}
use Rattle.fitting.specs.Laws.{LoosestFitting}
use Rattle.fitting.specs.Example.{has, says, house, filed, settled, course, ExampleStands}
use Rattle.fitting.proofs.Narrow.{Narrows}
use Rattle.fitting.proofs.Rest.{in_cell, cell_numbers, cells_inside, granted_fits, fits_below}
use Rattle.fitting.proofs.Arrive.{steps_inside}

-- what a course has at hours 0 and 1, on components 0 to 4, for labels 0 to 2, b has too
abbrev boxed : Course → Course → Bool
boxed a b = each_below 2 (λ t. each_below 5 (λ c. each_below 3 (λ l. each_below 4 (λ p. implies (a t c l p) (b t c l p)))))

boxed_within : (a b : Course) → OfHouse house.sizes 4 a → boxed a b ≡ true → Within a b
boxed_within a b of' e t c l p x =
    let at = in_cell house.sizes 4 t c l p (of' t c l p x) in
    let numbers = cell_numbers house.sizes t c l at.0 in
    implies_use (a t c l p) (b t c l p)
    (each_use 4 _ (each_use 3 _ (each_use 5 _ (each_use 2 _ e t (omega (arith, numbers.0))) c (omega (arith, numbers.1))) l (omega (arith, numbers.3))) p at.1) x

course_inside : OfHouse house.sizes 4 course
course_inside = cells_inside house.sizes 4 has (λ s p e. ltb-true p 4 (and_parts (ltb p 4) _ e).0) settled

all_granted : boxed course (granted 4 has house says filed course) ≡ true
unfolding implies each_below some_below count_below within void at_place all_pass one_passes inside covers course_of meets fixed_at seen test_met_lem body_met_lem fixed_met_lem verdict said holds leads eligible qualifies eligibles qualified acts touched fact_grants constraint_grants rule_grants carry_grants granted
all_granted = refl

reached : boxed (steps 4 has house says filed 3) course ≡ true
unfolding implies each_below some_below count_below within void at_place all_pass one_passes inside covers loosest course_of meets fixed_at seen test_met_lem body_met_lem fixed_met_lem verdict said holds leads eligible qualifies eligibles qualified acts touched fact_grants constraint_grants rule_grants carry_grants granted step steps
reached = refl

says_narrows : Narrows says
says_narrows f x z y p xz zy _ e =
    let both = and_parts (ltb p 4) _ e in
    and_from (ltb p 4) _ both.0
    (⊎_elim (λ less. let lt = ltb-true (2 * z) y less in or_left _ (has 3 p) (lt-ltb (2 * x) y (omega arith))) (λ some. or_right (ltb (2 * x) y) (has 3 p) some) (or_cases (ltb (2 * z) y) (has 3 p) both.1))

fitting : LoosestFitting 4 has house says filed course
fitting =
    record {
      fits = granted_fits 4 has house says filed course (λ t c l cell. boxed_within course (granted 4 has house says filed course) course_inside all_granted t c l);
      of_house = course_inside;
      contains = λ b fit of' t c l p e.
          boxed_within (steps 4 has house says filed 3) course (steps_inside 4 has house says filed 3) reached t c l p (fits_below 4 has house (lit≤ tt) says says_narrows filed b 3 fit of' t c l p e);
    }

pub worked : ExampleStands
unfolding implies each_below some_below count_below within void at_place all_pass one_passes inside covers loosest course_of meets fixed_at seen test_met_lem body_met_lem fixed_met_lem verdict said holds leads eligible qualifies eligibles qualified edges_count acts touched
worked =
    record {
      void_cell = refl;
      void_test = refl;
      test_0 = refl;
      test_1 = refl;
      not_1 = refl;
      both = refl;
      either = refl;
      always = refl;
      one_eligible = refl;
      other_not = refl;
      y_is = refl;
      by_edges = refl;
      met_on_one = refl;
      met_on_other = refl;
      x_is = refl;
      x_loose = refl;
      by_fact = refl;
      by_fact_no_more = refl;
      by_rule = refl;
      by_rule_early = refl;
      y_none = refl;
      by_idle = refl;
      not_edges = refl;
      fits = fitting;
      too_loose = λ fit. true≢false (sym (fit.facts 0 (lit≤ tt) _ refl 0 0 1 refl refl 3 refl));
    }
