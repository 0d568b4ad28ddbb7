-- The joint step repeated from the loosest course comes to rest: it only removes points, and there are finitely many. Assumes nothing.
use Rattle.std.proofs.Common.{◌≡◌, ℕ, zero, suc, ◌+◌, ◌<◌, ◌≤◌, true, ◌⊎◌, List, ◌∙◌, inl, inr, ⊎_elim, arith}
use Rattle.std.proofs.lemmas.Bool.{cases_lt}
use Rattle.points.specs.Points.{Points, count_below}
use Rattle.points.proofs.Counted.{count_mono}
use Rattle.points.proofs.Summed.{sum_below, sum_mono, sum_same, count_same}
use Rattle.house.specs.declared.tables.House.{House}
use Rattle.house.specs.declared.tables.Fact.{Fact}
use Rattle.house.specs.Cells.{components}
use Rattle.fitting.specs.Course.{Course, Within, OfHouse, SameCourse}
use Rattle.fitting.specs.Step.{step, steps}
use Rattle.fitting.specs.Laws.{LoosestFitting, Laws}
use Rattle.fitting.proofs.Narrow.{Narrows, narrowing, granted_mono, qualified_le, eligibles_le, empty_qualified}
use Rattle.fitting.proofs.Said.{said_by_kind, eligible_means, untouched_means}
use Rattle.fitting.proofs.Frame.{granted_same}
use Rattle.fitting.proofs.Rest.{in_cell, cell_numbers, cells_inside, step_removes, step_joint, joint_unique, rest_fits, rest_iff, fits_stays, fits_below, nothing_granted, loosest_void_free, loosest_one}

-- how many points a course has in the cells of a box, and on n points
module _ (hours comps labels n : ℕ) where
  total : Course → ℕ
  total a = sum_below hours (λ t. sum_below comps (λ c. sum_below labels (λ l. count_below n (a t c l))))

  total_same : (a b : Course) → Within a b → total b ≤ total a → (t c l p : ℕ) → t < hours → c < comps → l < labels → p < n → b t c l p ≡ true → a t c l p ≡ true
  unfolding total
  total_same a b ab e t c l p lt lc ll lp =
      count_same n (a t c l) (b t c l) (λ p _. ab t c l p)
      (sum_same labels (λ l. count_below n (a t c l)) (λ l. count_below n (b t c l)) (λ l _. count_mono n (a t c l) (b t c l) (λ p _. ab t c l p))
      (sum_same comps (λ c. sum_below labels (λ l. count_below n (a t c l))) (λ c. sum_below labels (λ l. count_below n (b t c l)))
      (λ c _. sum_mono labels _ _ (λ l _. count_mono n (a t c l) (b t c l) (λ p _. ab t c l p)))
      (sum_same hours _ _ (λ t _. sum_mono comps _ _ (λ c _. sum_mono labels _ _ (λ l _. count_mono n (a t c l) (b t c l) (λ p _. ab t c l p)))) e t lt)
      c lc) l ll) p lp

module _ {S : Type 0} (n : ℕ) (has : S → Points) (h : House S) (says : ℕ → ℕ → ℕ → Points) (filed : List (Fact S)) where
  -- the points left
  left : Course → ℕ
  left a = total (suc h.sizes.last) (components h.sizes) (h.sizes.fixed + h.sizes.moving) n a

  pub steps_inside : (m : ℕ) → OfHouse h.sizes n (steps n has h says filed m)
  unfolding steps
  steps_inside zero t c l p e = e
  steps_inside (suc m) t c l p e = steps_inside m t c l p (step_removes n has h says filed (steps n has h says filed m) t c l p e)

  -- a joint step removes nothing, or fewer points are left
  rests_or_falls : (a : Course) → OfHouse h.sizes n a → Within a (step n has h says filed a) ⊎ (left (step n has h says filed a) < left a)
  unfolding left
  rests_or_falls a of' =
      ⊎_elim inr
      (λ le. inl (λ t c l p e. let at = in_cell h.sizes n t c l p (of' t c l p e) in let box = cell_numbers h.sizes t c l at.0 in
      total_same _ _ _ n (step n has h says filed a) a (step_removes n has h says filed a) le t c l p (omega (arith, box.0)) box.1 box.3 at.1 e))
      (cases_lt (left (step n has h says filed a)) (left a))

  comes_to_rest : (fuel m : ℕ) → left (steps n has h says filed m) ≤ fuel → (k : ℕ) × Within (steps n has h says filed k) (step n has h says filed (steps n has h says filed k))
  unfolding steps
  comes_to_rest zero m le = ⊎_elim (λ rest. (m, rest)) (λ lt. absurd (omega arith)) (rests_or_falls (steps n has h says filed m) (steps_inside m))
  comes_to_rest (suc fuel) m le =
      ⊎_elim (λ rest. (m, rest)) (λ lt. comes_to_rest fuel (suc m) (omega arith)) (rests_or_falls (steps n has h says filed m) (steps_inside m))

module _ {S : Type 0} (n : ℕ) (has : S → Points) (h : House S) (few : h.sizes.nodes ≤ 200) (says : ℕ → ℕ → ℕ → Points) (falls : Narrows says) (filed : List (Fact S)) where
  -- where the joint step removes nothing, the loosest fitting course is reached
  rest_loosest : (m : ℕ) → Within (steps n has h says filed m) (step n has h says filed (steps n has h says filed m)) → LoosestFitting n has h says filed (steps n has h says filed m)
  rest_loosest m rest =
      record {
        fits = rest_fits n has h says filed (steps n has h says filed m) rest;
        of_house = steps_inside n has h says filed m;
        contains = λ b fit of'. fits_below n has h few says falls filed b m fit of';
      }

  arrives_at : (m : ℕ) × LoosestFitting n has h says filed (steps n has h says filed m)
  arrives_at =
      let rest = comes_to_rest n has h says filed (left n has h says filed (steps n has h says filed 0)) 0 (omega arith) in (
        rest.0,
        rest_loosest rest.0 rest.1,
      )

  stops_at : (m : ℕ) → SameCourse (steps n has h says filed (suc m)) (steps n has h says filed m) → LoosestFitting n has h says filed (steps n has h says filed m)
  unfolding steps
  stops_at m same = rest_loosest m (λ t c l p e. same t c l p ∙ e)

  pub laws : ((x : S) (p : ℕ) → has x p ≡ true → p < n) → Laws n has h says filed
  laws low =
      record {
        of_cells = cells_inside h.sizes n has low;
        by_kind = said_by_kind n has h;
        eligible_means = eligible_means n has h;
        untouched_means = untouched_means n has h filed;
        few = eligibles_le n has h;
        in_limit = λ r v. omega (arith, eligibles_le n has h r v);
        at_most = qualified_le n has h;
        all_qualify = empty_qualified n has h;
        narrows = narrowing n has h few says falls filed;
        looks_back = λ a b. granted_same n has h a b says filed;
        narrows_back = granted_mono n has h few says falls filed;
        joint = step_joint n has h says filed;
        joint_only = joint_unique n has h says filed;
        rests = rest_iff n has h says filed;
        stays = fits_stays n has h few says falls filed;
        below = fits_below n has h few says falls filed;
        arrives = arrives_at;
        stops = stops_at;
        nothing_fits = nothing_granted n has h says filed;
        void_free = loosest_void_free n has h says filed;
        one = loosest_one n has h says filed;
      }
