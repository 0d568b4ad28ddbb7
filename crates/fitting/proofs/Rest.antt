-- A course of the house fits exactly when the joint step leaves its points as they are. Assumes nothing.
use Rattle.std.proofs.Common.{◌≡◌, ℕ, zero, suc, ◌+◌, ◌-◌, ◌<◌, ◌≤◌, Bool, true, false, ◌&&◌, ◌||◌, eqb, ltb, leb, List, [], ◌∷◌, sym, refl, ◌∙◌, subst, ⊎_elim, arith}
use Rattle.std.proofs.lemmas.Bool.{and_parts, and_from, eqb-true, eqb-false, eq-eqb, ne_eqb, ltb-true, lt-ltb, leb-true, le-leb, cases_Bool, both_ways, false≢true}
use Rattle.points.specs.Points.{Points, Among, Iff}
use Rattle.points.specs.Tables.{at_place, all_pass}
use Rattle.points.proofs.Decided.{implies_use, implies_from, same_test}
use Rattle.points.proofs.Tabled.{all_use, all_from, at_read, at_from}
use Rattle.house.specs.declared.tables.Sizes.{Sizes}
use Rattle.house.specs.declared.tables.House.{House}
use Rattle.house.specs.declared.tables.Fact.{Fact}
use Rattle.house.specs.Cells.{components, moves, inside, covers, place}
use Rattle.fitting.specs.Course.{Course, Within, OfHouse, SameCourse, Cell, VoidFree, loosest, course_of}
use Rattle.fitting.specs.Tests.{body_met_lem}
use Rattle.fitting.specs.Conditions.{holds}
use Rattle.fitting.specs.Neighbours.{eligibles}
use Rattle.fitting.specs.Touched.{acts, touched}
use Rattle.fitting.specs.Fits.{Fits}
use Rattle.fitting.specs.Step.{fact_grants, constraint_grants, rule_grants, carry_grants, granted, JointStep, step, steps}
use Rattle.fitting.specs.Laws.{LoosestFitting}
use Rattle.fitting.proofs.Narrow.{Narrows, granted_mono}

-- a point of a course of the house lies in a cell of the house, and on the scale
pub in_cell : (s : Sizes) (n t c l p : ℕ) → loosest s n t c l p ≡ true → Cell s t c l × (p < n)
unfolding loosest
in_cell s n t c l p e = let both = and_parts (inside s t c l) (ltb p n) e in (both.0, ltb-true p n both.1)

-- the numbers of a cell
pub cell_numbers : (s : Sizes) (t c l : ℕ) → Cell s t c l → (t ≤ s.last) × (c < components s) × (s.fixed ≤ l) × (l < s.fixed + s.moving)
unfolding inside
cell_numbers s t c l e =
    let label = and_parts (leb t s.last && ltb c (components s)) (moves s l) e in
    let there = and_parts (leb t s.last) (ltb c (components s)) label.0 in
    let both = and_parts (leb s.fixed l) (ltb l (s.fixed + s.moving)) label.1 in
    (leb-true t s.last there.0, ltb-true c _ there.1, leb-true s.fixed l both.0, ltb-true l _ both.1)

on_scale : {S : Type 0} (n : ℕ) (has : S → Points) → ((x : S) (p : ℕ) → has x p ≡ true → p < n) → (p : ℕ) (cells : List S) (i : ℕ) → at_place false (λ x. has x p) cells i ≡ true → p < n
unfolding at_place
on_scale n has low p [] i e = absurd (false≢true e)
on_scale n has low p (x ∷ xs) zero e = low x p e
on_scale n has low p (x ∷ xs) (suc i) e = on_scale n has low p xs i e

-- what a list of cells means is a course of the house
pub cells_inside : {S : Type 0} (s : Sizes) (n : ℕ) (has : S → Points) → ((x : S) (p : ℕ) → has x p ≡ true → p < n) → (cells : List S) → OfHouse s n (course_of s has cells)
unfolding course_of loosest
cells_inside s n has low cells t c l p e =
    let both = and_parts (inside s t c l) (at_place false (λ x. has x p) cells (place s t c l)) e in
    and_from _ _ both.0 (lt-ltb p n (on_scale n has low p cells (place s t c l) both.1))

module _ {S : Type 0} (n : ℕ) (has : S → Points) (h : House S) (says : ℕ → ℕ → ℕ → Points) (filed : List (Fact S)) where
  -- what is granted, in its four parts
  pub record Parts (a : Course) (t c l p : ℕ) : Type 0 where
    pub by_facts : all_pass (fact_grants has t c l p) filed ≡ true
    pub by_constraints : all_pass (constraint_grants n has h a t c l p) h.constraints.now ≡ true
    pub by_rules : all_pass (rule_grants n has h says a t c l p) h.rules.now ≡ true
    pub by_carrying : carry_grants n has h filed a t c l p ≡ true

  pub parts : (a : Course) (t c l p : ℕ) → granted n has h says filed a t c l p ≡ true → Parts a t c l p
  unfolding granted
  parts a t c l p e =
      let last = and_parts _ (carry_grants n has h filed a t c l p) e in
      let rules = and_parts _ (all_pass (rule_grants n has h says a t c l p) h.rules.now) last.0 in
      let constraints = and_parts (all_pass (fact_grants has t c l p) filed) (all_pass (constraint_grants n has h a t c l p) h.constraints.now) rules.0 in
      record { by_facts = constraints.0; by_constraints = constraints.1; by_rules = rules.1; by_carrying = last.1 }

  pub from_parts : (a : Course) (t c l p : ℕ) → Parts a t c l p → granted n has h says filed a t c l p ≡ true
  unfolding granted
  from_parts a t c l p q = and_from _ _ (and_from _ _ (and_from _ _ q.by_facts q.by_constraints) q.by_rules) q.by_carrying

  carry_from : (w x z : Bool) → (w ≡ false → x ≡ false → z ≡ true) → (w || x || z) ≡ true
  carry_from true x z k = refl
  carry_from false true z k = refl
  carry_from false false z k = k refl refl

  carry_use : (w x z : Bool) → w ≡ false → x ≡ false → (w || x || z) ≡ true → z ≡ true
  carry_use w x z we xe e = rw (we, xe) at e

  -- a fitting course is granted all the points of its cells
  pub fits_granted : (a : Course) → Fits n has h says filed a → (t c l : ℕ) → Cell h.sizes t c l → Among (a t c l) (granted n has h says filed a t c l)
  unfolding fact_grants constraint_grants rule_grants carry_grants acts
  fits_granted a fit t c l cell p e =
      from_parts a t c l p (record {
        by_facts = all_from _ filed (λ i lt f q. implies_from (covers t c l f) _ (λ cov. fit.facts i lt f q t c l cell cov p e));
        by_constraints = all_from _ h.constraints.now (λ i lt k q. implies_from (body_met_lem n has h a t c k.body) _
            (λ m. at_from _ h.tests.now k.head (λ lt' head q'. implies_from (eqb head.label l) _
            (λ same. let s : l ≡ head.label = sym (eqb-true head.label l same) in
            fit.constraints i lt k q lt' head q' t c (subst (λ (j : ℕ). inside h.sizes t c j ≡ true) s cell) m p (subst (λ (j : ℕ). a t c j p ≡ true) s e)))));
        by_rules = all_from _ h.rules.now (λ i lt r q. implies_from (eqb r.target l && acts n has h t c r && ltb 0 (eligibles n has h r c)) _
            (λ m. let some = and_parts _ (ltb 0 (eligibles n has h r c)) m in
            let both = and_parts (eqb r.target l) (acts n has h t c r) some.0 in
            let on = and_parts (ltb c h.sizes.nodes && leb r.delay t) (holds n has h r.onto c) both.1 in
            let where' = and_parts (ltb c h.sizes.nodes) (leb r.delay t) on.0 in
            let s : l ≡ r.target = sym (eqb-true r.target l both.0) in
            fit.rules i lt r q t c (subst (λ (j : ℕ). inside h.sizes t c j ≡ true) s cell) (ltb-true c _ where'.0) (leb-true r.delay t where'.1) on.1
            (ltb-true 0 _ some.1) p (subst (λ (j : ℕ). a t c j p ≡ true) s e)));
        by_carrying = carry_from (eqb t 0) (touched n has h filed t c l) (a (t - 1) c l p)
            (λ later free. let ne = eqb-false t 0 later in fit.carrying t c l cell (omega arith) free p e);
      })

  -- a course that is granted all the points of its cells fits
  pub granted_fits : (a : Course) → ((t c l : ℕ) → Cell h.sizes t c l → Among (a t c l) (granted n has h says filed a t c l)) → Fits n has h says filed a
  unfolding fact_grants constraint_grants rule_grants carry_grants acts
  granted_fits a all =
      record {
        facts = λ i lt f q t c l cell cov p e. implies_use (covers t c l f) _ (all_use _ filed (parts a t c l p (all t c l cell p e)).by_facts i lt f q) cov;
        constraints = λ i lt k q lt' head q' t c cell m p e.
            let asked = implies_use (body_met_lem n has h a t c k.body) _ (all_use _ h.constraints.now (parts a t c head.label p (all t c head.label cell p e)).by_constraints i lt k q) m in
            implies_use (eqb head.label head.label) (has head.bound p) (rw (at_read true _ h.tests.now k.head head lt' q') at asked) (eq-eqb head.label head.label refl);
        rules = λ i lt r q t v cell node late on some p e.
            implies_use (eqb r.target r.target && acts n has h t v r && ltb 0 (eligibles n has h r v)) _
            (all_use _ h.rules.now (parts a t v r.target p (all t v r.target cell p e)).by_rules i lt r q)
            (and_from _ _ (and_from _ _ (eq-eqb r.target r.target refl)
            (and_from _ _ (and_from _ _ (lt-ltb v _ node) (le-leb r.delay t late)) on)) (lt-ltb 0 _ some));
        carrying = λ t c l cell one free p e.
            carry_use (eqb t 0) (touched n has h filed t c l) (a (t - 1) c l p) (ne_eqb t 0 (λ z. omega arith)) free (parts a t c l p (all t c l cell p e)).by_carrying;
      }

  -- the course without any point
  pub nothing_granted : Fits n has h says filed (λ t c l p. false)
  nothing_granted = granted_fits (λ t c l p. false) (λ t c l cell p e. absurd (false≢true e))

  -- the joint step only removes
  pub step_removes : (a : Course) → Within (step n has h says filed a) a
  unfolding step
  step_removes a t c l p e = (and_parts (a t c l p) _ e).0

  pub step_joint : (a : Course) → JointStep n has h says filed a (step n has h says filed a)
  unfolding step
  step_joint a t c l cell p = refl

  -- a course of the house has no point outside it
  none_outside : (a : Course) → OfHouse h.sizes n a → (t c l p : ℕ) → inside h.sizes t c l ≡ false → a t c l p ≡ false
  none_outside a of' t c l p out = ⊎_elim (λ e. absurd (both_ways (inside h.sizes t c l) out (in_cell h.sizes n t c l p (of' t c l p e)).0)) (λ e. e) (cases_Bool (a t c l p))

  pub joint_unique : (a b : Course) → OfHouse h.sizes n a → OfHouse h.sizes n b → JointStep n has h says filed a b → SameCourse b (step n has h says filed a)
  unfolding step
  joint_unique a b ain bin j t c l p =
      ⊎_elim (λ cell. j t c l cell p) (λ out. none_outside b bin t c l p out ∙ sym (off (a t c l p) _ (none_outside a ain t c l p out))) (cases_Bool (inside h.sizes t c l))
    where
      off : (x y : Bool) → x ≡ false → (x && y) ≡ false
      off x y e = rw e

  -- a course of the house that the joint step leaves as it is
  pub rest_fits : (a : Course) → Within a (step n has h says filed a) → Fits n has h says filed a
  unfolding step
  rest_fits a same = granted_fits a (λ t c l cell p e. (and_parts (a t c l p) _ (same t c l p e)).1)

  pub rest_iff : (a : Course) → OfHouse h.sizes n a → Iff (Fits n has h says filed a) (SameCourse (step n has h says filed a) a)
  unfolding step
  rest_iff a of' = (
    (λ fit t c l p. same_test _ _ (step_removes a t c l p) (λ e. and_from _ _ e (fits_granted a fit t c l (in_cell h.sizes n t c l p (of' t c l p e)).0 p e))),
    λ same. rest_fits a (λ t c l p e. same t c l p ∙ e),
  )

  pub loosest_one : (a b : Course) → LoosestFitting n has h says filed a → LoosestFitting n has h says filed b → SameCourse a b
  loosest_one a b la lb t c l p = same_test _ _ (lb.contains a la.fits la.of_house t c l p) (la.contains b lb.fits lb.of_house t c l p)

  pub loosest_void_free : (a b : Course) → LoosestFitting n has h says filed a → Fits n has h says filed b → OfHouse h.sizes n b → VoidFree h.sizes b → VoidFree h.sizes a
  loosest_void_free a b la fit of' free t c l cell = let point = free t c l cell in (point.0, la.contains b fit of' t c l point.0 point.1)

module _ {S : Type 0} (n : ℕ) (has : S → Points) (h : House S) (few : h.sizes.nodes ≤ 200) (says : ℕ → ℕ → ℕ → Points) (falls : Narrows says) (filed : List (Fact S)) where
  pub fits_stays : (a b : Course) → Fits n has h says filed a → OfHouse h.sizes n a → Within a b → Within a (step n has h says filed b)
  unfolding step
  fits_stays a b fit of' ab t c l p e =
      and_from _ _ (ab t c l p e)
      (granted_mono n has h few says falls filed a b t (λ t' c l _. ab t' c l) c l p (fits_granted n has h says filed a fit t c l (in_cell h.sizes n t c l p (of' t c l p e)).0 p e))

  pub fits_below : (a : Course) (m : ℕ) → Fits n has h says filed a → OfHouse h.sizes n a → Within a (steps n has h says filed m)
  unfolding steps
  fits_below a zero fit of' = of'
  fits_below a (suc m) fit of' = fits_stays a (steps n has h says filed m) fit of' (fits_below a m fit of')
