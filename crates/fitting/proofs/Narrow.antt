-- On a narrower course tests and bodies stay met, more neighbours qualify and less is granted. Assumes nothing.
use Rattle.std.proofs.Common.{◌≡◌, ℕ, ◌+◌, ◌-◌, ◌≤◌, Bool, true, false, cond, not, ◌&&◌, ◌||◌, eqb, ltb, List, refl, arith}
use Rattle.std.proofs.lemmas.Bool.{and_parts, and_from, eqb-false}
use Rattle.points.specs.Points.{Points, Among, within, void}
use Rattle.points.specs.Tables.{all_pass}
use Rattle.points.proofs.Decided.{implies_use, implies_from, each_use, each_from}
use Rattle.points.proofs.Counted.{count_mono, count_le, count_ext}
use Rattle.points.proofs.Tabled.{all_mono, at_mono}
use Rattle.house.specs.declared.tables.House.{House}
use Rattle.house.specs.declared.tables.Fact.{Fact}
use Rattle.house.specs.declared.tables.Body.{Body}
use Rattle.house.specs.declared.tables.Rule.{Rule}
use Rattle.house.specs.declared.tables.Constraint.{Constraint}
use Rattle.fitting.specs.Course.{Course, Within, WithinUpto}
use Rattle.fitting.specs.Tests.{meets, fixed_at, seen, test_met_lem, body_met_lem}
use Rattle.fitting.specs.Neighbours.{eligible, qualifies, eligibles, qualified}
use Rattle.fitting.specs.Touched.{acts, touched}
use Rattle.fitting.specs.Step.{fact_grants, constraint_grants, rule_grants, carry_grants, granted}
use Rattle.fitting.specs.Laws.{Narrowing}

pub meets_mono : (n : ℕ) (a b bound : Points) → Among a b → meets n b bound ≡ true → meets n a bound ≡ true
unfolding meets within
meets_mono n a b bound ab e =
    let both = and_parts (not (void n bound)) (within n b bound) e in
    and_from (not (void n bound)) (within n a bound) both.0
    (each_from n _ (λ p l. implies_from (a p) (bound p) (λ ap. implies_use (b p) (bound p) (each_use n _ both.1 p l) (ab p ap))))

-- what a book owes: up to 200 neighbours, a formula only narrows as more of them qualify
abbrev pub Narrows : (ℕ → ℕ → ℕ → Points) → Type 0
Narrows says = (f x z y p : ℕ) → x ≤ z → z ≤ y → y ≤ 200 → says f z y p ≡ true → says f x y p ≡ true

module _ {S : Type 0} (n : ℕ) (has : S → Points) (h : House S) where
  seen_mono : (a b : Course) (t c l : ℕ) → Among (a t c l) (b t c l) → Among (seen has h a t c l) (seen has h b t c l)
  unfolding seen
  seen_mono a b t c l ab p e = pick (ltb l h.sizes.fixed) (fixed_at has h c l p) e
    where
      pick : (w x : Bool) → cond w x (a t c l p) ≡ true → cond w x (b t c l p) ≡ true
      pick true x e = e
      pick false x e = ab p e

  -- of one component at one hour
  pub test_mono : (a b : Course) (t c i : ℕ) → ((l : ℕ) → Among (a t c l) (b t c l)) → test_met_lem n has h b t c i ≡ true → test_met_lem n has h a t c i ≡ true
  unfolding test_met_lem
  test_mono a b t c i ab e =
      at_mono false _ _ h.tests.now i
      (λ test m. meets_mono n (seen has h a t c test.label) (seen has h b t c test.label) (has test.bound) (seen_mono a b t c test.label (ab test.label)) m) e

  pub body_mono : (a b : Course) (t c : ℕ) (body : Body) → ((l : ℕ) → Among (a t c l) (b t c l)) → body_met_lem n has h b t c body ≡ true → body_met_lem n has h a t c body ≡ true
  unfolding body_met_lem
  body_mono a b t c body ab e = each_from body.count _ (λ k l. test_mono a b t c (body.first + k) ab (each_use body.count _ e k l))

  -- of the one hour that a rule looks back to
  pub qualified_mono : (a b : Course) (r : Rule) (t v : ℕ) → ((u l : ℕ) → Among (a (t - r.delay) u l) (b (t - r.delay) u l)) → qualified n has h b r t v ≤ qualified n has h a r t v
  unfolding qualified qualifies
  qualified_mono a b r t v ab =
      count_mono h.sizes.nodes _ _
      (λ u l e. let both = and_parts (eligible n has h r u v) (body_met_lem n has h b (t - r.delay) u r.body) e in
      and_from (eligible n has h r u v) _ both.0 (body_mono a b (t - r.delay) u r.body (ab u) both.1))

  -- x is at most y
  pub qualified_le : (a : Course) (r : Rule) (t v : ℕ) → qualified n has h a r t v ≤ eligibles n has h r v
  unfolding qualified qualifies eligibles
  qualified_le a r t v =
      count_mono h.sizes.nodes _ _ (λ u l e. (and_parts (eligible n has h r u v) (body_met_lem n has h a (t - r.delay) u r.body) e).0)

  -- y is at most the number of nodes
  pub eligibles_le : (r : Rule) (v : ℕ) → eligibles n has h r v ≤ h.sizes.nodes
  unfolding eligibles
  eligibles_le r v = count_le h.sizes.nodes _

  -- an empty body is met
  pub empty_met : (a : Course) (t c : ℕ) (body : Body) → body.count ≡ 0 → body_met_lem n has h a t c body ≡ true
  unfolding body_met_lem
  empty_met a t c body none = each_from body.count _ (λ k l. absurd (omega arith))

  pub empty_qualified : (a : Course) (r : Rule) (t v : ℕ) → r.body.count ≡ 0 → qualified n has h a r t v ≡ eligibles n has h r v
  unfolding qualified qualifies eligibles
  empty_qualified a r t v none = count_ext h.sizes.nodes _ _ (λ u l. and_met (eligible n has h r u v) _ (empty_met a (t - r.delay) u r.body none))
    where
      and_met : (x y : Bool) → y ≡ true → (x && y) ≡ x
      and_met true y e = e
      and_met false y e = refl

  -- a constraint looks at the cells of its component and hour
  pub constraint_mono : (a b : Course) (t c l p : ℕ) (k : Constraint) → ((j : ℕ) → Among (a t c j) (b t c j)) →
      constraint_grants n has h a t c l p k ≡ true → constraint_grants n has h b t c l p k ≡ true
  unfolding constraint_grants
  constraint_mono a b t c l p k ab e =
      implies_from (body_met_lem n has h b t c k.body) _
      (λ m. implies_use (body_met_lem n has h a t c k.body) _ e (body_mono a b t c k.body ab m))

  -- carrying looks at the same cell an hour before, if there is one
  pub carry_mono : (filed : List (Fact S)) (a b : Course) (t c l p : ℕ) → (1 ≤ t → Among (a (t - 1) c l) (b (t - 1) c l)) →
      carry_grants n has h filed a t c l p ≡ true → carry_grants n has h filed b t c l p ≡ true
  unfolding carry_grants
  carry_mono filed a b t c l p ab e = pick (eqb t 0) (touched n has h filed t c l) (λ later. let ne = eqb-false t 0 later in ab (omega arith) p) e
    where
      pick : (z w : Bool) → (z ≡ false → a (t - 1) c l p ≡ true → b (t - 1) c l p ≡ true) → (z || w || a (t - 1) c l p) ≡ true → (z || w || b (t - 1) c l p) ≡ true
      pick true w k e = refl
      pick false true k e = refl
      pick false false k e = k refl e

module _ {S : Type 0} (n : ℕ) (has : S → Points) (h : House S) (few : h.sizes.nodes ≤ 200) (says : ℕ → ℕ → ℕ → Points) (falls : Narrows says) where
  -- a rule looks at the hour that lies its delay before
  pub rule_mono : (a b : Course) (t c l p : ℕ) (r : Rule) → ((u j : ℕ) → Among (a (t - r.delay) u j) (b (t - r.delay) u j)) →
      rule_grants n has h says a t c l p r ≡ true → rule_grants n has h says b t c l p r ≡ true
  unfolding rule_grants
  rule_mono a b t c l p r ab e =
      implies_from (eqb r.target l && acts n has h t c r && ltb 0 (eligibles n has h r c)) _
      (λ m. falls r.formula (qualified n has h b r t c) (qualified n has h a r t c) (eligibles n has h r c) p
      (qualified_mono n has h a b r t c ab) (qualified_le n has h a r t c) (omega (arith, eligibles_le n has h r c))
      (implies_use (eqb r.target l && acts n has h t c r && ltb 0 (eligibles n has h r c)) _ e m))

  pub granted_mono : (filed : List (Fact S)) (a b : Course) (t : ℕ) → WithinUpto t a b → (c l : ℕ) →
      Among (granted n has h says filed a t c l) (granted n has h says filed b t c l)
  unfolding granted
  granted_mono filed a b t ab c l p e =
      let last = and_parts _ (carry_grants n has h filed a t c l p) e in
      let rules = and_parts _ (all_pass (rule_grants n has h says a t c l p) h.rules.now) last.0 in
      let constraints = and_parts (all_pass (fact_grants has t c l p) filed) (all_pass (constraint_grants n has h a t c l p) h.constraints.now) rules.0 in
      and_from _ _ (and_from _ _ (and_from _ _ constraints.0
      (all_mono _ _ h.constraints.now (λ k. constraint_mono n has h a b t c l p k (λ j. ab t c j (omega arith))) constraints.1))
      (all_mono _ _ h.rules.now (λ r. rule_mono a b t c l p r (λ u j. ab (t - r.delay) u j (omega arith))) rules.1))
      (carry_mono n has h filed a b t c l p (λ _. ab (t - 1) c l (omega arith)) last.1)

  pub narrowing : (filed : List (Fact S)) (a b : Course) → Within a b → Narrowing n has h says filed a b
  narrowing filed a b ab =
      record {
        tests = λ t c i. test_mono n has h a b t c i (ab t c);
        bodies = λ t c body. body_mono n has h a b t c body (ab t c);
        counts = λ r t v. qualified_mono n has h a b r t v (λ u l. ab (t - r.delay) u l);
        rules = λ r t c l p. rule_mono a b t c l p r (λ u j. ab (t - r.delay) u j);
        grants = λ t. granted_mono filed a b t (λ t' c l _. ab t' c l);
      }
