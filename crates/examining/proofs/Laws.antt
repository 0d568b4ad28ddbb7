-- The laws of accepted houses, from what the checks ask. Assumes nothing.
use Rattle.std.proofs.Common.{◌≡◌, ℕ, ◌+◌, ◌<◌, ◌≤◌, Bool, true, false, ltb, leb, List, [], ◌∷◌, Some, None, Option, length, get_or, sym, ◌∙◌, ⊎_elim, arith}
use Rattle.std.proofs.lemmas.Bool.{and_parts, not-true, both_ways, leb-true, ltb-true, eqb-true, eq-eqb, and_from, cases_order, cases_lt}
use Rattle.points.specs.Points.{Points, implies}
use Rattle.points.specs.Tables.{at_place}
use Rattle.points.proofs.Decided.{implies_use, each_use}
use Rattle.points.proofs.Tabled.{at_read, at_else}
use Rattle.house.specs.declared.tables.Body.{Body}
use Rattle.house.specs.declared.tables.Condition.{Condition}
use Rattle.house.specs.declared.tables.Constraint.{Constraint}
use Rattle.house.specs.declared.tables.Edge.{Edge}
use Rattle.house.specs.declared.tables.House.{House}
use Rattle.house.specs.declared.tables.Rule.{Rule}
use Rattle.house.specs.declared.tables.Sizes.{Sizes}
use Rattle.house.specs.Cells.{moves}
use Rattle.house.specs.Kinds.{is_known, names_first, names_second}
use Rattle.examining.specs.Checks.{between, size_passes, joins_nodes_lem, same_pair, new_pair, edge_passes, fixed_passes, names_label_lem, test_passes, tests_fixed_lem, tests_moving_lem, condition_kept, condition_passes, body_ends_lem, constraint_kept, constraint_passes, names_condition_lem, rule_kept, rule_passes}
use Rattle.examining.specs.Defects.{number_of, place_of}
use Rattle.examining.specs.Examine.{Check, FailsAt, AllClear, FirstFails, checks, Accepted}
use Rattle.examining.specs.Lawful.{LawfulSizes, FixedTest, MovingTest, ConditionNamed, LawfulCondition, LawfulConstraint, LawfulRule, Lawful, AcceptedLaws}

between_use : (low n high : ℕ) → between low n high ≡ true → (low ≤ n) × (n ≤ high)
between_use low n high e = let p = and_parts (leb low n) (leb n high) e in (leb-true _ _ p.0, leb-true _ _ p.1)

pub sizes_lawful : (s : Sizes) → ((i : ℕ) → i < 5 → size_passes s i ≡ true) → LawfulSizes s
unfolding at_place
sizes_lawful s all =
    let nodes = between_use 1 s.nodes 200 (all 0 (omega arith)) in
    let edges = between_use 0 s.edges 600 (all 1 (omega arith)) in
    let fixed = between_use 0 s.fixed 16 (all 2 (omega arith)) in
    let moving = between_use 1 s.moving 8 (all 3 (omega arith)) in
    let last = between_use 0 s.last 63 (all 4 (omega arith)) in
    record {
      nodes_least = nodes.0;
      nodes_most = nodes.1;
      edges_most = edges.1;
      fixed_most = fixed.1;
      moving_least = moving.0;
      moving_most = moving.1;
      last_most = last.1;
    }

joins_use : (s : Sizes) (e : Edge) → joins_nodes_lem s e ≡ true → (e.from < s.nodes) × (e.to < s.nodes)
joins_use s e q = let p = and_parts (ltb e.from s.nodes) _ q in (ltb-true _ _ p.0, ltb-true _ _ p.1)

pair_from : (d e : Edge) → d.from ≡ e.from → d.to ≡ e.to → same_pair d e ≡ true
pair_from d e a b = and_from _ _ (eq-eqb _ _ a) (eq-eqb _ _ b)

-- what an edge that passes keeps to
edge_use : (s : Sizes) (es : List Edge) (i : ℕ) (e : Edge) → i < length es → e ≡ get_or es i e → edge_passes s es i ≡ true → (joins_nodes_lem s e ≡ true) × (new_pair es i e ≡ true)
unfolding edge_passes
edge_use s es i e l q p = and_parts (joins_nodes_lem s e) (new_pair es i e) (sym (at_read true _ es i e l q) ∙ p)

other_pair : (es : List Edge) (i j : ℕ) (d e : Edge) → i < j → i < length es → d ≡ get_or es i d → new_pair es j e ≡ true → same_pair d e ≡ false
unfolding new_pair
other_pair es i j d e lt l q p = not-true _ (sym (at_read true _ es i d l q) ∙ each_use j _ p i lt)

label_use : (s : Sizes) (l : ℕ) → names_label_lem s l ≡ true → l < s.fixed + s.moving
label_use s l e = ltb-true _ _ e

-- a record whose test answers yes is there, and passes
there : {A : Type 0} (f : A → Bool) (xs : List A) (i : ℕ) → at_place false f xs i ≡ true → (i < length xs) × ((x : A) → x ≡ get_or xs i x → f x ≡ true)
there f xs i e =
    let l : i < length xs = ⊎_elim (λ h. h) (λ h. absurd (both_ways _ (at_else false f xs i h) e)) (cases_lt i (length xs)) in
    (l, λ x q. sym (at_read false f xs i x l q) ∙ e)

body_use : (n : ℕ) (b : Body) → body_ends_lem n b ≡ true → b.first + b.count ≤ n
body_use n b e = leb-true _ _ e

-- a rule that names a condition of n names one below n
named_use : (n k : ℕ) → names_condition_lem n (Some k) ≡ true → k < n
named_use n k e = ltb-true _ _ e

module _ {S : Type 0} (h : House S) where
  fixed_test : (a : ℕ) → tests_fixed_lem h.sizes h.tests.now a ≡ true → FixedTest h a
  unfolding tests_fixed_lem
  fixed_test a e = let p = there _ h.tests.now a e in (p.0, λ t q. ltb-true _ _ (p.1 t q))

  moving_test : (a : ℕ) → tests_moving_lem h.sizes h.tests.now a ≡ true → MovingTest h a
  unfolding tests_moving_lem
  moving_test a e = there _ h.tests.now a e

  condition_named : (k : Option ℕ) → names_condition_lem (length h.conditions.now) k ≡ true → ConditionNamed h k
  condition_named None e = tt
  condition_named (Some k) e = named_use _ k e

  condition_lawful : (i : ℕ) (c : Condition) → condition_kept h.sizes h.tests.now i c ≡ true → LawfulCondition h i c
  unfolding condition_kept
  condition_lawful i c e =
      let p = and_parts _ (implies (names_second c.kind) (ltb c.b i)) e in
      let q = and_parts _ (implies (names_first c.kind) (ltb c.a i)) p.0 in
      let r = and_parts (is_known c.kind) _ q.0 in
      record {
        kind = r.0;
        test = λ z. fixed_test c.a (implies_use _ _ r.1 z);
        first = λ z. ltb-true _ _ (implies_use _ _ q.1 z);
        second = λ z. ltb-true _ _ (implies_use _ _ p.1 z);
      }

  constraint_lawful : (k : Constraint) → constraint_kept h.sizes h.tests.now k ≡ true → LawfulConstraint h k
  constraint_lawful k e =
      let p = and_parts (tests_moving_lem h.sizes h.tests.now k.head) _ e in
      record { head = moving_test k.head p.0; body = body_use _ k.body p.1 }

  rule_lawful : (formulas : ℕ) (r : Rule) → rule_kept h.sizes (length h.tests.now) (length h.conditions.now) formulas r ≡ true → LawfulRule h formulas r
  rule_lawful formulas r e =
      let p6 = and_parts _ (ltb r.formula formulas) e in
      let p5 = and_parts _ (body_ends_lem (length h.tests.now) r.body) p6.0 in
      let p4 = and_parts _ (names_condition_lem (length h.conditions.now) r.source) p5.0 in
      let p3 = and_parts _ (names_condition_lem (length h.conditions.now) r.along) p4.0 in
      let p2 = and_parts _ (names_condition_lem (length h.conditions.now) r.onto) p3.0 in
      let p1 = and_parts (moves h.sizes r.target) (between 1 r.delay 63) p2.0 in
      let delay = between_use 1 r.delay 63 p1.1 in
      record {
        target = p1.0;
        delay_least = delay.0;
        delay_most = delay.1;
        onto = condition_named _ p2.1;
        along = condition_named _ p3.1;
        source = condition_named _ p4.1;
        body = body_use _ r.body p5.1;
        formula = ltb-true _ _ p6.1;
      }

-- checks that are clear refuse nothing
pub not_clear : (cs : List Check) (n i : ℕ) → AllClear cs → FirstFails cs n i → ⊥
not_clear [] n i all f = f
not_clear (c ∷ cs) n i all f =
    ⊎_elim (λ h. both_ways (c.passes i) h.1.1 (all.0 i h.1.0)) (λ h. not_clear cs n i all.1 h.1) f

lowest_once : (c : Check) (i j : ℕ) → FailsAt c i → FailsAt c j → i ≡ j
lowest_once c i j f g =
    ⊎_elim (λ e. e) (⊎_elim (λ l. absurd (both_ways (c.passes i) f.1 (g.2 i l))) (λ l. absurd (both_ways (c.passes j) g.1 (f.2 j l)))) (cases_order i j)

fails_once : (cs : List Check) (n i m j : ℕ) → FirstFails cs n i → FirstFails cs m j → (n ≡ m) × (i ≡ j)
fails_once [] n i m j f g = absurd f
fails_once (c ∷ cs) n i m j f g =
    ⊎_elim
    (λ p. ⊎_elim (λ q. (p.0 ∙ sym q.0, lowest_once c i j p.1 q.1)) (λ q. absurd (both_ways (c.passes i) p.1.1 (q.0 i p.1.0))) g)
    (λ p. ⊎_elim (λ q. absurd (both_ways (c.passes j) q.1.1 (p.0 j q.1.0))) (λ q. fails_once cs n i m j p.1 q.1) g)
    f

module _ {S : Type 0} (size : ℕ) (has : S → Points) where
  house_lawful : (h : House S) (formulas : ℕ) → Accepted size has h formulas → Lawful size has h formulas
  unfolding at_place fixed_passes test_passes condition_passes constraint_passes rule_passes
  house_lawful h formulas a =
      let tables = a.1.0 in
      let edges = a.1.1.0 in
      let rest = a.1.1.1 in
      record {
        sizes = sizes_lawful h.sizes a.0;
        edge_count = eqb-true _ _ (tables 0 (omega arith));
        fixed_count = eqb-true _ _ (tables 1 (omega arith));
        test_count = leb-true _ _ (tables 2 (omega arith));
        condition_count = leb-true _ _ (tables 3 (omega arith));
        constraint_count = leb-true _ _ (tables 4 (omega arith));
        rule_count = leb-true _ _ (tables 5 (omega arith));
        edge_ends = λ i l e q. joins_use h.sizes e (edge_use h.sizes h.edges.now i e l q (edges i l)).0;
        edges_differ = λ i j lt l d e p q f t.
            both_ways (same_pair d e) (other_pair h.edges.now i j d e lt (omega arith) p (edge_use h.sizes h.edges.now j e l q (edges j l)).1) (pair_from d e f t);
        fixed_bounds = λ i l b q. not-true _ (sym (at_read true _ h.fixed.now i b l q) ∙ rest.0 i l);
        test_labels = λ i l t q. label_use h.sizes t.label (sym (at_read true _ h.tests.now i t l q) ∙ rest.1.0 i l);
        conditions = λ i l c q. condition_lawful h i c (sym (at_read true _ h.conditions.now i c l q) ∙ rest.1.1.0 i l);
        constraints = λ i l k q. constraint_lawful h k (sym (at_read true _ h.constraints.now i k l q) ∙ rest.1.1.1.0 i l);
        rules = λ i l r q. rule_lawful h formulas r (sym (at_read true _ h.rules.now i r l q) ∙ rest.1.1.1.1.0 i l);
      }

  pub accepted_laws : AcceptedLaws size has
  accepted_laws = record {
    lawful = house_lawful;
    refused = λ h formulas d fails all. not_clear (checks size has h formulas) (number_of d) (place_of d) all fails;
    one_refusal = λ h formulas d e. fails_once (checks size has h formulas) (number_of d) (place_of d) (number_of e) (place_of e);
  }
