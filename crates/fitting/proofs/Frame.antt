-- Which cells a test, a body, a count and what is granted hang on. Assumes nothing.
use Rattle.std.proofs.Common.{◌≡◌, ℕ, ◌-◌, ◌<◌, ◌≤◌, Bool, true, false, ◌&&◌, eqb, ltb, leb, List, sym, refl, ◌∙◌, ⊎_elim, arith}
use Rattle.std.proofs.lemmas.Bool.{cases_lt, cases_eq, eq-eqb, lt-leb}
use Rattle.points.specs.Points.{Points, Among, Same, implies}
use Rattle.points.specs.Tables.{Every, all_pass}
use Rattle.points.proofs.Decided.{same_test}
use Rattle.points.proofs.Tabled.{all_ext}
use Rattle.house.specs.declared.tables.House.{House}
use Rattle.house.specs.declared.tables.Fact.{Fact}
use Rattle.house.specs.declared.tables.Body.{Body}
use Rattle.house.specs.declared.tables.Rule.{Rule}
use Rattle.house.specs.declared.tables.Constraint.{Constraint}
use Rattle.fitting.specs.Course.{Course, SameUpto}
use Rattle.fitting.specs.Tests.{test_met_lem, body_met_lem}
use Rattle.fitting.specs.Neighbours.{qualified}
use Rattle.fitting.specs.Touched.{acts}
use Rattle.fitting.specs.Step.{constraint_grants, rule_grants, carry_grants, granted}
use Rattle.fitting.proofs.Narrow.{test_mono, body_mono, qualified_mono}

pub same_among : (a b : Points) → Same a b → Among a b
same_among a b e p x = sym (e p) ∙ x

pub same_turned : (a b : Points) → Same a b → Among b a
same_turned a b e p x = e p ∙ x

-- before its delay has passed a rule grants everything
pub rule_early : {S : Type 0} (n : ℕ) (has : S → Points) (h : House S) (says : ℕ → ℕ → ℕ → Points) (a : Course) (t c l p : ℕ) (r : Rule) → t < r.delay →
    rule_grants n has h says a t c l p r ≡ true
unfolding rule_grants implies acts
rule_early n has h says a t c l p r lt = none (eqb r.target l) (ltb c h.sizes.nodes) (leb r.delay t) _ _ _ (lt-leb r.delay t lt)
  where
    none : (x y z u v w : Bool) → z ≡ false → implies (x && (y && z && u) && v) w ≡ true
    none true true z u v w e = rw e
    none true false z u v w e = refl
    none false y z u v w e = refl

module _ {S : Type 0} (n : ℕ) (has : S → Points) (h : House S) (a b : Course) where
  -- a test and a body hang on the cells of their component at their hour
  pub test_same : (t c i : ℕ) → ((l : ℕ) → Same (a t c l) (b t c l)) → test_met_lem n has h a t c i ≡ test_met_lem n has h b t c i
  test_same t c i ab =
      same_test _ _ (test_mono n has h b a t c i (λ l. same_turned (a t c l) (b t c l) (ab l))) (test_mono n has h a b t c i (λ l. same_among (a t c l) (b t c l) (ab l)))

  pub body_same : (t c : ℕ) (body : Body) → ((l : ℕ) → Same (a t c l) (b t c l)) → body_met_lem n has h a t c body ≡ body_met_lem n has h b t c body
  body_same t c body ab =
      same_test _ _ (body_mono n has h b a t c body (λ l. same_turned (a t c l) (b t c l) (ab l))) (body_mono n has h a b t c body (λ l. same_among (a t c l) (b t c l) (ab l)))

  -- x hangs on the hour that lies the delay before
  pub qualified_same : (r : Rule) (t v : ℕ) → ((u l : ℕ) → Same (a (t - r.delay) u l) (b (t - r.delay) u l)) → qualified n has h a r t v ≡ qualified n has h b r t v
  qualified_same r t v ab =
      let le = qualified_mono n has h a b r t v (λ u l. same_among (a (t - r.delay) u l) (b (t - r.delay) u l) (ab u l)) in
      let ge = qualified_mono n has h b a r t v (λ u l. same_turned (a (t - r.delay) u l) (b (t - r.delay) u l) (ab u l)) in
      omega (arith, le, ge)

  -- what a constraint grants hangs on the cells of the component at that hour
  pub constraint_same : (t c l p : ℕ) (k : Constraint) → ((j : ℕ) → Same (a t c j) (b t c j)) → constraint_grants n has h a t c l p k ≡ constraint_grants n has h b t c l p k
  unfolding constraint_grants
  constraint_same t c l p k ab = rw (body_same t c k.body ab)

  pub constraints_same : (t c l p : ℕ) → ((j : ℕ) → Same (a t c j) (b t c j)) →
      all_pass (constraint_grants n has h a t c l p) h.constraints.now ≡ all_pass (constraint_grants n has h b t c l p) h.constraints.now
  constraints_same t c l p ab = all_ext _ _ h.constraints.now (λ i lt k q. constraint_same t c l p k ab)

  -- what a rule grants hangs on the hour that lies the delay before
  pub rule_same : (says : ℕ → ℕ → ℕ → Points) (t c l p : ℕ) (r : Rule) → ((u j : ℕ) → Same (a (t - r.delay) u j) (b (t - r.delay) u j)) →
      rule_grants n has h says a t c l p r ≡ rule_grants n has h says b t c l p r
  unfolding rule_grants
  rule_same says t c l p r ab = rw (qualified_same r t c ab)

  -- so, as a delay is not 0, on earlier hours
  pub rule_same_before : (says : ℕ → ℕ → ℕ → Points) (t c l p : ℕ) (r : Rule) → 1 ≤ r.delay → ((t' u j : ℕ) → t' < t → Same (a t' u j) (b t' u j)) →
      rule_grants n has h says a t c l p r ≡ rule_grants n has h says b t c l p r
  rule_same_before says t c l p r one ab =
      ⊎_elim (λ lt. rule_early n has h says a t c l p r lt ∙ sym (rule_early n has h says b t c l p r lt))
      (λ le. rule_same says t c l p r (λ u j. ab (t - r.delay) u j (omega arith))) (cases_lt t r.delay)

  pub rules_same_before : (says : ℕ → ℕ → ℕ → Points) (t c l p : ℕ) → Every h.rules.now (λ r. 1 ≤ r.delay) → ((t' u j : ℕ) → t' < t → Same (a t' u j) (b t' u j)) →
      all_pass (rule_grants n has h says a t c l p) h.rules.now ≡ all_pass (rule_grants n has h says b t c l p) h.rules.now
  rules_same_before says t c l p delays ab = all_ext _ _ h.rules.now (λ i lt r q. rule_same_before says t c l p r (delays i lt r q) ab)

  -- what carrying grants hangs on the same cell an hour before
  pub carry_same : (filed : List (Fact S)) (t c l p : ℕ) → (1 ≤ t → Same (a (t - 1) c l) (b (t - 1) c l)) → carry_grants n has h filed a t c l p ≡ carry_grants n has h filed b t c l p
  unfolding carry_grants
  carry_same filed t c l p ab =
      ⊎_elim (λ z. let e : eqb t 0 ≡ true = eq-eqb t 0 z in rw e) (λ ne. rw (ab (omega arith) p)) (cases_eq t 0)

  -- what is granted at an hour hangs on the hours up to it
  pub granted_same : (says : ℕ → ℕ → ℕ → Points) (filed : List (Fact S)) (t : ℕ) → SameUpto t a b → (c l : ℕ) → Same (granted n has h says filed a t c l) (granted n has h says filed b t c l)
  unfolding granted
  granted_same says filed t ab c l p =
      rw (
        constraints_same t c l p (λ j. ab t c j (omega arith)),
        all_ext _ _ h.rules.now (λ i lt r q. rule_same says t c l p r (λ u j. ab (t - r.delay) u j (omega arith))),
        carry_same filed t c l p (λ _. ab (t - 1) c l (omega arith)),
      )
