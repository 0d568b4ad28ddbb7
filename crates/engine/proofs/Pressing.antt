-- Rules at an hour. Assumes nothing.
use Rattle.std.proofs.Common.{◌≡◌, ℕ, ◌+◌, ◌<◌, ◌≤◌, Bool, true, false, ◌&&◌, eqb, ltb, leb, List, length, get_or, take, sym, refl, ap, ◌∙◌, ⊎_elim, arith}
use Rattle.std.proofs.lemmas.Bool.{and_from, lt-ltb, le-ltb, le-leb, eq-eqb, ne_eqb, cases_eq, cond-true}
use Rattle.points.specs.Points.{Points, Same, implies}
use Rattle.points.specs.Tables.{all_pass}
use Rattle.book.specs.Meaning.{asked, answered}
use Rattle.house.specs.declared.tables.House.{House}
use Rattle.house.specs.declared.tables.Rule.{Rule}
use Rattle.fitting.specs.Course.{Course}
use Rattle.fitting.specs.Conditions.{holds}
use Rattle.fitting.specs.Neighbours.{eligibles, qualified}
use Rattle.fitting.specs.Touched.{acts}
use Rattle.fitting.specs.Step.{rule_grants}
use Rattle.fitting.proofs.Narrow.{qualified_le, eligibles_le}
use Rattle.fitting.proofs.Frame.{rule_early, rule_same_before}
use Rattle.writes.specs.Written.{Narrowed, on_cell, at_hour}
use Rattle.writes.proofs.Narrowing.{all_more, hour_more, narrowed_other}
use Rattle.engine.specs.Pressed.{on_those, rules_grant}
use Rattle.engine.proofs.Those.{those_other, those_none, those_cell, those_zero, those_more, those_all, hour_same, hour_free}

module _ {S : Type 0} (n : ℕ) (has : S → Points) (h : House S) (says : ℕ → ℕ → ℕ → Points) where
  -- what a rule grants
  abbrev pub granted_by : Rule → Course → Course
  granted_by r a t c l p = rule_grants n has h says a t c l p r

  -- where the condition does not hold, or no neighbour is eligible, a rule grants all
  pub off_pressed : (a : Course) (r : Rule) (hour node : ℕ) → holds n has h r.onto node ≡ false → Narrowed a (on_those hour (λ c. eqb c node) (granted_by r a)) a
  unfolding rule_grants acts implies
  off_pressed a r hour node off = those_none hour node a (granted_by r a) (λ l p. none (eqb r.target l) (ltb node h.sizes.nodes) (leb r.delay hour) (holds n has h r.onto node) _ _ off)
    where
      none : (e u v w x y : Bool) → w ≡ false → implies (e && (u && v && w) && x) y ≡ true
      none true true true w x y q = rw q
      none true true false w x y q = refl
      none true false v w x y q = refl
      none false u v w x y q = refl

  pub alone_pressed : (a : Course) (r : Rule) (hour node : ℕ) → eligibles n has h r node ≡ 0 → Narrowed a (on_those hour (λ c. eqb c node) (granted_by r a)) a
  unfolding rule_grants implies
  alone_pressed a r hour node zero' = those_none hour node a (granted_by r a) (λ l p. none (eqb r.target l && acts n has h hour node r) (ltb 0 (eligibles n has h r node)) _ (le-ltb 0 (eligibles n has h r node) (omega arith)))
    where
      none : (e x y : Bool) → x ≡ false → implies (e && x) y ≡ true
      none true x y q = rw q
      none false x y q = refl

  -- what the book answered
  pub pressed : (a b : Course) (r : Rule) (hour node formulas x y : ℕ) (bound : S) → h.sizes.nodes ≤ 200 → r.formula < formulas → r.delay ≤ hour → node < h.sizes.nodes →
      holds n has h r.onto node ≡ true → (y ≡ 0 → ⊥) → y ≡ eligibles n has h r node → x ≡ qualified n has h a r hour node → Same (has bound) (answered n formulas says r.formula x y) →
      Narrowed a (on_cell hour node r.target (has bound)) b → Narrowed a (on_those hour (λ c. eqb c node) (granted_by r a)) b
  unfolding rule_grants acts answered
  pressed a b r hour node formulas x y bound few book late here on some ey ex same narrow =
      those_cell hour node r.target (has bound) a b (granted_by r a) narrow
      (λ l p. pick (eqb r.target l) (eqb l r.target) (ltb node h.sizes.nodes) (leb r.delay hour) (holds n has h r.onto node) (ltb 0 (eligibles n has h r node)) _ _
      (turn r.target l) (lt-ltb node _ here) (le-leb r.delay hour late) on (lt-ltb 0 _ (omega arith)) (said p))
    where
      turn : (u v : ℕ) → eqb u v ≡ eqb v u
      turn u v = ⊎_elim (λ e. eq-eqb u v e ∙ sym (eq-eqb v u (sym e))) (λ ne. ne_eqb u v ne ∙ sym (ne_eqb v u (λ q. ne (sym q)))) (cases_eq u v)

      in_book : asked formulas r.formula x y ≡ true
      in_book =
          let le = qualified_le n has h a r hour node in
          let most = eligibles_le n has h r node in
          and_from _ _ (and_from _ _ (lt-ltb _ _ book) (le-leb x y (omega arith))) (le-leb y 200 (omega arith))

      said : (p : ℕ) → says r.formula (qualified n has h a r hour node) (eligibles n has h r node) p ≡ has bound p
      said p = sym (same p ∙ cond-true (asked formulas r.formula x y) (says r.formula x y p) (ltb p n) in_book ∙ (rw (ex, ey)))

      pick : (e e' u v w z s d : Bool) → e ≡ e' → u ≡ true → v ≡ true → w ≡ true → z ≡ true → s ≡ d → implies (e && (u && v && w) && z) s ≡ implies e' d
      pick e e' u v w z s d q₁ q₂ q₃ q₄ q₅ q₆ = rw (q₁, q₂, q₃, q₄, q₅, q₆) (ap (λ (b : Bool). implies b d) (both e'))
        where
          both : (b : Bool) → (b && true && true) ≡ b
          both true = refl
          both false = refl

  -- node by node
  pub nodes_none : (a : Course) (r : Rule) (hour : ℕ) → Narrowed a (on_those hour (λ c. ltb c 0) (granted_by r a)) a
  nodes_none a r hour = those_zero hour a (granted_by r a)

  pub nodes_more : (a b c : Course) (r : Rule) (hour k : ℕ) → 1 ≤ r.delay → Narrowed a (on_those hour (λ u. ltb u k) (granted_by r a)) b → Narrowed b (on_those hour (λ u. eqb u k) (granted_by r b)) c →
      Narrowed a (on_those hour (λ u. ltb u (k + 1)) (granted_by r a)) c
  nodes_more a b c r hour k one ab bc =
      those_more hour k a b c (granted_by r a) (granted_by r b) ab bc
      (λ u l p. rule_same_before n has h b a says hour u l p r one (λ t v j lt. those_other hour (λ u. ltb u k) a (granted_by r a) b ab t v j (λ e. omega arith)))

  pub nodes_all : (a b : Course) (r : Rule) (hour k : ℕ) → h.sizes.nodes ≤ k → Narrowed a (on_those hour (λ u. ltb u k) (granted_by r a)) b → Narrowed a (at_hour hour (granted_by r a)) b
  unfolding rule_grants acts implies
  nodes_all a b r hour k le ab =
      those_all hour k a b (granted_by r a) (λ c l p out. none (eqb r.target l) (ltb c h.sizes.nodes) (leb r.delay hour) _ _ _ (le-ltb c _ (omega arith))) ab
    where
      none : (e u v w x y : Bool) → u ≡ false → implies (e && (u && v && w) && x) y ≡ true
      none true u v w x y q = rw q
      none false u v w x y q = refl

  pub early_pressed : (a : Course) (r : Rule) (hour : ℕ) → hour < r.delay → Narrowed a (at_hour hour (granted_by r a)) a
  early_pressed a r hour lt = hour_free hour a (granted_by r a) (λ c l p. rule_early n has h says a hour c l p r lt)

  -- rule by rule
  pub rules_none : (a : Course) (rules : List Rule) (hour : ℕ) → Narrowed a (at_hour hour (rules_grant n has h says a (take 0 rules))) a
  unfolding rules_grant all_pass
  rules_none a rules hour = hour_free hour a (rules_grant n has h says a (take 0 rules)) (λ c l p. refl)

  pub rules_more : (a b c : Course) (rules : List Rule) (hour i : ℕ) (r : Rule) → i < length rules → r ≡ get_or rules i r → 1 ≤ r.delay → Narrowed a (at_hour hour (rules_grant n has h says a (take i rules))) b →
      Narrowed b (at_hour hour (granted_by r b)) c → Narrowed a (at_hour hour (rules_grant n has h says a (take (i + 1) rules))) c
  unfolding rules_grant
  rules_more a b c rules hour i r lt is one ab bc =
      hour_more hour a b c (rules_grant n has h says a (take i rules)) (granted_by r a) (rules_grant n has h says a (take (i + 1) rules)) ab
      (hour_same hour b c (granted_by r b) (granted_by r a) bc
      (λ u l p. rule_same_before n has h b a says hour u l p r one (λ t v j lt'. narrowed_other hour a (rules_grant n has h says a (take i rules)) b ab t v j (λ e. omega arith))))
      (λ t u l p. all_more (rule_grants n has h says a t u l p) rules i r lt is)
