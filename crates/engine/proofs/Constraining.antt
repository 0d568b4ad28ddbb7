-- Constraints at an hour. Assumes nothing.
use Rattle.std.proofs.Common.{◌≡◌, ℕ, ◌+◌, ◌<◌, ◌≤◌, Bool, true, false, not, ◌&&◌, ◌||◌, eqb, length, get_or, take, sym, refl, ap, ◌∙◌, subst, ⊎_elim, arith}
use Rattle.std.proofs.lemmas.Bool.{and_parts, and_from, and_cases, not-true, not-false, true≢false, both_ways, eqb-true, eq-eqb, ne_eqb, cases_lt, cases_eq}
use Rattle.std.proofs.lemmas.List.{take_all}
use Rattle.points.specs.Points.{Points, Among, Same, implies, within, count_below}
use Rattle.points.specs.Tables.{at_place, all_pass}
use Rattle.points.proofs.Decided.{implies_use, implies_from, each_use, each_from, within_decides}
use Rattle.points.proofs.Counted.{count_mono, count_le}
use Rattle.points.proofs.Summed.{count_same}
use Rattle.points.proofs.Tabled.{all_use, all_ext, at_mono, at_read, at_from}
use Rattle.house.specs.declared.tables.House.{House}
use Rattle.house.specs.declared.tables.Constraint.{Constraint}
use Rattle.house.specs.declared.tables.Test.{Test}
use Rattle.fitting.specs.Course.{Course, OfHouse}
use Rattle.fitting.specs.Tests.{body_met_lem}
use Rattle.fitting.specs.Step.{constraint_grants}
use Rattle.fitting.proofs.Narrow.{body_mono, constraint_mono}
use Rattle.fitting.proofs.Frame.{constraint_same, constraints_same}
use Rattle.fitting.proofs.Rest.{in_cell}
use Rattle.writes.specs.Written.{Narrowed, on_cell}
use Rattle.writes.proofs.Narrowing.{all_more, narrowed_within}
use Rattle.writes.proofs.CellSet.{within_all}
use Rattle.engine.specs.Pressed.{on_those}
use Rattle.engine.specs.Constrained.{Elsewhere, head_within, fires, spent, spent_count, Resting, Constrained}
use Rattle.engine.proofs.Those.{those_none, those_cell, those_else}

-- a count rises where one more passes
count_rises : (n : ℕ) (f g : ℕ → Bool) (i : ℕ) → ((k : ℕ) → k < n → f k ≡ true → g k ≡ true) → i < n → f i ≡ false → g i ≡ true → count_below n f < count_below n g
count_rises n f g i all lt off on =
    ⊎_elim (λ less. less) (λ le. absurd (both_ways (f i) off (count_same n f g all le i lt on))) (cases_lt (count_below n f) (count_below n g))

within_mono : (n : ℕ) (a b bound : Points) → Among a b → within n b bound ≡ true → within n a bound ≡ true
unfolding within
within_mono n a b bound ab e = each_from n _ (λ p l. implies_from (a p) (bound p) (λ x. implies_use (b p) (bound p) (each_use n _ e p l) (ab p x)))

module _ {S : Type 0} (n : ℕ) (has : S → Points) (h : House S) where
  -- what a constraint grants
  abbrev pub granted_by : Constraint → Course → Course
  granted_by k a t c l p = constraint_grants n has h a t c l p k

  -- a constraint that does not fire grants what there is
  pub still_grants : (a : Course) (t c : ℕ) (k : Constraint) → OfHouse h.sizes n a → fires n has h a t c k ≡ false → (l p : ℕ) → a t c l p ≡ true → constraint_grants n has h a t c l p k ≡ true
  unfolding fires head_within constraint_grants
  still_grants a t c k of' off l p x =
      ⊎_elim (λ unmet. implies_from (body_met_lem n has h a t c k.body) _ (λ m. absurd (both_ways _ unmet m)))
      (λ in'. implies_from (body_met_lem n has h a t c k.body) _
      (λ m. at_mono true _ _ h.tests.now k.head
      (λ head w. implies_from (eqb head.label l) (has head.bound p)
      (λ same. (within_decides n (a t c head.label) (has head.bound) (λ q y. (in_cell h.sizes n t c head.label q (of' t c head.label q y)).1)).0 w p (rw (eqb-true head.label l same) x)))
      (not-false _ in')))
      (and_cases (body_met_lem n has h a t c k.body) _ off)

  -- applying one constraint
  pub absent_applied : (a : Course) (hour component : ℕ) (k : Constraint) → length h.tests.now ≤ k.head → Narrowed a (on_those hour (λ c. eqb c component) (granted_by k a)) a
  unfolding constraint_grants
  absent_applied a hour component k le =
      those_none hour component a (granted_by k a) (λ l p. implies_from (body_met_lem n has h a hour component k.body) _ (λ _. at_from _ h.tests.now k.head (λ lt. absurd (omega arith))))

  pub unmet_applied : (a : Course) (hour component : ℕ) (k : Constraint) → body_met_lem n has h a hour component k.body ≡ false → Narrowed a (on_those hour (λ c. eqb c component) (granted_by k a)) a
  unfolding constraint_grants
  unmet_applied a hour component k off = those_none hour component a (granted_by k a) (λ l p. implies_from (body_met_lem n has h a hour component k.body) _ (λ m. absurd (both_ways _ off m)))

  pub absent_still : (a : Course) (t c : ℕ) (k : Constraint) → length h.tests.now ≤ k.head → false ≡ fires n has h a t c k
  unfolding fires head_within
  absent_still a t c k le = sym (right (body_met_lem n has h a t c k.body) _ (at_from _ h.tests.now k.head (λ lt. absurd (omega arith))))
    where
      right : (x y : Bool) → y ≡ true → (x && not y) ≡ false
      right true y e = rw e
      right false y e = refl

  pub unmet_still : (a : Course) (t c : ℕ) (k : Constraint) → body_met_lem n has h a t c k.body ≡ false → false ≡ fires n has h a t c k
  unfolding fires
  unmet_still a t c k off = sym (left _ _ off)
    where
      left : (x y : Bool) → x ≡ false → (x && y) ≡ false
      left x y e = rw e

  pub met_applied : (a b : Course) (hour component : ℕ) (k : Constraint) (head : Test S) → k.head < length h.tests.now → head ≡ get_or h.tests.now k.head head → body_met_lem n has h a hour component k.body ≡ true →
      Narrowed a (on_cell hour component head.label (has head.bound)) b → Narrowed a (on_those hour (λ c. eqb c component) (granted_by k a)) b
  unfolding constraint_grants implies
  met_applied a b hour component k head lt is met narrow =
      those_cell hour component head.label (has head.bound) a b (granted_by k a) narrow
      (λ l p. rw (met, at_read true (λ x. implies (eqb x.label l) (has x.bound p)) h.tests.now k.head head lt is) (ap (λ (b : Bool). not b || has head.bound p) (turn head.label l)))
    where
      turn : (u v : ℕ) → eqb u v ≡ eqb v u
      turn u v = ⊎_elim (λ e. eq-eqb u v e ∙ sym (eq-eqb v u (sym e))) (λ ne. ne_eqb u v ne ∙ sym (ne_eqb v u (λ q. ne (sym q)))) (cases_eq u v)

  pub met_fires : (a : Course) (t c : ℕ) (k : Constraint) (head : Test S) (r : Bool) → k.head < length h.tests.now → head ≡ get_or h.tests.now k.head head → body_met_lem n has h a t c k.body ≡ true →
      r ≡ not (within n (a t c head.label) (has head.bound)) → r ≡ fires n has h a t c k
  unfolding fires head_within
  met_fires a t c k head r lt is met e = e ∙ sym (rw (met, at_read true (λ x. within n (a t c x.label) (has x.bound)) h.tests.now k.head head lt is))

  -- constraints that are spent stay spent, and one that fires is spent then
  spent_stays : (a b : Course) (t c : ℕ) (k : Constraint) → ((l : ℕ) → Among (b t c l) (a t c l)) → spent n has h a t c k ≡ true → spent n has h b t c k ≡ true
  unfolding spent head_within
  spent_stays a b t c k ba e =
      let both = and_parts (body_met_lem n has h a t c k.body) _ e in
      and_from _ _ (body_mono n has h b a t c k.body ba both.0)
      (at_mono true _ _ h.tests.now k.head (λ head w. within_mono n (b t c head.label) (a t c head.label) (has head.bound) (ba head.label) w) both.1)

  fires_unspent : (a : Course) (t c : ℕ) (k : Constraint) → fires n has h a t c k ≡ true → spent n has h a t c k ≡ false
  unfolding fires spent
  fires_unspent a t c k e =
      let both = and_parts (body_met_lem n has h a t c k.body) _ e in
      last (body_met_lem n has h a t c k.body) _ (not-true _ both.1)
    where
      last : (x y : Bool) → y ≡ false → (x && y) ≡ false
      last true y q = q
      last false y q = refl

  fires_spends : (a b : Course) (t c : ℕ) (k : Constraint) → Narrowed a (on_those t (λ u. eqb u c) (granted_by k a)) b → fires n has h a t c k ≡ true → spent n has h b t c k ≡ true
  unfolding fires spent head_within constraint_grants Narrowed on_those
  fires_spends a b t c k narrow e =
      let met = (and_parts (body_met_lem n has h a t c k.body) _ e).0 in
      and_from _ _ (body_mono n has h b a t c k.body (λ l p x. (and_parts (a t c l p) _ (sym (narrow t c l p) ∙ x)).0) met)
      (at_from _ h.tests.now k.head
      (λ lt head is. within_all n (b t c head.label) (has head.bound)
      (λ p x. let granted' = implies_use (eqb t t && eqb c c) _ (and_parts (a t c head.label p) _ (sym (narrow t c head.label p) ∙ x)).1 (and_from _ _ (eq-eqb t t refl) (eq-eqb c c refl)) in
      let at = implies_use (body_met_lem n has h a t c k.body) _ granted' met in
      implies_use (eqb head.label head.label) (has head.bound p) (sym (at_read true (λ y. implies (eqb y.label head.label) (has y.bound p)) h.tests.now k.head head lt is) ∙ at) (eq-eqb head.label head.label refl))))

  spends_mono : (a b : Course) (t c : ℕ) → ((l : ℕ) → Among (b t c l) (a t c l)) → (i : ℕ) → i < length h.constraints.now →
      at_place false (spent n has h a t c) h.constraints.now i ≡ true → at_place false (spent n has h b t c) h.constraints.now i ≡ true
  spends_mono a b t c ba i lt e = at_mono false _ _ h.constraints.now i (λ k. spent_stays a b t c k ba) e

  -- narrowing hour by hour
  pub constrained_none : (hour : ℕ) (a : Course) → Constrained n has h hour a a
  constrained_none hour a = record { elsewhere = λ t c l ne p. refl; narrower = λ t c l p e. e; keeps = λ x in' rest. in' }

  pub constrained_then : (hour : ℕ) (a b c : Course) → Constrained n has h hour a b → Constrained n has h hour b c → Constrained n has h hour a c
  constrained_then hour a b c ab bc =
      record {
        elsewhere = λ t u l ne p. bc.elsewhere t u l ne p ∙ ab.elsewhere t u l ne p;
        narrower = λ t u l p e. ab.narrower t u l p (bc.narrower t u l p e);
        keeps = λ x in' rest. bc.keeps x (ab.keeps x in' rest) rest;
      }

  pub elsewhere_then : (hour component : ℕ) (a b c : Course) → Elsewhere hour component a b → Elsewhere hour component b c → Elsewhere hour component a c
  elsewhere_then hour component a b c ab bc t u l ne p = bc t u l ne p ∙ ab t u l ne p

  one_constrained : (hour component i : ℕ) (k : Constraint) (a b : Course) → i < length h.constraints.now → k ≡ get_or h.constraints.now i k → Narrowed a (on_those hour (λ c. eqb c component) (granted_by k a)) b → Constrained n has h hour a b
  unfolding Resting Narrowed on_those
  one_constrained hour component i k a b lt is narrow =
      record {
        elsewhere = λ t c l ne. those_else hour component a (granted_by k a) b narrow t c l (λ e _. ne e);
        narrower = narrowed_within a (on_those hour (λ c. eqb c component) (granted_by k a)) b narrow;
        keeps = λ x in' rest c l p e. narrow hour c l p ∙ and_from (a hour c l p) _ (in' c l p e)
            (implies_from (eqb hour hour && eqb c component) _ (λ _. constraint_mono n has h x a hour c l p k (in' c) (all_use _ h.constraints.now (rest c l p e) i lt k is)));
      }

  -- the constraints of a table before a place grant what there is
  unfoldable pub RestingBelow : ℕ → ℕ → ℕ → Course → Type 0
  RestingBelow i t c a = (l p : ℕ) → a t c l p ≡ true → all_pass (constraint_grants n has h a t c l p) (take i h.constraints.now) ≡ true

  -- a pass that has come to a place
  pub record Passed (hour component : ℕ) (a : Course) (i : ℕ) (fired : Bool) (b : Course) : Type 0 where
    pub narrowed : Constrained n has h hour a b
    pub elsewhere : Elsewhere hour component a b
    pub rests : fired ≡ false → RestingBelow i hour component b
    pub spends : spent_count n has h a hour component ≤ spent_count n has h b hour component
    pub more : fired ≡ true → spent_count n has h a hour component < spent_count n has h b hour component

  pub passed_none : (hour component : ℕ) (a : Course) → Passed hour component a 0 false a
  unfolding RestingBelow all_pass
  passed_none hour component a =
      record { narrowed = constrained_none hour a; elsewhere = λ t c l ne p. refl; rests = λ _ l p e. refl; spends = omega arith; more = λ e. absurd (true≢false (sym e)) }

  module _ (hour component : ℕ) (a b c : Course) (i : ℕ) (k : Constraint) (fired : Bool) (lt : i < length h.constraints.now) (is : k ≡ get_or h.constraints.now i k)
      (of' : OfHouse h.sizes n b) (so_far : Passed hour component a i fired b) (narrow : Narrowed b (on_those hour (λ u. eqb u component) (granted_by k b)) c) where
    row_narrower : (l : ℕ) → Among (c hour component l) (b hour component l)
    row_narrower l = narrowed_within b (on_those hour (λ u. eqb u component) (granted_by k b)) c narrow hour component l

    pub passed_fires : true ≡ fires n has h b hour component k → Passed hour component a (i + 1) true c
    unfolding spent_count
    passed_fires e =
        let rises : spent_count n has h b hour component < spent_count n has h c hour component =
        count_rises (length h.constraints.now) _ _ i (spends_mono b c hour component row_narrower) lt
        (at_read false (spent n has h b hour component) h.constraints.now i k lt is ∙ fires_unspent b hour component k (sym e))
        (at_read false (spent n has h c hour component) h.constraints.now i k lt is ∙ fires_spends b c hour component k narrow (sym e)) in
        record {
          narrowed = constrained_then hour a b c so_far.narrowed (one_constrained hour component i k b c lt is narrow);
          elsewhere = elsewhere_then hour component a b c so_far.elsewhere (those_else hour component b (granted_by k b) c narrow);
          rests = λ q. absurd (true≢false q);
          spends = omega (arith, so_far.spends);
          more = λ _. omega (arith, so_far.spends);
        }

    -- nothing was removed
    same_row : false ≡ fires n has h b hour component k → (l : ℕ) → Same (b hour component l) (c hour component l)
    unfolding Narrowed on_those
    same_row e l p =
        same (b hour component l p) (c hour component l p) (row_narrower l p)
        (λ x. narrow hour component l p ∙ and_from (b hour component l p) _ x (implies_from (eqb hour hour && eqb component component) _ (λ _. still_grants b hour component k of' (sym e) l p x)))
      where
        same : (x y : Bool) → (y ≡ true → x ≡ true) → (x ≡ true → y ≡ true) → x ≡ y
        same x true to from = to refl
        same true false to from = absurd (true≢false (sym (from refl)))
        same false false to from = refl

    pub passed_still : false ≡ fires n has h b hour component k → Passed hour component a (i + 1) fired c
    unfolding RestingBelow spent_count
    passed_still e =
        let falls : spent_count n has h b hour component ≤ spent_count n has h c hour component = count_mono (length h.constraints.now) _ _ (spends_mono b c hour component row_narrower) in
        record {
          narrowed = constrained_then hour a b c so_far.narrowed (one_constrained hour component i k b c lt is narrow);
          elsewhere = elsewhere_then hour component a b c so_far.elsewhere (those_else hour component b (granted_by k b) c narrow);
          rests = λ q l p x.
              let y = same_row e l p ∙ x in
              let each = and_from _ _ (so_far.rests q l p y) (still_grants b hour component k of' (sym e) l p y) in
              sym (all_ext _ _ (take (i + 1) h.constraints.now) (λ j m r w. constraint_same n has h b c hour component l p r (same_row e))) ∙ (all_more (constraint_grants n has h b hour component l p) h.constraints.now i k lt is ∙ each);
          spends = omega (arith, so_far.spends);
          more = λ q. omega (arith, so_far.more q);
        }

  pub passed_rests : (hour component : ℕ) (a b : Course) (i : ℕ) (fired : Bool) → length h.constraints.now ≤ i → Passed hour component a i fired b → fired ≡ false → Resting n has h hour component b
  unfolding Resting RestingBelow
  passed_rests hour component a b i fired le all off l p x =
      ap (all_pass (constraint_grants n has h b hour component l p)) (sym (take_all i h.constraints.now le)) ∙ all.rests off l p x

  pub spent_few : (a : Course) (t c : ℕ) → spent_count n has h a t c ≤ length h.constraints.now
  unfolding spent_count
  spent_few a t c = count_le (length h.constraints.now) _

  -- a component at rest stays so while others are narrowed
  pub resting_same : (hour c : ℕ) (a b : Course) → ((l : ℕ) → Same (b hour c l) (a hour c l)) → Resting n has h hour c a → Resting n has h hour c b
  unfolding Resting
  resting_same hour c a b same rest l p e = constraints_same n has h b a hour c l p same ∙ rest l p (sym (same l p) ∙ e)

  pub resting_more : (hour k : ℕ) (a b : Course) → ((c : ℕ) → c < k → Resting n has h hour c a) → Elsewhere hour k a b → Resting n has h hour k b → (c : ℕ) → c < k + 1 → Resting n has h hour c b
  resting_more hour k a b before else' here c lt =
      ⊎_elim (λ e. subst (λ (u : ℕ). Resting n has h hour u b) (sym e) here) (λ ne. resting_same hour c a b (λ l. else' hour c l (λ _ q. ne q)) (before c (omega arith))) (cases_eq c k)
