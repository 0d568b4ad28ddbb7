-- What conditions, eligibility and touching come to. Assumes nothing.
use Rattle.std.proofs.Common.{◌≡◌, ℕ, zero, suc, ◌+◌, ◌<◌, ◌≤◌, Bool, true, false, cond, not, ◌&&◌, eqb, ltb, leb, ◌≢◌, List, length, get_or, sym, refl, ap, ◌∙◌, ⊎_elim, eq-or-lt_of_le, arith}
use Rattle.std.proofs.lemmas.Bool.{eq-eqb, ne_eqb, eqb-true, eqb-false, ltb-true, lt-ltb, leb-true, le-leb, cond-true, cond-false, and_parts, and_from, or_parts, or_from, cases_Bool, both_ways}
use Rattle.points.specs.Points.{Points, Iff}
use Rattle.points.specs.Tables.{Every, one_passes}
use Rattle.points.proofs.Counted.{some_use, some_from}
use Rattle.points.proofs.Tabled.{at_read, at-get_or, none_use, none_from}
use Rattle.house.specs.declared.tables.House.{House}
use Rattle.house.specs.declared.tables.Fact.{Fact}
use Rattle.house.specs.declared.tables.Rule.{Rule}
use Rattle.house.specs.declared.tables.Condition.{Condition}
use Rattle.house.specs.declared.tables.Kind.{Kind}
use Rattle.house.specs.declared.tables.Kind.TheVariants.{Test, Not, Both, Either, Unknown}
use Rattle.house.specs.Cells.{covers}
use Rattle.house.specs.Kinds.{names_first, names_second}
use Rattle.fitting.specs.Conditions.{of_kind, fixed_met_lem, verdict, said, holds}
use Rattle.fitting.specs.Neighbours.{leads, eligible}
use Rattle.fitting.specs.Edges.{edge_at}
use Rattle.fitting.specs.Touched.{acts, touched}
use Rattle.fitting.specs.Laws.{Feeds}

-- a kind looks only at what it names
kind_same : (kind : Kind) (test : Bool) {a a' b b' : Bool} → (names_first kind ≡ true → a ≡ a') → (names_second kind ≡ true → b ≡ b') → of_kind kind test a b ≡ of_kind kind test a' b'
kind_same Test test first second = refl
kind_same Not test first second = ap not (first refl)
kind_same Both test first second = rw (first refl, second refl)
kind_same Either test first second = rw (first refl, second refl)
kind_same (Unknown m) test first second = rw (first refl, second refl)

module _ {S : Type 0} (n : ℕ) (has : S → Points) (h : House S) (c : ℕ) where
  -- a verdict looks only at the conditions that it names
  pub verdict_same : (f g : ℕ → Bool) (k : Condition) → (names_first k.kind ≡ true → f k.a ≡ g k.a) → (names_second k.kind ≡ true → f k.b ≡ g k.b) → verdict n has h c f k ≡ verdict n has h c g k
  unfolding verdict
  verdict_same f g k first second = kind_same k.kind (fixed_met_lem n has h c k.a) first second

  -- the condition that comes next, by the earlier ones
  pub said_here : (m : ℕ) (k : Condition) → m < length h.conditions.now → k ≡ get_or h.conditions.now m k → said n has h c (suc m) m ≡ verdict n has h c (said n has h c m) k
  unfolding said
  said_here m k lt is = cond-true (eqb m m) _ _ (eq-eqb m m refl) ∙ at_read false (verdict n has h c (said n has h c m)) h.conditions.now m k lt is

  pub said_before : (m i : ℕ) → i ≢ m → said n has h c (suc m) i ≡ said n has h c m i
  unfolding said
  said_before m i ne = cond-false (eqb i m) _ _ (ne_eqb i m ne)

  -- later conditions change nothing of what an earlier one says
  pub said_stays : (m i j : ℕ) → i < j → j ≤ m → said n has h c m i ≡ said n has h c j i
  said_stays zero i j lt le = absurd (omega arith)
  said_stays (suc m) i j lt le =
      ⊎_elim (λ e. ap (λ (k : ℕ). said n has h c k i) (sym e)) (λ less. said_before m i (λ q. omega arith) ∙ said_stays m i j lt (omega arith)) (eq-or-lt_of_le le)

  pub said_by_kind : (i : ℕ) (k : Condition) → i < length h.conditions.now → k ≡ get_or h.conditions.now i k → (names_first k.kind ≡ true → k.a < i) → (names_second k.kind ≡ true → k.b < i) →
      said n has h c (length h.conditions.now) i ≡ verdict n has h c (said n has h c (length h.conditions.now)) k
  said_by_kind i k lt is first second =
      said_stays (length h.conditions.now) i (suc i) (omega arith) (omega arith) ∙ said_here i k lt is
      ∙ verdict_same (said n has h c i) (said n has h c (length h.conditions.now)) k
      (λ one. sym (said_stays (length h.conditions.now) k.a i (first one) (omega arith)))
      (λ two. sym (said_stays (length h.conditions.now) k.b i (second two) (omega arith)))

module _ {S : Type 0} (n : ℕ) (has : S → Points) (h : House S) where
  leads_is : (e u v : ℕ) → e < length h.edges.now → leads h e u v ≡ (eqb (edge_at h.edges.now e).from u && eqb (edge_at h.edges.now e).to v)
  unfolding leads
  leads_is e u v l = at-get_or false (λ edge. eqb edge.from u && eqb edge.to v) h.edges.now e (record { from = 0; to = 0 }) l

  pub eligible_means : (r : Rule) (u v : ℕ) → Iff (eligible n has h r u v ≡ true) (Feeds n has h r u v)
  unfolding eligible
  eligible_means r u v = (
    (λ e. let both = and_parts (holds n has h r.source u) _ e in
        let found = some_use (length h.edges.now) _ both.1 in
        let edge = and_parts (leads h found.0 u v) (holds n has h r.along (h.sizes.nodes + found.0)) found.2 in
        let ends = and_parts (eqb (edge_at h.edges.now found.0).from u) (eqb (edge_at h.edges.now found.0).to v) (sym (leads_is found.0 u v found.1) ∙ edge.0) in
        record { source_holds = both.0; edge = found.0; is_edge = found.1; leaves = eqb-true _ u ends.0; arrives = eqb-true _ v ends.1; along_holds = edge.1 }),
    λ f. and_from (holds n has h r.source u) _ f.source_holds
        (some_from (length h.edges.now) _ f.edge f.is_edge
        (and_from _ _ (leads_is f.edge u v f.is_edge ∙ and_from _ _ (eq-eqb _ u f.leaves) (eq-eqb _ v f.arrives)) f.along_holds)),
  )

  pub untouched_means : (filed : List (Fact S)) (t c l : ℕ) → Iff (touched n has h filed t c l ≡ false)
      (Every filed (λ f. covers t c l f ≡ false) × Every h.rules.now (λ r. r.target ≡ l → c < h.sizes.nodes → r.delay ≤ t → holds n has h r.onto c ≡ true → ⊥))
  unfolding touched acts
  untouched_means filed t c l = (
    (λ e. let none = or_parts (one_passes (covers t c l) filed) _ e in (
      none_use (covers t c l) filed none.0,
      λ i lt r q same node late on.
          both_ways _ (none_use _ h.rules.now none.1 i lt r q)
          (and_from _ _ (eq-eqb r.target l same) (and_from _ _ (and_from _ _ (lt-ltb c _ node) (le-leb r.delay t late)) on)),
    )),
    λ none. or_from _ _ (none_from (covers t c l) filed none.0)
        (none_from _ h.rules.now (λ i lt r q. ⊎_elim
        (λ yes'. let one = and_parts (eqb r.target l) _ yes' in
        let on = and_parts (ltb c h.sizes.nodes && leb r.delay t) (holds n has h r.onto c) one.1 in
        let late = and_parts (ltb c h.sizes.nodes) (leb r.delay t) on.0 in
        absurd (none.1 i lt r q (eqb-true r.target l one.0) (ltb-true c _ late.0) (leb-true r.delay t late.1) on.1))
        (λ no'. no') (cases_Bool (eqb r.target l && (ltb c h.sizes.nodes && leb r.delay t && holds n has h r.onto c))))),
  )
