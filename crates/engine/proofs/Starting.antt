-- How an hour begins, seen as a course. Assumes nothing.
use Rattle.std.proofs.Common.{◌≡◌, ℕ, zero, suc, ◌+◌, ◌-◌, ◌<◌, ◌≤◌, Bool, true, false, cond, ◌&&◌, ◌||◌, eqb, ltb, leb, List, [], ◌∷◌, length, get_or, take, sym, refl, ap, ◌∙◌, ⊎_elim, arith}
use Rattle.std.proofs.lemmas.Bool.{and_parts, and_from, and_left, eq-eqb, ne_eqb, lt-ltb, le-ltb, le-leb, lt-leb, cases_Bool, cases_lt, cases_eq}
use Rattle.points.specs.Points.{Points, Same}
use Rattle.points.specs.Tables.{Every, at_place, one_passes}
use Rattle.house.specs.declared.tables.Sizes.{Sizes}
use Rattle.house.specs.declared.tables.House.{House}
use Rattle.house.specs.declared.tables.Fact.{Fact}
use Rattle.house.specs.declared.tables.Rule.{Rule}
use Rattle.house.specs.Cells.{inside, place}
use Rattle.house.proofs.Places.{inside_use, inside_from, place_lt}
use Rattle.fitting.specs.Course.{Course, OfHouse, loosest, course_of}
use Rattle.fitting.specs.Conditions.{holds}
use Rattle.fitting.specs.Touched.{acts, touched}
use Rattle.fitting.specs.Step.{carry_grants}
use Rattle.writes.specs.Written.{Whole, Freed, one_cell, covered, Repeats}
use Rattle.writes.proofs.Narrowing.{one_more, freed_none, freed_as, freed_then, freed_other, freed_here, repeats_other, repeats_here}
use Rattle.engine.specs.Started.{touches, ruled, Started}
use Rattle.engine.specs.Voids.{AllLoose}

-- what is loose an hour before is loose at an hour up to the last
next_loose : (s : Sizes) (n t c l p : ℕ) → t ≤ s.last → loosest s n (t - 1) c l p ≡ true → loosest s n t c l p ≡ true
unfolding loosest
next_loose s n t c l p le e =
    let both = and_parts (inside s (t - 1) c l) (ltb p n) e in
    let i = inside_use s (t - 1) c l both.0 in
    and_from _ _ (inside_from s t c l (record { hour = le; component = i.component; fixed = i.fixed; moving = i.moving })) both.1

-- one number more is below a limit
pub step_other : (u k : ℕ) → (u ≡ k → ⊥) → ltb u (k + 1) ≡ ltb u k
step_other u k ne = ⊎_elim (λ lt. lt-ltb u (k + 1) (omega arith) ∙ sym (lt-ltb u k lt)) (λ le. le-ltb u (k + 1) (omega arith) ∙ sym (le-ltb u k le)) (cases_lt u k)

module _ {S : Type 0} (n : ℕ) (has : S → Points) (h : House S) where
  -- the nodes below a limit on which a rule touches its target
  unfoldable pub touches_below : Rule → ℕ → ℕ → ℕ → ℕ → Bool
  touches_below r hour limit c l = ltb c limit && touches n has h r hour c l

  pub below_none : (r : Rule) (hour : ℕ) (a : Course) → Freed h.sizes n hour (touches_below r hour 0) a a
  unfolding touches_below
  below_none r hour a = freed_none h.sizes n hour (touches_below r hour 0) a (λ c l. and_left _ _ (le-ltb c 0 (omega arith)))

  pub below_held : (r : Rule) (hour k : ℕ) (a b c : Course) → r.delay ≤ hour → k < h.sizes.nodes → holds n has h r.onto k ≡ true →
      Freed h.sizes n hour (touches_below r hour k) a b → Freed h.sizes n hour (one_cell k r.target) b c → Freed h.sizes n hour (touches_below r hour (k + 1)) a c
  unfolding touches_below touches acts one_cell
  below_held r hour k a b c late node on ab bc =
      freed_then h.sizes n hour (touches_below r hour k) (one_cell k r.target) (touches_below r hour (k + 1)) a b c ab bc
      (λ u l. ⊎_elim
      (λ e. at_node _ _ _ _ _ _ _ _ (rw e (lt-ltb k (k + 1) (omega arith))) (rw e (le-ltb k k (omega arith))) (rw e (lt-ltb k _ node)) (le-leb r.delay hour late) (rw e on) (eq-eqb u k e) (turn r.target l))
      (λ ne. off_node _ _ _ _ _ (step_other u k ne) (ne_eqb u k ne)) (cases_eq u k))
    where
      turn : (x y : ℕ) → eqb x y ≡ eqb y x
      turn x y = ⊎_elim (λ e. eq-eqb x y e ∙ sym (eq-eqb y x (sym e))) (λ ne. ne_eqb x y ne ∙ sym (ne_eqb y x (λ q. ne (sym q)))) (cases_eq x y)

      at_node : (lim' lim label node' late' on' here label' : Bool) → lim' ≡ true → lim ≡ false → node' ≡ true → late' ≡ true → on' ≡ true → here ≡ true → label ≡ label' →
          (lim' && (label && (node' && late' && on'))) ≡ ((lim && (label && (node' && late' && on'))) || (here && label'))
      at_node lim' lim label node' late' on' here label' e₁ e₂ e₃ e₄ e₅ e₆ e₇ = rw (e₁, e₂, e₃, e₄, e₅, e₆, e₇) (all label')
        where
          all : (x : Bool) → (x && true) ≡ x
          all true = refl
          all false = refl

      off_node : (lim' lim x here label' : Bool) → lim' ≡ lim → here ≡ false → (lim' && x) ≡ ((lim && x) || (here && label'))
      off_node lim' lim x here label' e₁ e₂ = rw (e₁, e₂) (or_none (lim && x))
        where
          or_none : (y : Bool) → y ≡ (y || false)
          or_none true = refl
          or_none false = refl

  pub below_free : (r : Rule) (hour k : ℕ) (a b : Course) → holds n has h r.onto k ≡ false →
      Freed h.sizes n hour (touches_below r hour k) a b → Freed h.sizes n hour (touches_below r hour (k + 1)) a b
  unfolding touches_below touches acts
  below_free r hour k a b off ab = freed_as h.sizes n hour (touches_below r hour k) (touches_below r hour (k + 1)) a b ab (λ u l. ⊎_elim (same u l) (other u l) (cases_eq u k))
    where
      none : (x y z w v : Bool) → v ≡ false → (x && (y && (z && w && v))) ≡ false
      none true true true true v e = e
      none true true true false v e = refl
      none true true false w v e = refl
      none true false z w v e = refl
      none false y z w v e = refl

      same : (u l : ℕ) → u ≡ k → touches_below r hour k u l ≡ touches_below r hour (k + 1) u l
      same u l e =
          let off' : holds n has h r.onto u ≡ false = rw e off in
          none (ltb u k) (eqb r.target l) (ltb u h.sizes.nodes) (leb r.delay hour) (holds n has h r.onto u) off'
          ∙ sym (none (ltb u (k + 1)) (eqb r.target l) (ltb u h.sizes.nodes) (leb r.delay hour) (holds n has h r.onto u) off')

      other : (u l : ℕ) → (u ≡ k → ⊥) → touches_below r hour k u l ≡ touches_below r hour (k + 1) u l
      other u l ne = ap (λ (x : Bool). x && touches n has h r hour u l) (sym (step_other u k ne))

  pub below_all : (r : Rule) (hour k : ℕ) (a b : Course) → h.sizes.nodes ≤ k → Freed h.sizes n hour (touches_below r hour k) a b → Freed h.sizes n hour (touches n has h r hour) a b
  unfolding touches_below touches acts
  below_all r hour k a b le ab =
      freed_as h.sizes n hour (touches_below r hour k) (touches n has h r hour) a b ab
      (λ u l. ⊎_elim (λ lt. ap (λ (x : Bool). x && touches n has h r hour u l) (lt-ltb u k lt)) (λ out. let x : ltb u k ≡ false = le-ltb u k out in let y : ltb u h.sizes.nodes ≡ false = le-ltb u _ (omega arith) in rw (x, y) (none (eqb r.target l))) (cases_lt u k))
    where
      none : (x : Bool) → false ≡ (x && false)
      none true = refl
      none false = refl

  -- before its delay a rule touches nothing
  pub early_frees : (r : Rule) (hour : ℕ) (a : Course) → hour < r.delay → Freed h.sizes n hour (touches n has h r hour) a a
  unfolding touches acts
  early_frees r hour a lt = freed_none h.sizes n hour (touches n has h r hour) a (λ c l. none (eqb r.target l) (ltb c h.sizes.nodes) (leb r.delay hour) _ (lt-leb r.delay hour lt))
    where
      none : (x y z w : Bool) → z ≡ false → (x && (y && z && w)) ≡ false
      none true true z w e = rw e
      none true false z w e = refl
      none false y z w e = refl

  -- rule by rule
  pub ruled_none : (rules : List Rule) (hour : ℕ) (a : Course) → Freed h.sizes n hour (ruled n has h (take 0 rules) hour) a a
  unfolding ruled one_passes
  ruled_none rules hour a = freed_none h.sizes n hour (ruled n has h (take 0 rules) hour) a (λ c l. refl)

  pub ruled_more : (rules : List Rule) (hour i : ℕ) (r : Rule) (a b c : Course) → i < length rules → r ≡ get_or rules i r →
      Freed h.sizes n hour (ruled n has h (take i rules) hour) a b → Freed h.sizes n hour (touches n has h r hour) b c → Freed h.sizes n hour (ruled n has h (take (i + 1) rules) hour) a c
  unfolding ruled
  ruled_more rules hour i r a b c lt is ab bc =
      freed_then h.sizes n hour (ruled n has h (take i rules) hour) (touches n has h r hour) (ruled n has h (take (i + 1) rules) hour) a b c ab bc
      (λ u l. one_more (λ s. touches n has h s hour u l) rules i r lt is)

  -- an hour after hour 0
  pub later_started : (filed : List (Fact S)) (hour : ℕ) (a b c d : Course) → OfHouse h.sizes n a → 1 ≤ hour → hour ≤ h.sizes.last → Repeats hour a b →
      Freed h.sizes n hour (covered filed hour) b c → Freed h.sizes n hour (ruled n has h h.rules.now hour) c d → Started n has h filed hour a d
  unfolding covered ruled touches carry_grants touched
  later_started filed hour a b c d of' one last ab bc cd =
      record {
        earlier = λ t u l lt p. sym (freed_other _ _ _ _ c d cd t u l (λ e. omega arith) p ∙ freed_other _ _ _ _ b c bc t u l (λ e. omega arith) p ∙ repeats_other hour a b ab t u l (λ e. omega arith) p);
        begins = λ u l p.
            freed_here _ _ hour _ c d cd u l p ∙ ap (cond (ruled n has h h.rules.now hour u l) _) (freed_here _ _ hour _ b c bc u l p ∙ ap (cond (covered filed hour u l) _) (repeats_here hour a b ab u l p))
            ∙ pick (eqb hour 0) (covered filed hour u l) (ruled n has h h.rules.now hour u l) (loosest h.sizes n hour u l p) (a (hour - 1) u l p) (ne_eqb hour 0 (λ e. omega arith)) (inner u l p);
      }
    where
      pick : (z cv rl loose x : Bool) → z ≡ false → (x ≡ true → loose ≡ true) → cond rl loose (cond cv loose x) ≡ (loose && (z || (cv || rl) || x))
      pick z cv true loose x e k = rw e (with_or cv loose)
        where
          with_or : (y v : Bool) → v ≡ (v && (y || true || x))
          with_or true true = refl
          with_or true false = refl
          with_or false true = refl
          with_or false false = refl
      pick z true false true x e k = rw e
      pick z true false false x e k = refl
      pick z false false loose true e k = rw (e, k refl)
      pick z false false true false e k = rw e
      pick z false false false false e k = refl

      inner : (u l p : ℕ) → a (hour - 1) u l p ≡ true → loosest h.sizes n hour u l p ≡ true
      inner u l p e = next_loose h.sizes n hour u l p last (of' (hour - 1) u l p e)

-- all loose
at_all : {A : Type 0} (f : A → Bool) (v : Bool) (xs : List A) (i : ℕ) → i < length xs → Every xs (λ x. f x ≡ v) → at_place false f xs i ≡ v
unfolding at_place
at_all f v [] i l all = absurd (omega arith)
at_all f v (y ∷ ys) zero l all = all 0 l y refl
at_all f v (y ∷ ys) (suc i) l all = at_all f v ys i (omega arith) (λ k m x q. all (suc k) (omega arith) x q)

pub loose_course : {S : Type 0} (s : Sizes) (n : ℕ) (has : S → Points) (cells : List S) → Whole s cells → AllLoose n has cells → (t c l : ℕ) → Same (course_of s has cells t c l) (loosest s n t c l)
unfolding course_of loosest
loose_course s n has cells whole loose t c l p =
    ⊎_elim
    (λ in'. ap (λ (x : Bool). inside s t c l && x) (at_all (λ x. has x p) (ltb p n) cells (place s t c l) (rw whole (place_lt s t c l (inside_use s t c l in'))) (λ i lt x q. loose i lt x q p)))
    (λ out. and_left _ _ out ∙ sym (and_left _ _ out)) (cases_Bool (inside s t c l))

pub loose_started : {S : Type 0} (n : ℕ) (has : S → Points) (h : House S) (filed : List (Fact S)) (hour : ℕ) (a : Course) (cells : List S) → hour ≡ 0 → Whole h.sizes cells → AllLoose n has cells →
    Started n has h filed hour a (course_of h.sizes has cells)
unfolding carry_grants
loose_started n has h filed hour a cells z whole loose =
    record {
      earlier = λ t c l lt p. absurd (omega arith);
      begins = λ c l p. loose_course h.sizes n has cells whole loose hour c l p ∙ with_all (eqb hour 0) _ _ _ (eq-eqb hour 0 z);
    }
  where
    with_all : (e x y v : Bool) → e ≡ true → v ≡ (v && (e || x || y))
    with_all e x y true q = rw q
    with_all e x y false q = refl
