-- Narrowing at one hour, component by component. Assumes nothing.
use Rattle.std.proofs.Common.{◌≡◌, ℕ, ◌+◌, ◌≤◌, Bool, true, false, not, ◌&&◌, ◌||◌, eqb, ltb, sym, refl, ◌∙◌, ⊎_elim, arith}
use Rattle.std.proofs.lemmas.Bool.{and_parts, eqb-true, eq-eqb, ne_eqb, ltb-true, ltb-false, lt-ltb, cases_Bool, cases_eq}
use Rattle.points.specs.Points.{Points, Same, implies}
use Rattle.points.proofs.Decided.{implies_from}
use Rattle.fitting.specs.Course.{Course}
use Rattle.writes.specs.Written.{Narrowed, on_cell, at_hour}
use Rattle.writes.proofs.Narrowing.{narrowed_none, narrowed_as, narrowed_then}
use Rattle.engine.specs.Pressed.{on_those}
use Rattle.engine.proofs.Starting.{step_other}

-- other hours are as they were
pub those_other : (hour : ℕ) (those : ℕ → Bool) (a g b : Course) → Narrowed a (on_those hour those g) b → (t c l : ℕ) → (t ≡ hour → ⊥) → Same (b t c l) (a t c l)
unfolding Narrowed on_those implies
those_other hour those a g b n t c l ne p = n t c l p ∙ all (eqb t hour) (those c) (a t c l p) (g t c l p) (ne_eqb t hour ne)
  where
    all : (e y x z : Bool) → e ≡ false → (x && (not (e && y) || z)) ≡ x
    all e y true z q = rw q
    all e y false z q = refl

-- and so are other components
pub those_else : (hour node : ℕ) (a g b : Course) → Narrowed a (on_those hour (λ c. eqb c node) g) b → (t c l : ℕ) → (t ≡ hour → c ≡ node → ⊥) → Same (b t c l) (a t c l)
unfolding Narrowed on_those implies
those_else hour node a g b n t c l ne p = n t c l p ∙ all (eqb t hour && eqb c node) (a t c l p) (g t c l p) off
  where
    off : (eqb t hour && eqb c node) ≡ false
    off = ⊎_elim (λ e. let q = and_parts (eqb t hour) (eqb c node) e in absurd (ne (eqb-true t hour q.0) (eqb-true c node q.1))) (λ e. e) (cases_Bool (eqb t hour && eqb c node))

    all : (e x z : Bool) → e ≡ false → (x && (not e || z)) ≡ x
    all e true z q = rw q
    all e false z q = refl

-- where all is granted nothing is narrowed
pub those_none : (hour node : ℕ) (a g : Course) → ((l p : ℕ) → g hour node l p ≡ true) → Narrowed a (on_those hour (λ c. eqb c node) g) a
unfolding on_those
those_none hour node a g all =
    narrowed_none a (on_those hour (λ c. eqb c node) g)
    (λ t c l p. implies_from (eqb t hour && eqb c node) (g t c l p) (λ e. let q = and_parts (eqb t hour) (eqb c node) e in rw (eqb-true t hour q.0, eqb-true c node q.1) (all l p)))

-- where one cell of a component is narrowed to a bound
pub those_cell : (hour node label : ℕ) (bound : Points) (a b g : Course) → Narrowed a (on_cell hour node label bound) b → ((l p : ℕ) → g hour node l p ≡ implies (eqb l label) (bound p)) →
    Narrowed a (on_those hour (λ c. eqb c node) g) b
unfolding on_those on_cell implies
those_cell hour node label bound a b g n e =
    narrowed_as a b (on_cell hour node label bound) (on_those hour (λ c. eqb c node) g) n
    (λ t c l p. pick (eqb t hour) (eqb c node) (eqb l label) (bound p) (g t c l p) (λ et ec. rw (eqb-true t hour et, eqb-true c node ec) (e l p)))
  where
    pick : (x y z w v : Bool) → (x ≡ true → y ≡ true → v ≡ (not z || w)) → (not (x && (y && z)) || w) ≡ (not (x && y) || v)
    pick true true z w v k = sym (k refl refl)
    pick true false z w v k = refl
    pick false y z w v k = refl

pub those_zero : (hour : ℕ) (a g : Course) → Narrowed a (on_those hour (λ c. ltb c 0) g) a
unfolding on_those
those_zero hour a g =
    narrowed_none a (on_those hour (λ c. ltb c 0) g) (λ t c l p. implies_from (eqb t hour && ltb c 0) (g t c l p) (λ e. absurd (never c (and_parts (eqb t hour) (ltb c 0) e).1)))
  where
    never : (c : ℕ) → ltb c 0 ≡ true → ⊥
    never c e = omega (arith, ltb-true c 0 e)

-- one component more
pub those_more : (hour k : ℕ) (a b c g g' : Course) → Narrowed a (on_those hour (λ u. ltb u k) g) b → Narrowed b (on_those hour (λ u. eqb u k) g') c → ((u l p : ℕ) → g' hour u l p ≡ g hour u l p) →
    Narrowed a (on_those hour (λ u. ltb u (k + 1)) g) c
unfolding on_those implies
those_more hour k a b c g g' n m e =
    narrowed_then a b c (on_those hour (λ u. ltb u k) g) (on_those hour (λ u. eqb u k) g') (on_those hour (λ u. ltb u (k + 1)) g) n m
    (λ t u l p. pick (eqb t hour) (ltb u (k + 1)) (ltb u k) (eqb u k) (g t u l p) (g' t u l p) (more u) (λ et. rw (eqb-true t hour et) (e u l p)))
  where
    more : (u : ℕ) → ltb u (k + 1) ≡ (ltb u k || eqb u k)
    more u =
        ⊎_elim (λ q. or_right' (ltb u k) (eqb u k) (eq-eqb u k q) (lt-ltb u (k + 1) (omega arith))) (λ ne. or_left' (ltb u k) (eqb u k) (ne_eqb u k ne) (step_other u k ne)) (cases_eq u k)
      where
        or_right' : (x y : Bool) → y ≡ true → ltb u (k + 1) ≡ true → ltb u (k + 1) ≡ (x || y)
        or_right' true y q w = w
        or_right' false y q w = w ∙ sym q

        or_left' : (x y : Bool) → y ≡ false → ltb u (k + 1) ≡ x → ltb u (k + 1) ≡ (x || y)
        or_left' true y q w = w
        or_left' false y q w = w ∙ sym q

    pick : (x z y w v v' : Bool) → z ≡ (y || w) → (x ≡ true → v' ≡ v) → (not (x && z) || v) ≡ ((not (x && y) || v) && (not (x && w) || v'))
    pick false z y w v v' q k = refl
    pick true z true w true v' q k = rw (q, k refl) (last w)
      where
        last : (w' : Bool) → true ≡ (not w' || true)
        last true = refl
        last false = refl
    pick true z true w false v' q k = rw q
    pick true z false true v v' q k = rw (q, k refl)
    pick true z false false v v' q k = rw q

-- when all others are granted everything
pub those_all : (hour k : ℕ) (a b g : Course) → ((c l p : ℕ) → k ≤ c → g hour c l p ≡ true) → Narrowed a (on_those hour (λ u. ltb u k) g) b → Narrowed a (at_hour hour g) b
unfolding on_those at_hour implies
those_all hour k a b g all n =
    narrowed_as a b (on_those hour (λ u. ltb u k) g) (at_hour hour g) n
    (λ t c l p. pick (eqb t hour) (ltb c k) (g t c l p) (λ et out. rw (eqb-true t hour et) (all c l p (ltb-false c k out))))
  where
    pick : (x y v : Bool) → (x ≡ true → y ≡ false → v ≡ true) → (not (x && y) || v) ≡ (not x || v)
    pick true true v k = refl
    pick true false v k = sym (k refl refl)
    pick false y v k = refl

pub hour_same : (hour : ℕ) (a b g g' : Course) → Narrowed a (at_hour hour g) b → ((c l p : ℕ) → g hour c l p ≡ g' hour c l p) → Narrowed a (at_hour hour g') b
unfolding at_hour implies
hour_same hour a b g g' n e =
    narrowed_as a b (at_hour hour g) (at_hour hour g') n (λ t c l p. pick (eqb t hour) (g t c l p) (g' t c l p) (λ et. rw (eqb-true t hour et) (e c l p)))
  where
    pick : (x v v' : Bool) → (x ≡ true → v ≡ v') → (not x || v) ≡ (not x || v')
    pick true v v' k = k refl
    pick false v v' k = refl

pub hour_free : (hour : ℕ) (a g : Course) → ((c l p : ℕ) → g hour c l p ≡ true) → Narrowed a (at_hour hour g) a
unfolding at_hour
hour_free hour a g all = narrowed_none a (at_hour hour g) (λ t c l p. implies_from (eqb t hour) (g t c l p) (λ e. rw (eqb-true t hour e) (all c l p)))
