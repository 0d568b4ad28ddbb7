-- What the cells of a course hold, and whether they satisfy a fact, hour by hour. Assumes nothing.
use Rattle.std.proofs.Common.{◌≡◌, ℕ, ◌<◌, ◌≤◌, Bool, true, false, eqb, leb, List, length, get_or, sym, refl, ◌∙◌, subst, ⊎_elim}
use Rattle.std.proofs.lemmas.Bool.{and_parts, and_from, eqb-true, eq-eqb, leb-true, le-leb, both_ways, cases_Bool}
use Rattle.points.specs.Points.{Points, Iff, Among, Same, within}
use Rattle.points.proofs.Decided.{within_decides}
use Rattle.points.proofs.Tabled.{at_read}
use Rattle.house.specs.declared.tables.Sizes.{Sizes}
use Rattle.house.specs.declared.tables.Fact.{Fact}
use Rattle.house.specs.Cells.{inside, place, covers}
use Rattle.fitting.specs.Course.{Course, Cell, course_of}
use Rattle.plan.specs.Courses.{Satisfies, SatisfiesAt}
use Rattle.plan.specs.Calls.{Stands}

module _ {S : Type 0} (has : S → Points) (s : Sizes) (cells : List S) where
  -- a cell has the points of the bound that stands there
  pub cell_has : (t c l : ℕ) (x : S) → Cell s t c l → Stands cells (place s t c l) x → Same (course_of s has cells t c l) (has x)
  unfolding course_of
  cell_has t c l x i stands p = rw i (at_read false (λ y. has y p) cells (place s t c l) x stands.0 stands.1)

-- what covering says
covers_use : {S : Type 0} (t c l : ℕ) (f : Fact S) → covers t c l f ≡ true → (f.component ≡ c) × (f.label ≡ l) × (f.from ≤ t) × (t ≤ f.to)
unfolding covers
covers_use t c l f e =
    let p = and_parts _ (leb t f.to) e in
    let q = and_parts _ (leb f.from t) p.0 in
    let r = and_parts (eqb f.component c) (eqb f.label l) q.0 in
    (eqb-true _ _ r.0, eqb-true _ _ r.1, leb-true _ _ q.1, leb-true _ _ p.1)

covers_from : {S : Type 0} (t : ℕ) (f : Fact S) → f.from ≤ t → t ≤ f.to → covers t f.component f.label f ≡ true
unfolding covers
covers_from t f a b =
    and_from _ _ (and_from _ _ (and_from _ _ (eq-eqb f.component f.component refl) (eq-eqb f.label f.label refl)) (le-leb _ _ a)) (le-leb _ _ b)

module _ {S : Type 0} (n : ℕ) (has : S → Points) (low : (x : S) (p : ℕ) → has x p ≡ true → p < n) (s : Sizes) (cells : List S) (f : Fact S) (t : ℕ) where
  -- there is no such cell
  pub at_past : inside s t f.component f.label ≡ false → SatisfiesAt has s (course_of s has cells) f t
  unfolding SatisfiesAt
  at_past e i = absurd (both_ways _ e i)

  -- the bound that stands there is within
  pub at_stands : (i : ℕ) (x : S) → inside s t f.component f.label ≡ true → i ≡ place s t f.component f.label → i < length cells → x ≡ get_or cells i x →
      Iff (within n (has x) (has f.bound) ≡ true) (SatisfiesAt has s (course_of s has cells) f t)
  unfolding SatisfiesAt
  at_stands i x c at l is =
      let w = within_decides n (has x) (has f.bound) (low x) in
      let same = cell_has has s cells t f.component f.label x c (rw (← at) (l, is)) in
      ((λ e _ p h. w.0 e p (sym (same p) ∙ h)), λ sat. w.1 (λ p h. sat c p (same p ∙ h)))

module _ {S : Type 0} (has : S → Points) (s : Sizes) (a : Course) (f : Fact S) where
  from_hours : ((hour : ℕ) → f.from ≤ hour → hour ≤ f.to → SatisfiesAt has s a f hour) → Satisfies has s a f
  unfolding Satisfies SatisfiesAt
  from_hours every t c l i cov =
      let u = covers_use t c l f cov in
      let P : ℕ → ℕ → Type 0 = λ c l. Cell s t c l → Among (a t c l) (has f.bound) in
      let here : P f.component f.label = every t u.2 u.3 in
      subst (λ (c : ℕ). P c l) u.0 (subst (λ (l : ℕ). P f.component l) u.1 here) i

  at_hour : (hour : ℕ) → f.from ≤ hour → hour ≤ f.to → Satisfies has s a f → SatisfiesAt has s a f hour
  unfolding Satisfies SatisfiesAt
  at_hour hour low high sat i = sat hour f.component f.label i (covers_from hour f low high)

  -- a test that asks at each hour of a fact says whether it is satisfied
  pub hours_decide : (b : Bool) → (b ≡ true → (hour : ℕ) → f.from ≤ hour → hour ≤ f.to → SatisfiesAt has s a f hour) →
      (b ≡ false → (hour : ℕ) × (f.from ≤ hour) × (hour ≤ f.to) × (SatisfiesAt has s a f hour → ⊥)) → Iff (b ≡ true) (Satisfies has s a f)
  hours_decide b every some = (
    (λ e. from_hours (every e)),
    λ sat. ⊎_elim (λ e. e) (λ e. let w = some e in absurd (w.3 (at_hour w.0 w.1 w.2 sat))) (cases_Bool b),
  )
