-- A write to one cell, seen as a course. Assumes nothing.
use Rattle.std.proofs.Common.{◌≡◌, ℕ, ◌<◌, Bool, true, false, cond, not, ◌&&◌, eqb, ltb, ◌≢◌, List, length, get_or, set, Some, None, sym, refl, ap, ◌∙◌, ⊎_elim, arith, length-set, get_or-set_other, get_or-set_same}
use Rattle.std.proofs.lemmas.Bool.{and_parts, and_from, and_left, eqb-true, eq-eqb, cases_Bool, cases_lt, both_ways, true≢false}
use Rattle.points.specs.Points.{Points, Among, Same, Meet, Loose, implies, within, each_below}
use Rattle.points.specs.Tables.{at_place}
use Rattle.points.proofs.Decided.{implies_from, each_use, each_from, same_test, within_decides}
use Rattle.points.proofs.Tabled.{at_read, at-get_or, at_else}
use Rattle.house.specs.declared.tables.Sizes.{Sizes}
use Rattle.house.specs.declared.tables.Cell.{Cell}
use Rattle.house.specs.Cells.{inside, place}
use Rattle.house.proofs.Places.{inside_use, place_lt, place_same}
use Rattle.fitting.specs.Course.{course_of, loosest}
use Rattle.writes.specs.Written.{Narrowed, on_cell, Freed, one_cell, Entered, Whole}

at_set_same : {A : Type 0} (d : Bool) (f : A → Bool) (xs : List A) (i : ℕ) (v : A) → i < length xs → at_place d f (set xs i v) i ≡ f v
at_set_same d f xs i v l = at_read d f (set xs i v) i v (simp length-set l) (sym (get_or-set_same xs i v v l))

at_set_other : {A : Type 0} (d : Bool) (f : A → Bool) (xs : List A) (i k : ℕ) (v : A) → k ≢ i → at_place d f (set xs i v) k ≡ at_place d f xs k
at_set_other d f xs i k v ne =
    ⊎_elim
    (λ l. at-get_or d f (set xs i v) k v (simp length-set l) ∙ ap f (get_or-set_other xs i k v v ne) ∙ sym (at-get_or d f xs k v l))
    (λ l. at_else d f (set xs i v) k (simp length-set l) ∙ sym (at_else d f xs k l))
    (cases_lt k (length xs))

-- this is the cell
abbrev here : Cell → ℕ → ℕ → ℕ → Bool
here x t c l = eqb t x.hour && (eqb c x.component && eqb l x.label)

here_use : (x : Cell) (t c l : ℕ) → here x t c l ≡ true → (t ≡ x.hour) × (c ≡ x.component) × (l ≡ x.label)
here_use x t c l e =
    let p = and_parts (eqb t x.hour) _ e in
    let q = and_parts (eqb c x.component) (eqb l x.label) p.1 in
    (eqb-true t x.hour p.0, eqb-true c x.component q.0, eqb-true l x.label q.1)

here_from : (x : Cell) (t c l : ℕ) → t ≡ x.hour → c ≡ x.component → l ≡ x.label → here x t c l ≡ true
here_from x t c l et ec el = and_from _ _ (eq-eqb t x.hour et) (and_from _ _ (eq-eqb c x.component ec) (eq-eqb l x.label el))

module _ {S : Type 0} (has : S → Points) (s : Sizes) (cells : List S) (x : Cell) where
  -- a cell with no entry has no point
  pub cell_absent : Entered s (length cells) x None → Same (course_of s has cells x.hour x.component x.label) (λ p. false)
  unfolding course_of
  cell_absent none p =
      ⊎_elim (λ in'. rw in' (at_else false (λ y. has y p) cells _ (none in'))) (λ out. and_left (inside s x.hour x.component x.label) _ out) (cases_Bool (inside s x.hour x.component x.label))

  -- a cell that keeps what it has was narrowed to a bound, if its points are the bound's
  pub cell_kept : (bound : Points) → Among (course_of s has cells x.hour x.component x.label) bound → Narrowed (course_of s has cells) (on_cell x.hour x.component x.label bound) (course_of s has cells)
  unfolding Narrowed on_cell
  cell_kept bound all t c l p =
      same_test _ _
      (λ e. and_from _ _ e (implies_from (here x t c l) (bound p) (λ h. let q = here_use x t c l h in all p (rw (q.0, q.1, q.2) at e))))
      (λ e. (and_parts (course_of s has cells t c l p) _ e).0)

  pub absent_narrowed : (bound : Points) → Entered s (length cells) x None → Narrowed (course_of s has cells) (on_cell x.hour x.component x.label bound) (course_of s has cells)
  absent_narrowed bound none = cell_kept bound (λ p e. absurd (true≢false (sym e ∙ cell_absent none p)))

  -- where every cell has an entry, nothing has to be freed if there is no such cell
  pub absent_freed : (n : ℕ) → Whole s cells → Entered s (length cells) x None → Freed s n x.hour (one_cell x.component x.label) (course_of s has cells) (course_of s has cells)
  unfolding Freed one_cell loosest
  absent_freed n whole none t c l p =
      pick (here x t c l) (course_of s has cells t c l p)
      (λ yes'. let q = here_use x t c l yes' in rw (q.0, q.1, q.2) (cell_absent none p ∙ sym (and_left _ (ltb p n) out)))
    where
      out : inside s x.hour x.component x.label ≡ false
      out = ⊎_elim (λ in'. let lt = place_lt s _ _ _ (inside_use s _ _ _ in') in absurd (omega (arith, none in', lt, whole))) (λ e. e) (cases_Bool (inside s x.hour x.component x.label))

      pick : (w z : Bool) → (w ≡ true → z ≡ (inside s t c l && ltb p n)) → z ≡ cond w (inside s t c l && ltb p n) z
      pick true z k = k refl
      pick false z k = refl

  module _ (at : ℕ) (found : Entered s (length cells) x (Some at)) where
    -- the points of a cell are those of its entry
    pub cell_read : (y : S) → y ≡ get_or cells at y → Same (course_of s has cells x.hour x.component x.label) (has y)
    unfolding course_of
    cell_read y is p = rw (found.0, ← found.1) (at_read false (λ z. has z p) cells at y found.2 is)

    -- the course after a write to it
    pub cell_set : (v : S) (t c l p : ℕ) → course_of s has (set cells at v) t c l p ≡ cond (here x t c l) (has v p) (course_of s has cells t c l p)
    unfolding course_of
    cell_set v t c l p =
        ⊎_elim
        (λ yes'. let q = here_use x t c l yes' in
        let same : inside s t c l ≡ true = rw (q.0, q.1, q.2) found.0 in
        let at' : place s t c l ≡ at = rw (q.0, q.1, q.2) (sym found.1) in
        rw (yes', same, at') (at_set_same false (λ y. has y p) cells at v found.2))
        (λ no'. rw no' (⊎_elim
        (λ in'. rw in' (at_set_other false (λ y. has y p) cells at (place s t c l) v
        (λ z. let q = place_same s t c l x.hour x.component x.label (inside_use s t c l in') (inside_use s x.hour x.component x.label found.0) (z ∙ found.1) in
        both_ways _ no' (here_from x t c l q.0 q.1 q.2))))
        (λ out. rw out) (cases_Bool (inside s t c l))))
        (cases_Bool (here x t c l))

    -- a cell that was met with a bound
    pub cell_narrowed : (bound v y : S) → y ≡ get_or cells at y → Meet (has y) (has bound) (has v) → Narrowed (course_of s has cells) (on_cell x.hour x.component x.label (has bound)) (course_of s has (set cells at v))
    unfolding Narrowed on_cell implies
    cell_narrowed bound v y is met t c l p =
        cell_set v t c l p ∙ pick (here x t c l) (course_of s has cells t c l p) (λ yes'. let q = here_use x t c l yes' in rw (q.0, q.1, q.2, cell_read y is p) (met p))
      where
        pick : (w z : Bool) → (w ≡ true → has v p ≡ (z && has bound p)) → cond w (has v p) z ≡ (z && implies w (has bound p))
        pick true z k = k refl
        pick false true k = refl
        pick false false k = refl

    -- a cell that was made loose
    pub cell_freed : (n : ℕ) (v : S) → Loose n (has v) → Freed s n x.hour (one_cell x.component x.label) (course_of s has cells) (course_of s has (set cells at v))
    unfolding Freed one_cell loosest
    cell_freed n v loose t c l p =
        cell_set v t c l p ∙ pick (here x t c l) (course_of s has cells t c l p) (λ yes'. let q = here_use x t c l yes' in rw (q.0, q.1, q.2, found.0) (loose p))
      where
        pick : (w z : Bool) → (w ≡ true → has v p ≡ (inside s t c l && ltb p n)) → cond w (has v p) z ≡ cond w (inside s t c l && ltb p n) z
        pick true z k = k refl
        pick false z k = refl

-- a test of a bound goes by its points
pub within_all : (n : ℕ) (a b : Points) → Among a b → within n a b ≡ true
unfolding within
within_all n a b all = each_from n _ (λ p l. implies_from (a p) (b p) (all p))

pub within_same : (n : ℕ) (a a' b : Points) → Same a a' → within n a b ≡ within n a' b
unfolding within
within_same n a a' b e = same_test _ _ (each_same a a' e) (each_same a' a (λ p. sym (e p)))
  where
    each_same : (f g : Points) → Same f g → each_below n (λ p. implies (f p) (b p)) ≡ true → each_below n (λ p. implies (g p) (b p)) ≡ true
    each_same f g same all = each_from n _ (λ p l. ap (λ (y : Bool). implies y (b p)) (sym (same p)) ∙ each_use n _ all p l)

-- what a cell that was not narrowed says
module _ {S : Type 0} (n : ℕ) (has : S → Points) (s : Sizes) (cells : List S) (x : Cell) (bound : Points) where
  pub absent_tells : Entered s (length cells) x None → false ≡ not (within n (course_of s has cells x.hour x.component x.label) bound)
  absent_tells none = ap not (sym (within_all n _ bound (λ p e. absurd (true≢false (sym e ∙ cell_absent has s cells x none p)))))

  module _ (at : ℕ) (found : Entered s (length cells) x (Some at)) (y : S) (is : y ≡ get_or cells at y) (r : Bool) (test : r ≡ within n (has y) bound) where
    pub read_tells : not r ≡ not (within n (course_of s has cells x.hour x.component x.label) bound)
    read_tells = ap not (test ∙ sym (within_same n _ _ bound (cell_read has s cells x at found y is)))

    pub read_within : ((z : S) (p : ℕ) → has z p ≡ true → p < n) → r ≡ true → Narrowed (course_of s has cells) (on_cell x.hour x.component x.label bound) (course_of s has cells)
    read_within low yes' =
        cell_kept has s cells x bound (λ p e. (within_decides n (has y) bound (low y)).0 (sym test ∙ yes') p (sym (cell_read has s cells x at found y is p) ∙ e))
