-- Void cells, by their places. Assumes nothing.
use Rattle.std.proofs.Common.{◌≡◌, ℕ, zero, suc, ◌<◌, true, false, not, List, [], ◌∷◌, length, get_or, Some, None, Option, sym, refl, ◌∙◌, subst, ⊎_elim, arith}
use Rattle.std.specs.List.{AllWithin, HoldsAt, FoldsTo}
use Rattle.std.proofs.lemmas.Bool.{and_cases, not-false, true≢false, cases_Bool}
use Rattle.points.specs.Points.{Points, void, each_below}
use Rattle.points.specs.Tables.{Every}
use Rattle.points.proofs.Decided.{void_decides}
use Rattle.points.proofs.Tabled.{at_read}
use Rattle.house.specs.declared.tables.Sizes.{Sizes}
use Rattle.house.specs.declared.tables.Cell.{Cell}
use Rattle.house.specs.Cells.{inside, place, cell_count}
use Rattle.house.proofs.Places.{inside_use, inside_from, place_lt, cell_at, place_at, hour_at, component_at, label_at}
use Rattle.fitting.specs.Course.{course_of}
use Rattle.writes.specs.Written.{Whole}
use Rattle.engine.specs.Voids.{CellAt, FirstVoid}

-- what is not void has a point
pub has_point : (n : ℕ) (a : Points) → void n a ≡ false → (p : ℕ) × (a p ≡ true)
unfolding void each_below
has_point n a e = found n e
  where
    found : (m : ℕ) → each_below m (λ p. not (a p)) ≡ false → (p : ℕ) × (a p ≡ true)
    found zero e = absurd (true≢false e)
    found (suc m) e = ⊎_elim (found m) (λ q. (m, not-false (a m) q)) (and_cases (each_below m (λ p. not (a p))) (not (a m)) e)

-- the cell at a place
pub cell_found : (s : Sizes) (i : ℕ) (x : Cell) → i < cell_count s → x.hour ≡ hour_at s i → x.component ≡ component_at s i → x.label ≡ label_at s i → CellAt s i (Some x)
cell_found s i x lt et ec el = (rw (et, ec, el) (inside_from s _ _ _ (cell_at s i lt)), rw (et, ec, el) (place_at s i))

-- every bound before a place has a point
unfoldable pub FullBelow : {S : Type 0} → ℕ → (S → Points) → List S → ℕ → Type 0
FullBelow {S} n has cells i = (k : ℕ) → k < i → (x : S) → x ≡ get_or cells k x → void n (has x) ≡ false

-- the same, from the library's words for it
pub full_from : {S : Type 0} (n : ℕ) (has : S → Points) (cells : List S) (i : ℕ) → AllWithin (λ x. void n (has x) ≡ false) cells 0 i → FullBelow n has cells i
unfolding FullBelow
full_from {S} n has cells i all k lt x is = subst (λ (y : S). void n (has y) ≡ false) (sym is) (all k x (omega arith) lt)

module _ {S : Type 0} (n : ℕ) (has : S → Points) (low : (x : S) (p : ℕ) → has x p ≡ true → p < n) (s : Sizes) (cells : List S) (whole : Whole s cells) where
  read_at : (ys : List S) (i : ℕ) → i < length ys → (x : S) × (x ≡ get_or ys i x)
  read_at [] i l = absurd (omega arith)
  read_at (y ∷ ys) zero l = (y, refl)
  read_at (y ∷ ys) (suc i) l = read_at ys i (omega arith)

  cell_is : (t c l p : ℕ) (x : S) → inside s t c l ≡ true → x ≡ get_or cells (place s t c l) x → course_of s has cells t c l p ≡ has x p
  unfolding course_of
  cell_is t c l p x in' is = rw in' (at_read false (λ y. has y p) cells (place s t c l) x (rw whole (place_lt s t c l (inside_use s t c l in'))) is)

  full_cell : (i : ℕ) → FullBelow n has cells i → (t c l : ℕ) → inside s t c l ≡ true → place s t c l < i → (p : ℕ) × (course_of s has cells t c l p ≡ true)
  unfolding FullBelow
  full_cell i full t c l in' lt =
      let r = read_at cells (place s t c l) (rw whole (place_lt s t c l (inside_use s t c l in'))) in
      let q = has_point n (has r.0) (full (place s t c l) lt r.0 r.1) in
      (q.0, cell_is t c l q.0 r.0 in' r.1 ∙ q.1)

  pub none_void : FullBelow n has cells (length cells) → FirstVoid s (course_of s has cells) None
  none_void full t c l in' = full_cell (length cells) full t c l in' (rw whole (place_lt s t c l (inside_use s t c l in')))

  pub some_void : (i : ℕ) (r : Option Cell) → i < length cells → HoldsAt (λ x. void n (has x) ≡ true) cells i → FullBelow n has cells i → CellAt s i r → FirstVoid s (course_of s has cells) r
  some_void i (Some y) lt v full at = (
    at.0,
    (λ p. let r = read_at cells i lt in
        ⊎_elim (λ e. absurd ((void_decides n (has r.0) (low r.0)).0 (rw (← r.1) at (v r.0)) p (sym (cell_is y.hour y.component y.label p r.0 at.0 (rw at.1 r.1)) ∙ e))) (λ e. e) (cases_Bool (course_of s has cells y.hour y.component y.label p))),
    λ t c l in' before. full_cell i full t c l in' (rw at.1 at before),
  )
  some_void i None lt v full at = absurd (omega (arith, whole, lt, at))

-- a property of what each call of a closure gives is one of every element that the calls made
pub made : {P A : Type 0} (R : P → A → P → Type 0) (Q : A → Type 0) (p last : P) (xs : List A) → ((x : A) (q : P) → R p x q → (q ≡ p) × Q x) → FoldsTo R p xs last → Every xs Q
made R Q p last [] each f i lt x is = absurd (omega arith)
made R Q p last (y ∷ ys) each f zero lt x is = subst Q (sym is) (each y f.0 f.1).1
made R Q p last (y ∷ ys) each f (suc i) lt x is = made R Q p last ys each (rw (each y f.0 f.1).0 at f.2) i (omega arith) x is
