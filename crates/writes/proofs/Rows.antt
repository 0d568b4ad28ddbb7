-- An hour copied from the one before, seen as a course. Assumes nothing.
use Rattle.std.proofs.Common.{◌≡◌, ℕ, suc, ◌+◌, ◌-◌, ◌*◌, ◌<◌, ◌≤◌, Bool, true, false, ◌&&◌, eqb, List, [], ◌∷◌, length, get_or, sym, refl, ap, ◌∙◌, ⊎_elim, mul_assoc, add-mul, arith}
use Rattle.std.proofs.lemmas.Nat.{mul-le}
use Rattle.std.proofs.lemmas.Bool.{eqb-true, eqb-false, cases_Bool, cases_lt, both_ways, cond-true, cond-false, and_left}
use Rattle.points.specs.Points.{Points}
use Rattle.points.specs.Tables.{at_place}
use Rattle.points.proofs.Tabled.{at-get_or}
use Rattle.house.specs.declared.tables.Sizes.{Sizes}
use Rattle.house.specs.Cells.{components, inside, place, cell_count}
use Rattle.house.proofs.Places.{IsCell, inside_use, inside_from, place_lt, place_hour, column_lt, hour_cells, hour_of_place, cell_only}
use Rattle.fitting.specs.Course.{Course, course_of}
use Rattle.writes.specs.Written.{Whole, Repeats}

-- what is read at two places with one bound is the same
at_same : {A : Type 0} (f : A → Bool) (xs ys : List A) (i j : ℕ) → i < length xs → j < length ys → ((d : A) → get_or xs i d ≡ get_or ys j d) → at_place false f xs i ≡ at_place false f ys j
at_same f [] ys i j l m e = absurd (omega arith)
at_same f (x ∷ xs) ys i j l m e = at-get_or false f (x ∷ xs) i x l ∙ ap f (e x) ∙ sym (at-get_or false f ys j x m)

-- the rows before and after an hour
pub row_step : (hour row : ℕ) → 1 ≤ hour → hour * row ≡ (hour - 1) * row + row
row_step hour row one =
    let e : hour ≡ (hour - 1) + 1 = omega arith in
    ap (λ (n : ℕ). n * row) e ∙ (omega (arith, add-mul (hour - 1) 1 row))

-- sizes of 8 and 16 bits give small rows
pub row_few : (hour comps moving : ℕ) → hour ≤ 255 → comps ≤ 131070 → moving ≤ 255 → (hour * (comps * moving) ≤ 8522826750) × (comps * moving ≤ 33422850)
row_few hour comps moving a b c = let r = mul-le comps moving 131070 255 b c in (mul-le hour (comps * moving) 255 33422850 a r, r)

module _ {S : Type 0} (has : S → Points) (s : Sizes) (cells after : List S) (hour : ℕ) (whole : Whole s cells) (long : length after ≡ length cells) (one : 1 ≤ hour) (last : hour ≤ s.last) where
  -- the cells of the hour are those of the hour before, and the others are as they were
  pub row_repeats : (from width : ℕ) → from ≡ hour * hour_cells s - hour_cells s → width ≡ hour_cells s →
      ((k : ℕ) (d : S) → hour * hour_cells s ≤ k → k < hour * hour_cells s + width → get_or after k d ≡ get_or cells (from + (k - hour * hour_cells s)) d) →
      ((k : ℕ) (d : S) → k < hour * hour_cells s → get_or after k d ≡ get_or cells k d) →
      ((k : ℕ) (d : S) → hour * hour_cells s + width ≤ k → get_or after k d ≡ get_or cells k d) →
      Repeats hour (course_of s has cells) (course_of s has after)
  unfolding Repeats course_of
  row_repeats from width ef ew inner low high t c l p =
      ⊎_elim (λ e. sym (cond-true (eqb t hour) _ _ e ∙ sym (there (eqb-true t hour e)))) (λ e. sym (cond-false (eqb t hour) _ _ e ∙ sym (other (eqb-false t hour e)))) (cases_Bool (eqb t hour))
    where
      step : hour * hour_cells s ≡ (hour - 1) * hour_cells s + hour_cells s
      step = row_step hour (hour_cells s) one

      after_lt : (i : ℕ) → i < cell_count s → i < length after
      after_lt i lt = omega (arith, whole, long)

      before : t ≡ hour → inside s t c l ≡ true → inside s (t - 1) c l ≡ true
      before e in' = let i = inside_use s t c l in' in inside_from s (t - 1) c l (record { hour = omega (arith, i.hour); component = i.component; fixed = i.fixed; moving = i.moving })

      behind : t ≡ hour → inside s (t - 1) c l ≡ true → inside s t c l ≡ true
      behind e in' = let i = inside_use s (t - 1) c l in' in inside_from s t c l (record { hour = omega arith; component = i.component; fixed = i.fixed; moving = i.moving })

      copied : t ≡ hour → inside s t c l ≡ true → (d : S) → get_or after (place s t c l) d ≡ get_or cells (place s (t - 1) c l) d
      copied e in' d =
          let i = inside_use s t c l in' in
          let col = column_lt s t c l i in
          let h1 : t * hour_cells s ≡ hour * hour_cells s = ap (λ (n : ℕ). n * hour_cells s) e in
          let h2 : (t - 1) * hour_cells s ≡ (hour - 1) * hour_cells s = ap (λ (n : ℕ). (n - 1) * hour_cells s) e in
          let here = place_hour s t c l in
          let then = place_hour s (t - 1) c l in
          inner (place s t c l) d (omega (arith, here, h1)) (omega (arith, here, h1, col, ew))
          ∙ ap (λ (k : ℕ). get_or cells k d) (omega (arith, here, then, h1, h2, step, ef))

      there : t ≡ hour → (inside s t c l && at_place false (λ x. has x p) after (place s t c l)) ≡ (inside s (t - 1) c l && at_place false (λ x. has x p) cells (place s (t - 1) c l))
      there e =
          ⊎_elim
          (λ in'. let in'' = before e in' in
          rw (in', in'') (at_same (λ x. has x p) after cells (place s t c l) (place s (t - 1) c l)
          (after_lt _ (place_lt s t c l (inside_use s t c l in'))) (rw whole (place_lt s (t - 1) c l (inside_use s (t - 1) c l in''))) (copied e in')))
          (λ out. ⊎_elim (λ in''. absurd (both_ways _ out (behind e in''))) (λ out'. and_left _ _ out ∙ sym (and_left _ _ out')) (cases_Bool (inside s (t - 1) c l)))
          (cases_Bool (inside s t c l))

      kept : (t ≡ hour → ⊥) → IsCell s t c l → (d : S) → get_or after (place s t c l) d ≡ get_or cells (place s t c l) d
      kept ne i d =
          ⊎_elim (low (place s t c l) d)
          (λ le. ⊎_elim
          (λ lt. absurd (ne (sym (cell_only s t c l i).0 ∙ hour_of_place s hour (place s t c l) (place_lt s t c l i) le (omega (arith, lt, ew)))))
          (high (place s t c l) d)
          (cases_lt (place s t c l) (hour * hour_cells s + width)))
          (cases_lt (place s t c l) (hour * hour_cells s))

      other : (t ≡ hour → ⊥) → (inside s t c l && at_place false (λ x. has x p) after (place s t c l)) ≡ (inside s t c l && at_place false (λ x. has x p) cells (place s t c l))
      other ne =
          ⊎_elim
          (λ in'. let i = inside_use s t c l in' in
          rw in' (at_same (λ x. has x p) after cells (place s t c l) (place s t c l) (after_lt _ (place_lt s t c l i)) (rw whole (place_lt s t c l i)) (kept ne i)))
          (λ out. rw out) (cases_Bool (inside s t c l))

  -- the same, as code copies the row
  pub row_copied : (comps : ℕ) → comps ≡ components s →
      (((k : ℕ) (d : S) → hour * (comps * s.moving) ≤ k → k < hour * (comps * s.moving) + (hour * (comps * s.moving) - (hour * (comps * s.moving) - comps * s.moving)) →
      get_or after k d ≡ get_or cells (hour * (comps * s.moving) - comps * s.moving + (k - hour * (comps * s.moving))) d)
      × ((k : ℕ) (d : S) → k < hour * (comps * s.moving) → get_or after k d ≡ get_or cells k d)
      × ((k : ℕ) (d : S) → hour * (comps * s.moving) + (hour * (comps * s.moving) - (hour * (comps * s.moving) - comps * s.moving)) ≤ k → get_or after k d ≡ get_or cells k d)) →
      Repeats hour (course_of s has cells) (course_of s has after)
  row_copied comps e all =
      let b = rw e at all in
      row_repeats (hour * hour_cells s - hour_cells s) (hour * hour_cells s - (hour * hour_cells s - hour_cells s)) refl (omega (arith, row_step hour (hour_cells s) one)) b.0 b.1 b.2

-- nothing comes before hour 0
pub first_repeats : (a : Course) (hour : ℕ) → hour < 1 → Repeats hour a a
unfolding Repeats
first_repeats a hour zero' t c l p =
    ⊎_elim
    (λ e. let q = eqb-true t hour e in let z : t - 1 ≡ t = omega arith in rw (e, z))
    (λ e. rw e) (cases_Bool (eqb t hour))

-- the row of an hour up to the last is there
pub row_there : (s : Sizes) (hour n : ℕ) → n ≡ cell_count s → hour ≤ s.last → hour * hour_cells s + hour_cells s ≤ n
row_there s hour n e le =
    omega (arith, e, mul-le (hour + 1) (hour_cells s) (suc s.last) (hour_cells s) (omega arith) (omega arith), add-mul hour 1 (hour_cells s), mul_assoc (suc s.last) (components s) s.moving)
