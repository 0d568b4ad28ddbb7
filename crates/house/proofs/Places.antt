-- The places of cells: each cell has one of its own, hour by hour, and every place is a cell's. Assumes nothing.
use Rattle.std.proofs.Common.{◌≡◌, ℕ, zero, suc, ◌+◌, ◌-◌, ◌*◌, ◌/◌, ◌%◌, ◌<◌, ◌≤◌, true, ◌&&◌, ltb, leb, ◌⊎◌, sym, ap, ◌∙◌, subst, inl, inr, ⊎_elim, mul_assoc, mul_comm, add-mul, arith}
use Rattle.std.proofs.lemmas.Nat.{mul-le, mul-add-lt, div-mul-add, mod-mul-add, div-add-mod', div_below, mod_below}
use Rattle.std.proofs.lemmas.Bool.{and_parts, and_from, leb-true, ltb-true, le-leb, lt-ltb, cases_order}
use Rattle.points.specs.Points.{Iff}
use Rattle.house.specs.declared.tables.Sizes.{Sizes}
use Rattle.house.specs.Cells.{components, moves, inside, place, cell_count}

-- what `inside` says of a cell
pub record IsCell (s : Sizes) (t c l : ℕ) : Type 0 where
  pub hour : t ≤ s.last
  pub component : c < components s
  pub fixed : s.fixed ≤ l
  pub moving : l < s.fixed + s.moving

pub moves_use : (s : Sizes) (l : ℕ) → moves s l ≡ true → (s.fixed ≤ l) × (l < s.fixed + s.moving)
moves_use s l e = let p = and_parts (leb s.fixed l) _ e in (leb-true _ _ p.0, ltb-true _ _ p.1)

pub moves_from : (s : Sizes) (l : ℕ) → s.fixed ≤ l → l < s.fixed + s.moving → moves s l ≡ true
moves_from s l a b = and_from _ _ (le-leb _ _ a) (lt-ltb _ _ b)

pub inside_use : (s : Sizes) (t c l : ℕ) → inside s t c l ≡ true → IsCell s t c l
unfolding inside
inside_use s t c l e =
    let p = and_parts (leb t s.last && ltb c (components s)) (moves s l) e in
    let q = and_parts (leb t s.last) (ltb c (components s)) p.0 in
    let m = moves_use s l p.1 in
    record { hour = leb-true _ _ q.0; component = ltb-true _ _ q.1; fixed = m.0; moving = m.1 }

pub inside_from : (s : Sizes) (t c l : ℕ) → IsCell s t c l → inside s t c l ≡ true
unfolding inside
inside_from s t c l i =
    and_from _ _ (and_from _ _ (le-leb _ _ i.hour) (lt-ltb _ _ i.component)) (moves_from s l i.fixed i.moving)

-- rows of width w: two places are the same only in one row and one column, and the rows come one after the other
row_same : (w a b a' b' : ℕ) → b < w → b' < w → a * w + b ≡ a' * w + b' → (a ≡ a') × (b ≡ b')
row_same w a b a' b' l l' e = (
  sym (div-mul-add a w b l) ∙ (ap (λ n. n / w) e ∙ div-mul-add a' w b' l'),
  sym (mod-mul-add a w b l) ∙ (ap (λ n. n % w) e ∙ mod-mul-add a' w b' l'),
)

row_before : (w a b a' b' : ℕ) → a < a' → b < w → a * w + b < a' * w + b'
row_before w a b a' b' l h = omega (arith, mul-le (a + 1) w a' w (omega arith) (omega arith), add-mul a 1 w)

-- of numbers below a product, the factors are not 0
factor_pos : (i m n : ℕ) → i < m * n → 0 < n
factor_pos i m zero l = absurd (omega arith)
factor_pos i m (suc n) l = omega arith

pub place_lt : (s : Sizes) (t c l : ℕ) → IsCell s t c l → place s t c l < cell_count s
place_lt s t c l i =
    let row : t * components s + c < suc s.last * components s =
    rw (mul_comm (suc s.last) (components s)) (mul-add-lt t (components s) c (suc s.last) (omega (arith, i.hour)) i.component) in
    rw (mul_comm (suc s.last * components s) s.moving)
    (mul-add-lt (t * components s + c) s.moving (l - s.fixed) (suc s.last * components s) row (omega (arith, i.fixed, i.moving)))

-- two cells with one place are one cell
pub place_same : (s : Sizes) (t c l t' c' l' : ℕ) → IsCell s t c l → IsCell s t' c' l' → place s t c l ≡ place s t' c' l' → (t ≡ t') × (c ≡ c') × (l ≡ l')
place_same s t c l t' c' l' i i' e =
    let p = row_same s.moving (t * components s + c) (l - s.fixed) (t' * components s + c') (l' - s.fixed) (omega (arith, i.fixed, i.moving)) (omega (arith, i'.fixed, i'.moving)) e in
    let q = row_same (components s) t c t' c' i.component i'.component p.0 in
    (q.0, q.1, omega (arith, p.1, i.fixed, i'.fixed))

-- the cell at a place, by division
abbrev pub hour_at : Sizes → ℕ → ℕ
hour_at s i = i / s.moving / components s

abbrev pub component_at : Sizes → ℕ → ℕ
component_at s i = i / s.moving % components s

abbrev pub label_at : Sizes → ℕ → ℕ
label_at s i = s.fixed + i % s.moving

pub cell_at : (s : Sizes) (i : ℕ) → i < cell_count s → IsCell s (hour_at s i) (component_at s i) (label_at s i)
cell_at s i l =
    let m : 0 < s.moving = factor_pos i (suc s.last * components s) s.moving l in
    let row : i / s.moving < suc s.last * components s = div_below i s.moving (suc s.last * components s) m l in
    let w : 0 < components s = factor_pos (i / s.moving) (suc s.last) (components s) row in
    let t : i / s.moving / components s < suc s.last = div_below (i / s.moving) (components s) (suc s.last) w row in
    record {
      hour = omega arith;
      component = mod_below (i / s.moving) (components s) w;
      fixed = omega arith;
      moving = omega (arith, mod_below i s.moving m);
    }

pub place_at : (s : Sizes) (i : ℕ) → place s (hour_at s i) (component_at s i) (label_at s i) ≡ i
place_at s i =
    let k : (s.fixed + i % s.moving) - s.fixed ≡ i % s.moving = omega arith in
    rw (k, div-add-mod' (i / s.moving) (components s)) (div-add-mod' i s.moving)

-- the cell of a place is the only one there
pub cell_only : (s : Sizes) (t c l : ℕ) → IsCell s t c l → (hour_at s (place s t c l) ≡ t) × (component_at s (place s t c l) ≡ c) × (label_at s (place s t c l) ≡ l)
cell_only s t c l i =
    place_same s (hour_at s (place s t c l)) (component_at s (place s t c l)) (label_at s (place s t c l)) t c l
    (cell_at s (place s t c l) (place_lt s t c l i)) i (place_at s (place s t c l))

-- how many cells an hour has
abbrev pub hour_cells : Sizes → ℕ
hour_cells s = components s * s.moving

-- the cells of an hour stand together: hour t has the places from t * hour_cells on, hour_cells of them
pub place_hour : (s : Sizes) (t c l : ℕ) → place s t c l ≡ t * hour_cells s + (c * s.moving + (l - s.fixed))
place_hour s t c l = omega (arith, add-mul (t * components s) c s.moving, mul_assoc t (components s) s.moving)

pub column_lt : (s : Sizes) (t c l : ℕ) → IsCell s t c l → c * s.moving + (l - s.fixed) < hour_cells s
column_lt s t c l i =
    rw (mul_comm (components s) s.moving) (mul-add-lt c s.moving (l - s.fixed) (components s) i.component (omega (arith, i.fixed, i.moving)))

pub hour_places : (s : Sizes) (t c l : ℕ) → IsCell s t c l → (t * hour_cells s ≤ place s t c l) × (place s t c l < t * hour_cells s + hour_cells s)
hour_places s t c l i = (omega (arith, place_hour s t c l), omega (arith, place_hour s t c l, column_lt s t c l i))

-- and the hour of each of these places is t
pub hour_of_place : (s : Sizes) (t i : ℕ) → i < cell_count s → t * hour_cells s ≤ i → i < t * hour_cells s + hour_cells s → hour_at s i ≡ t
hour_of_place s t i l low high =
    let a = hour_places s (hour_at s i) (component_at s i) (label_at s i) (cell_at s i l) in
    let b = rw (place_at s i) at a in
    (row_same (hour_cells s) (hour_at s i) (i - hour_at s i * hour_cells s) t (i - t * hour_cells s)
    (omega (arith, b.0, b.1)) (omega arith) (omega (arith, b.0))).0

-- the order of cells: by the hour, then by the component, then by the label
abbrev pub Earlier : ℕ → ℕ → ℕ → ℕ → ℕ → ℕ → Type 0
Earlier t c l t' c' l' = (t < t') ⊎ ((t ≡ t') × ((c < c') ⊎ ((c ≡ c') × (l < l'))))

earlier_place : (s : Sizes) (t c l t' c' l' : ℕ) → IsCell s t c l → IsCell s t' c' l' → Earlier t c l t' c' l' → place s t c l < place s t' c' l'
earlier_place s t c l t' c' l' i i' =
    ⊎_elim
    (λ h. row_before s.moving _ _ _ _ (row_before (components s) t c t' c' h i.component) column)
    (λ h. subst (λ (n : ℕ). place s t c l < place s n c' l') h.0 (⊎_elim next_component next_label h.1))
  where
    column : l - s.fixed < s.moving
    column = omega (arith, i.fixed, i.moving)

    next_component : c < c' → place s t c l < place s t c' l'
    next_component q = row_before s.moving (t * components s + c) (l - s.fixed) (t * components s + c') (l' - s.fixed) (omega arith) column

    next_label : (c ≡ c') × (l < l') → place s t c l < place s t c' l'
    next_label q = subst (λ (n : ℕ). place s t c l < place s t n l') q.0 (omega (arith, q.1, i.fixed, i'.fixed))

-- places are in the order of the cells
pub place_order : (s : Sizes) (t c l t' c' l' : ℕ) → IsCell s t c l → IsCell s t' c' l' → Iff (Earlier t c l t' c' l') (place s t c l < place s t' c' l')
place_order s t c l t' c' l' i i' = (earlier_place s t c l t' c' l' i i', back)
  where
    later : Earlier t' c' l' t c l → place s t c l < place s t' c' l' → ⊥
    later h lt = omega (arith, earlier_place s t' c' l' t c l i' i h)

    same : t ≡ t' → c ≡ c' → l ≡ l' → place s t c l ≡ place s t' c' l'
    same et ec el = cc

    back : place s t c l < place s t' c' l' → Earlier t c l t' c' l'
    back lt =
        ⊎_elim
        (λ et. ⊎_elim
        (λ ec. ⊎_elim
        (λ el. absurd (omega (arith, same et ec el)))
        (⊎_elim (λ h. inr (et, inr (ec, h))) (λ h. absurd (later (inr (sym et, inr (sym ec, h))) lt)))
        (cases_order l l'))
        (⊎_elim (λ h. inr (et, inl h)) (λ h. absurd (later (inr (sym et, inl h)) lt)))
        (cases_order c c'))
        (⊎_elim inl (λ h. absurd (later (inl h) lt)))
        (cases_order t t')

-- sizes of 8 and 16 bits give few cells
pub cells_few : (last comps moving : ℕ) → last ≤ 255 → comps ≤ 131070 → moving ≤ 255 → (last + 1) * comps * moving ≤ 8556249600
cells_few last comps moving a b c = mul-le ((last + 1) * comps) moving 33553920 255 (mul-le (last + 1) comps 256 131070 (omega arith) b) c

pub row_few : (t comps c moving : ℕ) → t ≤ 255 → comps ≤ 131070 → c ≤ 65535 → moving ≤ 255 → (t * comps + c) * moving ≤ 8539538175
row_few t comps c moving a b d e = mul-le (t * comps + c) moving 33488385 255 (omega (arith, mul-le t comps 255 131070 a b)) e
