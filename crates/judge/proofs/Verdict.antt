-- The verdicts on a component, worked out one after the other. Assumes nothing.
use Rattle.std.proofs.Common.{◌≡◌, ℕ, zero, suc, ◌+◌, ◌<◌, ◌≤◌, Bool, false, eqb, List, ◌∷◌, length, get_or, set, drop, replicate, sym, refl, ap, ◌∙◌, ⊎_elim, add-one, arith, length-drop, length-set, get_or-set_other, get_or-set_same}
use Rattle.std.proofs.lemmas.Bool.{cases_eq, cases_lt, ne_eqb, cond-false}
use Rattle.std.proofs.lemmas.List.{drop_more, drop_all, get_or_past, get_or-replicate, length-replicate}
use Rattle.points.specs.Points.{Points}
use Rattle.house.specs.declared.tables.House.{House}
use Rattle.house.specs.declared.tables.Condition.{Condition}
use Rattle.fitting.specs.Conditions.{verdict, said}
use Rattle.fitting.proofs.Said.{verdict_same, said_here, said_before, said_stays}
use Rattle.judge.specs.Judged.{Judges}

-- the next of a list
next_of : {A : Type 0} (xs : List A) (i : ℕ) (y : A) (ys : List A) → drop i xs ≡ y ∷ ys → (i < length xs) × (y ≡ get_or xs i y) × (ys ≡ drop (i + 1) xs)
next_of xs i y ys e =
    ⊎_elim
    (λ lt. let more = drop_more xs i y lt in (lt, (cc), (cc)))
    (λ le. let none = drop_all i xs le in absurd (cc))
    (cases_lt i (length xs))

module _ {S : Type 0} (n : ℕ) (has : S → Points) (h : House S) (c : ℕ) where
  -- what is not worked out yet is not said
  pub said_later : (m i : ℕ) → m ≤ i → said n has h c m i ≡ false
  unfolding said
  said_later zero i l = refl
  said_later (suc m) i l = cond-false (eqb i m) _ _ (ne_eqb i m (λ e. omega arith)) ∙ said_later m i (omega arith)

  -- the conditions before m are worked out, `rest` are those that follow, and there is room for `left` more
  pub record Worked (rest : List Condition) (left m : ℕ) (xs : List Bool) : Type 0 where
    pub rest_is : rest ≡ drop m h.conditions.now
    pub left_is : left + m ≡ 64
    pub within : m ≤ length h.conditions.now
    pub sixty_four : length xs ≡ 64
    pub says : (j : ℕ) → get_or xs j false ≡ said n has h c m j

  pub worked_none : (rest : List Condition) (left m : ℕ) → rest ≡ h.conditions.now → left ≡ 64 → m ≡ 0 → Worked rest left m (replicate 64 false)
  worked_none rest left m er el em =
      record {
        rest_is = rw em er;
        left_is = omega arith;
        within = omega arith;
        sixty_four = length-replicate 64 false;
        says = λ j. rw em (⊎_elim (λ l. get_or-replicate 64 j false false l) (λ l. get_or_past (replicate 64 false) j false (simp length-replicate l)) (cases_lt j 64) ∙ sym (said_later 0 j (omega arith)));
      }

  pub worked_more : (rest rest' : List Condition) (left left' i m m' : ℕ) (xs : List Bool) (k : Condition) (v : Bool) → Worked rest left m xs → rest ≡ k ∷ rest' → left' + 1 ≡ left → i ≡ m → m' ≡ m + 1 →
      v ≡ verdict n has h c (λ j. get_or xs j false) k → Worked rest' left' m' (set xs i v)
  worked_more rest rest' left left' i m m' xs k v w er el ei em e =
      record {
        rest_is = rw em at-next.1.1;
        left_is = omega (arith, w.left_is);
        within = omega (arith, at-next.0);
        sixty_four = simp length-set w.sixty_four;
        says = λ j. rw (em, ei, add-one m) (⊎_elim
            (λ same. rw same (get_or-set_same xs m v false (omega (arith, w.left_is, w.sixty_four)) ∙ (e ∙ (verdict_same n has h c (λ l. get_or xs l false) (said n has h c m) k (λ _. w.says _) (λ _. w.says _)
            ∙ sym (said_here n has h c m k at-next.0 at-next.1.0)))))
            (λ ne. get_or-set_other xs m j v false ne ∙ (w.says j ∙ sym (said_before n has h c m j ne)))
            (cases_eq j m));
      }
    where
      at-next : (m < length h.conditions.now) × ((k ≡ get_or h.conditions.now m k) × (rest' ≡ drop (m + 1) h.conditions.now))
      at-next = let a = next_of h.conditions.now m k rest' (sym w.rest_is ∙ er) in (a.0, (a.1, a.2))

  -- what the first 64 conditions say is what they say among all
  pub worked_all : (rest : List Condition) (left m : ℕ) (xs : List Bool) → Worked rest left m xs → (0 < left → length rest ≡ 0) → Judges n has h c (record { said = xs })
  worked_all rest left m xs w end =
      record {
        sixty_four = w.sixty_four;
        each = λ i l. w.says i ∙ ⊎_elim
            (λ full. sym (said_stays n has h c (length h.conditions.now) i m (omega (arith, w.left_is)) w.within))
            (λ some. let none = end some in let all : m ≡ length h.conditions.now = omega (arith, w.within, none, ap length w.rest_is, length-drop m h.conditions.now) in
            ap (λ (k : ℕ). said n has h c k i) all)
            (cases_lt left 1);
      }
