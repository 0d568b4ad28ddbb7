-- One write after another. Assumes nothing.
use Rattle.std.proofs.Common.{◌≡◌, ℕ, ◌+◌, ◌-◌, ◌<◌, Bool, true, false, cond, not, ◌&&◌, ◌||◌, eqb, List, length, get_or, take, Some, None, sym, refl, ap, ◌∙◌}
use Rattle.std.proofs.lemmas.Bool.{and_parts, and_from, and_left, both_ways, eqb-true, eq-eqb, ne_eqb, cond-true, cond-false}
use Rattle.std.proofs.lemmas.List.{take_more}
use Rattle.std.proofs.lemmas.List.Recursion.{and_push, or_push}
use Rattle.points.specs.Points.{Points, Among, Same, implies}
use Rattle.points.specs.Tables.{all_pass, one_passes}
use Rattle.points.proofs.Decided.{implies_use, implies_from}
use Rattle.house.specs.declared.tables.Sizes.{Sizes}
use Rattle.house.specs.declared.tables.Cell.{Cell}
use Rattle.house.specs.declared.tables.Fact.{Fact}
use Rattle.house.specs.Cells.{covers}
use Rattle.fitting.specs.Course.{Course, Within, loosest}
use Rattle.fitting.specs.Step.{fact_grants}
use Rattle.writes.specs.Written.{Narrowed, on_cell, at_hour, facts_grant, Freed, one_cell, covered, Repeats, Covered}

-- one record more of a table
pub all_more : {A : Type 0} (f : A → Bool) (xs : List A) (i : ℕ) (x : A) → i < length xs → x ≡ get_or xs i x → all_pass f (take (i + 1) xs) ≡ (all_pass f (take i xs) && f x)
unfolding all_pass
all_more f xs i x lt is =
    ap (all_pass f) (take_more xs i x lt) ∙ (and_push (all_pass f) f refl (λ _ _. refl) (take i xs) (get_or xs i x) ∙ ap (λ y. all_pass f (take i xs) && f y) (sym is))

pub one_more : {A : Type 0} (f : A → Bool) (xs : List A) (i : ℕ) (x : A) → i < length xs → x ≡ get_or xs i x → one_passes f (take (i + 1) xs) ≡ (one_passes f (take i xs) || f x)
unfolding one_passes
one_more f xs i x lt is =
    ap (one_passes f) (take_more xs i x lt) ∙ (or_push (one_passes f) f refl (λ _ _. refl) (take i xs) (get_or xs i x) ∙ ap (λ y. one_passes f (take i xs) || f y) (sym is))

-- narrowing that leaves all, and narrowing twice
pub narrowed_none : (a g : Course) → ((t c l p : ℕ) → g t c l p ≡ true) → Narrowed a g a
unfolding Narrowed
narrowed_none a g all t c l p = rw (all t c l p) (same (a t c l p))
  where
    same : (x : Bool) → x ≡ (x && true)
    same true = refl
    same false = refl

pub narrowed_as : (a b g g' : Course) → Narrowed a g b → ((t c l p : ℕ) → g t c l p ≡ g' t c l p) → Narrowed a g' b
unfolding Narrowed
narrowed_as a b g g' n e t c l p = n t c l p ∙ ap (λ (x : Bool). a t c l p && x) (e t c l p)

pub narrowed_then : (a b c g g' g'' : Course) → Narrowed a g b → Narrowed b g' c → ((t u l p : ℕ) → g'' t u l p ≡ (g t u l p && g' t u l p)) → Narrowed a g'' c
unfolding Narrowed
narrowed_then a b c g g' g'' n m e t u l p =
    m t u l p ∙ ap (λ (x : Bool). x && g' t u l p) (n t u l p) ∙ assoc (a t u l p) _ _ ∙ ap (λ (x : Bool). a t u l p && x) (sym (e t u l p))
  where
    assoc : (x y z : Bool) → (x && y && z) ≡ (x && (y && z))
    assoc true y z = refl
    assoc false y z = refl

-- where two things ask at one hour
implies_both : (x y z : Bool) → implies x (y && z) ≡ (implies x y && implies x z)
unfolding implies
implies_both true y z = refl
implies_both false y z = refl

pub hour_more : (hour : ℕ) (a b c g g' g'' : Course) → Narrowed a (at_hour hour g) b → Narrowed b (at_hour hour g') c → ((t u l p : ℕ) → g'' t u l p ≡ (g t u l p && g' t u l p)) → Narrowed a (at_hour hour g'') c
unfolding at_hour
hour_more hour a b c g g' g'' n m e =
    narrowed_then a b c (at_hour hour g) (at_hour hour g') (at_hour hour g'') n m
    (λ t u l p. ap (implies (eqb t hour)) (e t u l p) ∙ implies_both (eqb t hour) (g t u l p) (g' t u l p))

pub hour_none : (hour : ℕ) (a g : Course) → ((t c l p : ℕ) → g t c l p ≡ true) → Narrowed a (at_hour hour g) a
unfolding at_hour implies
hour_none hour a g all = narrowed_none a (at_hour hour g) (λ t c l p. rw (all t c l p) (any (eqb t hour)))
  where
    any : (x : Bool) → implies x true ≡ true
    any true = refl
    any false = refl

-- facts
module _ {S : Type 0} (has : S → Points) where
  pub fact_on : (f : Fact S) (hour : ℕ) (x : Cell) (a b : Course) → Covered f hour (Some x) → Narrowed a (on_cell x.hour x.component x.label (has f.bound)) b →
      Narrowed a (at_hour hour (λ t c l p. fact_grants has t c l p f)) b
  unfolding at_hour on_cell fact_grants one_cell implies
  fact_on f hour x a b on n =
      narrowed_as a b (on_cell x.hour x.component x.label (has f.bound)) (at_hour hour (λ t c l p. fact_grants has t c l p f)) n
      (λ t c l p. rw on.0 (pick (eqb t hour) _ (covers t c l f) (has f.bound p) (λ e. rw (eqb-true t hour e) (on.1 c l))))
    where
      pick : (w y z b' : Bool) → (w ≡ true → z ≡ y) → implies (w && y) b' ≡ implies w (implies z b')
      pick true y z b' k = rw (k refl)
      pick false y z b' k = refl

  pub fact_off : (f : Fact S) (hour : ℕ) (a : Course) → Covered f hour None → Narrowed a (at_hour hour (λ t c l p. fact_grants has t c l p f)) a
  unfolding at_hour fact_grants
  fact_off f hour a off =
      narrowed_none a (at_hour hour (λ t c l p. fact_grants has t c l p f))
      (λ t c l p. implies_from (eqb t hour) _ (λ e. implies_from (covers t c l f) (has f.bound p) (λ q. absurd (both_ways _ (rw (eqb-true t hour e) (off c l)) q))))

  pub facts_none : (hour : ℕ) (filed : List (Fact S)) (a : Course) → Narrowed a (at_hour hour (facts_grant has (take 0 filed))) a
  unfolding facts_grant all_pass
  facts_none hour filed a = hour_none hour a (facts_grant has (take 0 filed)) (λ t c l p. refl)

  pub facts_more : (hour : ℕ) (filed : List (Fact S)) (i : ℕ) (f : Fact S) (a b c : Course) → i < length filed → f ≡ get_or filed i f →
      Narrowed a (at_hour hour (facts_grant has (take i filed))) b → Narrowed b (at_hour hour (λ t c l p. fact_grants has t c l p f)) c → Narrowed a (at_hour hour (facts_grant has (take (i + 1) filed))) c
  unfolding facts_grant
  facts_more hour filed i f a b c lt is n m =
      hour_more hour a b c (facts_grant has (take i filed)) (λ t c l p. fact_grants has t c l p f) (facts_grant has (take (i + 1) filed)) n m (λ t u l p. all_more (fact_grants has t u l p) filed i f lt is)

-- freeing
pub freed_none : (s : Sizes) (n hour : ℕ) (free : ℕ → ℕ → Bool) (a : Course) → ((c l : ℕ) → free c l ≡ false) → Freed s n hour free a a
unfolding Freed
freed_none s n hour free a none t c l p = rw (none c l) (pick (eqb t hour))
  where
    pick : (x : Bool) → a t c l p ≡ cond (x && false) (loosest s n t c l p) (a t c l p)
    pick true = refl
    pick false = refl

pub freed_as : (s : Sizes) (n hour : ℕ) (f g : ℕ → ℕ → Bool) (a b : Course) → Freed s n hour f a b → ((c l : ℕ) → f c l ≡ g c l) → Freed s n hour g a b
unfolding Freed
freed_as s n hour f g a b e same t c l p = e t c l p ∙ ap (λ (x : Bool). cond (eqb t hour && x) (loosest s n t c l p) (a t c l p)) (same c l)

pub freed_then : (s : Sizes) (n hour : ℕ) (f g h : ℕ → ℕ → Bool) (a b c : Course) → Freed s n hour f a b → Freed s n hour g b c → ((u l : ℕ) → h u l ≡ (f u l || g u l)) → Freed s n hour h a c
unfolding Freed
freed_then s n hour f g h a b c ab bc e t u l p =
    bc t u l p ∙ ap (λ (x : Bool). cond (eqb t hour && g u l) (loosest s n t u l p) x) (ab t u l p)
    ∙ pick (eqb t hour) (f u l) (g u l) (loosest s n t u l p) (a t u l p)
    ∙ ap (λ (x : Bool). cond (eqb t hour && x) (loosest s n t u l p) (a t u l p)) (sym (e u l))
  where
    pick : (w x y z v : Bool) → cond (w && y) z (cond (w && x) z v) ≡ cond (w && (x || y)) z v
    pick true true true z v = refl
    pick true true false z v = refl
    pick true false true z v = refl
    pick true false false z v = refl
    pick false x y z v = refl

module _ {S : Type 0} (s : Sizes) (n : ℕ) where
  pub fact_frees : (f : Fact S) (hour : ℕ) (x : Cell) (a b : Course) → Covered f hour (Some x) → Freed s n x.hour (one_cell x.component x.label) a b → Freed s n hour (λ c l. covers hour c l f) a b
  fact_frees f hour x a b on e = freed_as s n hour (one_cell x.component x.label) (λ c l. covers hour c l f) a b (rw on.0 at e) (λ c l. sym (on.1 c l))

  pub covered_none : (hour : ℕ) (filed : List (Fact S)) (a : Course) → Freed s n hour (covered (take 0 filed) hour) a a
  unfolding covered one_passes
  covered_none hour filed a = freed_none s n hour (covered (take 0 filed) hour) a (λ c l. refl)

  pub covered_more : (hour : ℕ) (filed : List (Fact S)) (i : ℕ) (f : Fact S) (a b c : Course) → i < length filed → f ≡ get_or filed i f →
      Freed s n hour (covered (take i filed) hour) a b → Freed s n hour (λ c l. covers hour c l f) b c → Freed s n hour (covered (take (i + 1) filed) hour) a c
  unfolding covered
  covered_more hour filed i f a b c lt is ab bc =
      freed_then s n hour (covered (take i filed) hour) (λ c l. covers hour c l f) (covered (take (i + 1) filed) hour) a b c ab bc (λ u l. one_more (covers hour u l) filed i f lt is)

-- what is freed or repeated at one hour leaves the others as they were
pub freed_other : (s : Sizes) (n hour : ℕ) (free : ℕ → ℕ → Bool) (a b : Course) → Freed s n hour free a b → (t c l : ℕ) → (t ≡ hour → ⊥) → Same (b t c l) (a t c l)
unfolding Freed
freed_other s n hour free a b e t c l ne p = e t c l p ∙ cond-false _ _ _ (and_left _ (free c l) (ne_eqb t hour ne))

pub freed_here : (s : Sizes) (n hour : ℕ) (free : ℕ → ℕ → Bool) (a b : Course) → Freed s n hour free a b → (c l p : ℕ) → b hour c l p ≡ cond (free c l) (loosest s n hour c l p) (a hour c l p)
unfolding Freed
freed_here s n hour free a b e c l p = e hour c l p ∙ ap (λ (x : Bool). cond (x && free c l) (loosest s n hour c l p) (a hour c l p)) (eq-eqb hour hour refl)

pub repeats_other : (hour : ℕ) (a b : Course) → Repeats hour a b → (t c l : ℕ) → (t ≡ hour → ⊥) → Same (b t c l) (a t c l)
unfolding Repeats
repeats_other hour a b e t c l ne p = e t c l p ∙ cond-false _ _ _ (ne_eqb t hour ne)

pub repeats_here : (hour : ℕ) (a b : Course) → Repeats hour a b → (c l : ℕ) → Same (b hour c l) (a (hour - 1) c l)
unfolding Repeats
repeats_here hour a b e c l p = e hour c l p ∙ cond-true _ _ _ (eq-eqb hour hour refl)

-- what is narrowed at one hour leaves the others as they were, and narrows
pub narrowed_within : (a g b : Course) → Narrowed a g b → Within b a
unfolding Narrowed
narrowed_within a g b n t c l p e = (and_parts (a t c l p) (g t c l p) (sym (n t c l p) ∙ e)).0

pub narrowed_grants : (hour : ℕ) (a g b : Course) → Narrowed a (at_hour hour g) b → (c l : ℕ) → Among (b hour c l) (g hour c l)
unfolding Narrowed at_hour
narrowed_grants hour a g b n c l p e = implies_use (eqb hour hour) (g hour c l p) (and_parts (a hour c l p) _ (sym (n hour c l p) ∙ e)).1 (eq-eqb hour hour refl)

pub narrowed_keeps : (hour : ℕ) (a g b : Course) → Narrowed a (at_hour hour g) b → (c l p : ℕ) → a hour c l p ≡ true → g hour c l p ≡ true → b hour c l p ≡ true
unfolding Narrowed at_hour
narrowed_keeps hour a g b n c l p e x = n hour c l p ∙ and_from (a hour c l p) _ e (implies_from (eqb hour hour) (g hour c l p) (λ _. x))

pub narrowed_other : (hour : ℕ) (a g b : Course) → Narrowed a (at_hour hour g) b → (t c l : ℕ) → (t ≡ hour → ⊥) → Same (b t c l) (a t c l)
unfolding Narrowed at_hour implies
narrowed_other hour a g b n t c l ne p = n t c l p ∙ ap (λ (x : Bool). a t c l p && (not x || g t c l p)) (ne_eqb t hour ne) ∙ all (a t c l p)
  where
    all : (x : Bool) → (x && true) ≡ x
    all true = refl
    all false = refl
