-- What a course that is settled hour by hour has to keep: nothing that a fitting course has is lost, and what an hour
-- grants is not lost by later hours. Assumes nothing.
use Rattle.std.proofs.Common.{◌≡◌, ℕ, ◌-◌, ◌<◌, ◌≤◌, true, List, length, get_or, sym, ◌∙◌, ⊎_elim, arith}
use Rattle.std.proofs.lemmas.Bool.{cases_lt}
use Rattle.points.specs.Points.{Points, Among}
use Rattle.points.proofs.Tabled.{all_use}
use Rattle.house.specs.declared.tables.House.{House}
use Rattle.house.specs.declared.tables.Fact.{Fact}
use Rattle.house.specs.declared.tables.Rule.{Rule}
use Rattle.house.specs.declared.tables.Constraint.{Constraint}
use Rattle.fitting.specs.Course.{Course, SameUpto, Cell}
use Rattle.fitting.specs.Fits.{Fits}
use Rattle.fitting.specs.Step.{fact_grants, constraint_grants, rule_grants, carry_grants, granted}
use Rattle.fitting.proofs.Narrow.{Narrows, constraint_mono, rule_mono, carry_mono}
use Rattle.fitting.proofs.Frame.{rule_early, granted_same}
use Rattle.fitting.proofs.Rest.{parts, fits_granted, granted_fits, cell_numbers}

-- as a delay is not 0, a rule looks at earlier hours
pub rule_mono_before : {S : Type 0} (n : ℕ) (has : S → Points) (h : House S) (few : h.sizes.nodes ≤ 200) (says : ℕ → ℕ → ℕ → Points) (falls : Narrows says)
    (a b : Course) (t c l p : ℕ) (r : Rule) → 1 ≤ r.delay → ((t' u j : ℕ) → t' < t → Among (a t' u j) (b t' u j)) →
    rule_grants n has h says a t c l p r ≡ true → rule_grants n has h says b t c l p r ≡ true
rule_mono_before n has h few says falls a b t c l p r one ab e =
    ⊎_elim (λ lt. rule_early n has h says b t c l p r lt) (λ le. rule_mono n has h few says falls a b t c l p r (λ u j. ab (t - r.delay) u j (omega arith)) e) (cases_lt t r.delay)

-- each point of a fitting course is granted by each fact, constraint and rule and by carrying, on every looser course
module _ {S : Type 0} (n : ℕ) (has : S → Points) (h : House S) (says : ℕ → ℕ → ℕ → Points) (filed : List (Fact S)) (a : Course) (fit : Fits n has h says filed a)
    (t c l : ℕ) (cell : Cell h.sizes t c l) (p : ℕ) (point : a t c l p ≡ true) where
  pub fact_keeps : (i : ℕ) (f : Fact S) → i < length filed → f ≡ get_or filed i f → fact_grants has t c l p f ≡ true
  fact_keeps i f lt q = all_use _ filed (parts n has h says filed a t c l p (fits_granted n has h says filed a fit t c l cell p point)).by_facts i lt f q

  pub constraint_keeps : (b : Course) → ((j : ℕ) → Among (a t c j) (b t c j)) → (i : ℕ) (k : Constraint) → i < length h.constraints.now → k ≡ get_or h.constraints.now i k →
      constraint_grants n has h b t c l p k ≡ true
  constraint_keeps b ab i k lt q =
      constraint_mono n has h a b t c l p k ab
      (all_use _ h.constraints.now (parts n has h says filed a t c l p (fits_granted n has h says filed a fit t c l cell p point)).by_constraints i lt k q)

  pub rule_keeps : h.sizes.nodes ≤ 200 → Narrows says → (b : Course) → ((t' u j : ℕ) → t' < t → Among (a t' u j) (b t' u j)) →
      (i : ℕ) (r : Rule) → i < length h.rules.now → r ≡ get_or h.rules.now i r → 1 ≤ r.delay → rule_grants n has h says b t c l p r ≡ true
  rule_keeps few falls b ab i r lt q one =
      rule_mono_before n has h few says falls a b t c l p r one ab
      (all_use _ h.rules.now (parts n has h says filed a t c l p (fits_granted n has h says filed a fit t c l cell p point)).by_rules i lt r q)

  pub carry_keeps : (b : Course) → (1 ≤ t → Among (a (t - 1) c l) (b (t - 1) c l)) → carry_grants n has h filed b t c l p ≡ true
  carry_keeps b ab = carry_mono n has h filed a b t c l p ab (parts n has h says filed a t c l p (fits_granted n has h says filed a fit t c l cell p point)).by_carrying

module _ {S : Type 0} (n : ℕ) (has : S → Points) (h : House S) (says : ℕ → ℕ → ℕ → Points) (filed : List (Fact S)) where
  -- at hour t every cell's points are granted
  abbrev pub GrantedAt : Course → ℕ → Type 0
  GrantedAt a t = (c l : ℕ) → Cell h.sizes t c l → Among (a t c l) (granted n has h says filed a t c l)

  -- later hours do not matter
  pub granted_at_same : (a b : Course) (t : ℕ) → SameUpto t a b → GrantedAt a t → GrantedAt b t
  granted_at_same a b t ab all c l cell p e = sym (granted_same n has h a b says filed t ab c l p) ∙ all c l cell p (ab t c l (omega arith) p ∙ e)

  -- a course whose hours are all granted fits
  pub hours_fit : (a : Course) → ((t : ℕ) → t ≤ h.sizes.last → GrantedAt a t) → Fits n has h says filed a
  hours_fit a all = granted_fits n has h says filed a (λ t c l cell. all t (cell_numbers h.sizes t c l cell).0 c l cell)
