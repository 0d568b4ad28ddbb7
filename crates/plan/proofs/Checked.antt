-- Checks one after the other, and facts that are all inside. Assumes nothing.
use Rattle.std.proofs.Common.{◌≡◌, ℕ, suc, Bool, true, leb, List, [], ◌∷◌, ◌++◌, Some, None, Option, Ok, Err, Result, MatchOption, length, take, ap, ◌∙◌, sym, subst, inl, inr, ⊎_elim, arith}
use Rattle.std.specs.List.{remove, All}
use Rattle.std.proofs.lemmas.List.Elements.{All-append, All-take, All-drop}
use Rattle.points.specs.Points.{Points}
use Rattle.points.proofs.Tabled.{at_from}
use Rattle.house.specs.declared.tables.Sizes.{Sizes}
use Rattle.house.specs.declared.tables.Fact.{Fact}
use Rattle.house.specs.declared.tables.House.{House}
use Rattle.house.specs.Cells.{fact_inside}
use Rattle.examining.specs.declared.defects.Defect.{Defect}
use Rattle.examining.specs.Examine.{Check, Lowest, Clear, FailsAt, AllClear, FirstFails, checks}
use Rattle.examining.specs.Defects.{number_of as defect_number, place_of as defect_place}
use Rattle.plan.specs.declared.refusals.Refusal.{Refusal}
use Rattle.plan.specs.declared.refusals.Refusal.TheVariants.{House as HouseCase}
use Rattle.plan.specs.Refusals.{number_of, place_of}
use Rattle.plan.specs.Orders.{RefusedBy, Checked, once, table_holds, facts_fit, course_long, settle_checks}

pub clear_append : (cs ds : List Check) → AllClear cs → AllClear ds → AllClear (cs ++ ds)
clear_append [] ds all more = more
clear_append (c ∷ cs) ds all more = (all.0, clear_append cs ds all.1 more)

pub clear_front : (cs ds : List Check) → AllClear (cs ++ ds) → AllClear cs
clear_front [] ds all = tt
clear_front (c ∷ cs) ds all = (all.0, clear_front cs ds all.1)

pub clear_back : (cs ds : List Check) → AllClear (cs ++ ds) → AllClear ds
clear_back [] ds all = all
clear_back (c ∷ cs) ds all = clear_back cs ds all.1

-- the first of more checks fails: one of the front ones, or one of the others after these are clear
pub fails_front : (cs ds : List Check) (k i : ℕ) → FirstFails cs k i → FirstFails (cs ++ ds) k i
fails_front [] ds k i f = absurd f
fails_front (c ∷ cs) ds k i f = ⊎_elim inl (λ h. inr (h.0, fails_front cs ds k i h.1)) f

pub fails_back : (cs ds : List Check) (k i : ℕ) → AllClear cs → FirstFails ds k i → FirstFails (cs ++ ds) k i
fails_back [] ds k i all f = f
fails_back (c ∷ cs) ds k i all f = inr (all.0, fails_back cs ds k i all.1 f)

-- a check with one place
pub once_use : (k : ℕ) (b : Bool) → Clear (once k b) → b ≡ true
once_use k b clear = clear 0 (omega arith)

pub once_clear : (k : ℕ) (b : Bool) → b ≡ true → Clear (once k b)
once_clear k b e i l = e

-- a check alone that refuses the lowest place at which it fails, by its number and that place
pub checked_one : (c : Check) (make : ℕ → Refusal) → ((i : ℕ) → number_of (make i) ≡ c.number) → ((i : ℕ) → place_of (make i) ≡ i) →
    (o : Option ℕ) (r : Result (Unit {0}) Refusal) → Lowest c.extent c.passes o → MatchOption o (r ≡ Ok tt) (λ i. r ≡ Err (make i)) → Checked (c ∷ []) r
checked_one c make number place None r low e = subst (Checked (c ∷ [])) (sym e) (low, tt)
checked_one c make number place (Some i) r low e = subst (Checked (c ∷ [])) (sym e) (inl (number i, subst (FailsAt c) (sym (place i)) low))

module _ {S : Type 0} (s : Sizes) where
  abbrev pub IsInside : Fact S → Type 0
  IsInside f = fact_inside s f ≡ true

  -- each fact of a list is inside the house
  abbrev pub AllInside : List (Fact S) → Type 0
  AllInside fs = All IsInside fs

  pub inside_clear : (fs : List (Fact S)) → AllInside fs → Clear (facts_fit s fs)
  inside_clear fs h i l = at_from (fact_inside s) fs i (λ m f q. ap (fact_inside s) q ∙ h i f m)

  pub inside_removed : (fs : List (Fact S)) (i : ℕ) → AllInside fs → AllInside (remove fs i)
  inside_removed fs i h = All-append IsInside _ _ (All-take IsInside i fs h) (All-drop IsInside (suc i) fs h)

-- what the parts of settle's checks refuse, settle refuses
module _ {S : Type 0} (n : ℕ) (has : S → Points) (h : House S) (formulas count : ℕ) (table : List (Fact S)) (long : ℕ) where
  abbrev later : List Check
  later = table_holds count (length table) ∷ facts_fit h.sizes (take count table) ∷ course_long h.sizes long ∷ []

  pub examine_refuses : (d : Defect) → FirstFails (checks n has h formulas) (defect_number d) (defect_place d) →
      RefusedBy (settle_checks n has h formulas count table long) (HouseCase d)
  examine_refuses d f = fails_front (checks n has h formulas) later (defect_number d) (defect_place d) f

  pub facts_refuse : (r : Refusal) → AllClear (checks n has h formulas) → leb count (length table) ≡ true →
      RefusedBy (facts_fit h.sizes (take count table) ∷ []) r → RefusedBy (settle_checks n has h formulas count table long) r
  facts_refuse r all holds f =
      fails_back (checks n has h formulas) later (number_of r) (place_of r) all
      (inr ((λ i l. holds), fails_front (facts_fit h.sizes (take count table) ∷ []) (course_long h.sizes long ∷ []) (number_of r) (place_of r) f))
