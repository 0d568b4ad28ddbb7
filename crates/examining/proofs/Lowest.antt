-- The lowest record that fails. Assumes nothing.
use Rattle.std.proofs.Common.{◌≡◌, ℕ, zero, suc, ◌+◌, ◌<◌, Bool, true, false, not, cond, List, [], ◌∷◌, Some, None, Option, Ok, Err, Result, MatchOption, length, sym, refl, subst, ◌∙◌, arith}
use Rattle.std.specs.List.{position, position_from}
use Rattle.std.proofs.lemmas.List.Quantifiers.{position-Some}
use Rattle.std.proofs.lemmas.Iterator.Adapters.{position_from-zero}
use Rattle.points.specs.Tables.{at_place}
use Rattle.points.proofs.Tabled.{at-get_or}
use Rattle.examining.specs.declared.defects.Defect.{Defect}
use Rattle.examining.specs.Defects.{number_of, place_of}
use Rattle.examining.specs.Examine.{Check, Lowest, FailsAt, Found}

pass_by : {A : Type 0} (b : Bool) (x : A) {r : Option A} → cond b (Some x) r ≡ None → (b ≡ false) × (r ≡ None)
pass_by true x e = grind arith
pass_by false x e = (refl, e)

passing : (b w : Bool) → b ≡ not w → b ≡ false → w ≡ true
passing b true e n = refl
passing b false e n = grind arith

failing : (b w : Bool) → b ≡ not w → b ≡ true → w ≡ false
failing b true e n = grind arith
failing b false e n = refl

-- `p` is the test that finds a record that does not pass `f`
module _ {A : Type 0} (p f : A → Bool) (finds : (x : A) → p x ≡ not (f x)) where
  none_from : (n : ℕ) (xs : List A) → position_from p n xs ≡ None → (k : ℕ) → k < length xs → at_place true f xs k ≡ true
  unfolding at_place
  none_from n [] e k l = absurd (omega arith)
  none_from n (y ∷ ys) e zero l = passing _ _ (finds y) (pass_by (p y) n e).0
  none_from n (y ∷ ys) e (suc k) l = none_from (n + 1) ys (pass_by (p y) n e).1 k (omega arith)

  -- the first record that is found is the lowest that fails
  pub lowest_position : (xs : List A) (r : Option ℕ) → r ≡ position p xs → Lowest (length xs) (at_place true f xs) r
  lowest_position xs None e = none_from 0 xs (sym (e ∙ position_from-zero p xs))
  lowest_position [] (Some i) e = grind arith
  lowest_position (y ∷ ys) (Some i) e =
      let at = position-Some p (y ∷ ys) i y (sym e) in (
        at.0,
        at-get_or true f (y ∷ ys) i y at.0 ∙ failing _ _ (finds _) at.1,
        λ k less. at-get_or true f (y ∷ ys) k y (omega (arith, at.0)) ∙ passing _ _ (finds _) (at.2 k less),
      )

-- a check that refuses the lowest place at which it fails, by a defect that has its number and that place, answers as it should
module _ (c : Check) (make : ℕ → Defect) (number : (i : ℕ) → number_of (make i) ≡ c.number) (place : (i : ℕ) → place_of (make i) ≡ i) where
  pub found : (o : Option ℕ) (r : Result (Unit {0}) Defect) → Lowest c.extent c.passes o → MatchOption o (r ≡ Ok tt) (λ i. r ≡ Err (make i)) → Found c r
  found None r low e = subst (Found c) (sym e) low
  found (Some i) r low e = subst (Found c) (sym e) (number i, subst (FailsAt c) (sym (place i)) low)
