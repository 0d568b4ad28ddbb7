-- Ranges of points: when one is void, when one is within another, and that its form says its points. Assumes nothing.
use Rattle.std.specs.Prelude.{◌≡◌, ℕ, ◌<◌, ◌≤◌, min, Bool, true, false, ◌⊎◌, refl}
use Rattle.std.proofs.Common.{⊎_elim, inl, inr, sym, ap, ◌∙◌, arith}
use Rattle.std.proofs.lemmas.Bool.{true≢false, cases_Bool, cases_lt}
use Rattle.std.proofs.lemmas.Bool.Decides.{same_from_decides, nat_tests}
use Rattle.points.specs.Points.{Iff, Same, within, void}
use Rattle.points.proofs.Decided.{within_decides, void_decides}
use Rattle.scale.specs.declared.ranges.Thousandths.{Thousandths}
use Rattle.scale.specs.Forms.{halves}
use Rattle.scale.specs.FourBytes.{halves_apart}
use Rattle.scale.specs.Ranges.{range, points, ranging, named, range_form, Canonical, RangesApart}

pub range_use : (low high p : ℕ) → range low high p ≡ true → (low ≤ p) × (p ≤ high) × (p < 1001)
range_use low high p e = grind (arith, nat_tests)

pub range_from : (low high p : ℕ) → low ≤ p → p ≤ high → p < 1001 → range low high p ≡ true
range_from low high p a b c = grind (arith, nat_tests)

-- an answer that is right at yes, and gives a witness at no, is void
pub is_void : (low high : ℕ) (r : Bool) → (r ≡ true → low ≤ high → low < 1001 → ⊥) → (r ≡ false → (low ≤ high) × (low < 1001)) → r ≡ void 1001 (range low high)
is_void low high r f g =
    same_from_decides r (void 1001 (range low high)) (
      (λ e p h. let u = range_use low high p h in f e (omega arith) (omega arith)),
      λ none. ⊎_elim (λ e. e) (λ e. absurd (none low (range_from low high low (omega arith) (g e).0 (g e).1))) (cases_Bool r),
    )
    (void_decides 1001 (range low high) (λ p h. (range_use low high p h).2))

-- and so is one that is within
pub is_within : (l h m k : ℕ) (r : Bool) → (r ≡ true → (p : ℕ) → l ≤ p → p ≤ h → p < 1001 → (m ≤ p) × (p ≤ k)) →
    (r ≡ false → (p : ℕ) × (l ≤ p) × (p ≤ h) × (p < 1001) × (m ≤ p → p ≤ k → ⊥)) → r ≡ within 1001 (range l h) (range m k)
is_within l h m k r f g =
    same_from_decides r (within 1001 (range l h) (range m k)) (
      (λ e p u. let w = range_use l h p u in let z = f e p w.0 w.1 w.2 in range_from m k p z.0 z.1 w.2),
      λ all. ⊎_elim (λ e. e) (λ e. let q = g e in let w = range_use m k q.0 (all q.0 (range_from l h q.0 q.1 q.2 q.3)) in absurd (q.4 w.0 w.1)) (cases_Bool r),
    )
    (within_decides 1001 (range l h) (range m k) (λ p u. (range_use l h p u).2))

-- the named bound of two ends is the range cut at 1000, or the void where that is empty
pub named_cases : (low high : ℕ) → ((low ≤ min high 1000) × (named low high ≡ ranging low (min high 1000))) ⊎ ((min high 1000 < low) × (named low high ≡ ranging 1 0))
named_cases low high = grind (arith, nat_tests)

-- it has the points from low to high
pub named_points : (low high : ℕ) → Same (points (named low high)) (range low high)
named_points low high p =
    ⊎_elim (λ h. rw h.1 (grind (arith, nat_tests))) (λ h. rw h.1 (grind (arith, nat_tests))) (named_cases low high)

-- and it is one of the named bounds
pub named_canonical : (low high : ℕ) → Canonical (named low high)
named_canonical low high =
    ⊎_elim (λ h. rw h.1 (inl (h.0, omega arith))) (λ h. rw h.1 (inr refl)) (named_cases low high)

-- ends with the same points have one named bound
pub named_same : (a b c d : ℕ) → Same (range a b) (range c d) → named a b ≡ named c d
named_same a b c d same = grind (arith, nat_tests, same a, same (min b 1000), same c, same (min d 1000))

-- bounds have one form exactly where they have the same points
pub range_one_form : (a b : Thousandths) → Iff (range_form a ≡ range_form b) (Same (points a) (points b))
range_one_form a b = (
  (λ e p. let h = halves_apart _ _ _ _ e in
      sym (named_points a.low a.high p) ∙ (rw (h.0, h.1) (named_points b.low b.high p))),
  λ same. ap (λ s. halves s.low s.high) (named_same a.low a.high b.low b.high same),
)

-- a named bound is the one that its own ends name
pub canonical_named : (s : Thousandths) → Canonical s → s ≡ named s.low s.high
canonical_named s k = grind (arith, nat_tests)

-- different named bounds have different points
pub all_apart : RangesApart
all_apart a b k l same =
    canonical_named a k ∙ (named_same a.low a.high b.low b.high same ∙ sym (canonical_named b l))

-- what is not void has its low end
pub not_void : (low high : ℕ) → void 1001 (range low high) ≡ false → (low ≤ high) × (low < 1001)
not_void low high e =
    ⊎_elim
    (λ h. absurd (true≢false (sym ((void_decides 1001 (range low high) (λ p u. (range_use low high p u).2)).1 (λ p u. let w = range_use low high p u in omega arith)) ∙ e)))
    (λ h. (omega arith, omega arith))
    (cases_lt (min high 1000) low)

-- what is void is within everything
pub void_within : (l h m k : ℕ) → void 1001 (range l h) ≡ true → true ≡ within 1001 (range l h) (range m k)
void_within l h m k e =
    sym ((within_decides 1001 (range l h) (range m k) (λ p u. (range_use l h p u).2)).1 (λ p u. absurd ((void_decides 1001 (range l h) (λ q w. (range_use l h q w).2)).0 e p u)))
