-- What `all` says of the numbers of `a..=b`. Assumes nothing.
use Rattle.std.proofs.Common.{◌≡◌, ℕ, ◌+◌, ◌-◌, ◌<◌, ◌≤◌, Bool, true, false, List, ◌∷◌, length, Option, sym, refl, ap, ◌∙◌, subst, add-one, arith}
use Rattle.std.specs.declared.ops.RangeInclusive.{RangeInclusive}
use Rattle.std.specs.Bool.{MatchBool}
use Rattle.std.specs.Option.{MatchOption}
use Rattle.std.specs.List.{range_with_len, FoldsTo, AllWithin, HoldsAt}
use Rattle.std.specs.Fn.{Called}
use Rattle.std.specs.Range.{range_inclusive_start, range_inclusive_end, range_inclusive_exhausted, range_inclusive_len}
use Rattle.std.specs.Iterator.{YieldsThen}
use Rattle.std.proofs.lemmas.Iterator.{YieldsList, cases_from_all}
use Rattle.std.proofs.lemmas.Iterator.Consumers.{YieldsList-from_shown}
use Rattle.std.proofs.lemmas.List.FromFn.{length-range_with_len, get_or-range_with_len}
use Rattle.std.proofs.iter.runs.Sources.{nat_range_inclusive_steps}
use denote.Param.Members.{Mut}

-- how many numbers `a..=b` has left
abbrev left : RangeInclusive ℕ → ℕ
left s = range_inclusive_len (λ (x : ℕ) (y : ℕ). y - x) (range_inclusive_start s) (range_inclusive_end s) (range_inclusive_exhausted s)

-- these numbers
abbrev numbers : RangeInclusive ℕ → List ℕ
numbers s = range_with_len (range_inclusive_start s) (left s)

next : (a c m n : ℕ) → m + 1 ≡ n → c ≡ a + 1 → range_with_len a n ≡ a ∷ range_with_len c m
next a c m n e f = rw (← e, add-one m, f)

last : (a c n : ℕ) → 1 ≡ n → range_with_len a n ≡ a ∷ range_with_len c 0
last a c n e = rw (← e)

turn : (s t : RangeInclusive ℕ) → left t + 1 ≡ left s → (b : Bool) → range_inclusive_exhausted t ≡ b →
    (range_inclusive_exhausted t ≡ false → range_inclusive_start t ≡ range_inclusive_start s + 1) → numbers s ≡ range_inclusive_start s ∷ numbers t
turn s t long true e more =
    let none : left t ≡ 0 = ap (range_inclusive_len (λ (x : ℕ) (y : ℕ). y - x) (range_inclusive_start t) (range_inclusive_end t)) e in
    let one : 1 ≡ left s = omega (arith, none, long) in
    let P : ℕ → Type 0 = λ n. numbers s ≡ range_inclusive_start s ∷ range_with_len (range_inclusive_start t) n in
    subst P (sym none) (last (range_inclusive_start s) (range_inclusive_start t) (left s) one)
turn s t long false e more = next _ _ _ _ long (more e)

module _ {F : Type 0} {g : Mut F (ℕ × Unit {0}) Bool} (s u : RangeInclusive ℕ) (f : F) (r : Bool) (Yes No : ℕ → Type 0) where
  -- it is true where each number passes, and false where one fails
  pub all_of_range : range_inclusive_exhausted s ≡ false →
      (xs : List ℕ) × (o : Option ℕ) × (j : F) × YieldsThen nat_range_inclusive_steps s xs o u × FoldsTo (λ p x q. Called g p (x, tt) true q) f xs j
      × MatchOption o (r ≡ true) (λ x. (r ≡ false) × ((h : F) × Called g j (x, tt) false h)) →
      ((x : ℕ) (q : F) → Called g f (x, tt) true q → (q ≡ f) × Yes x) → ((x : ℕ) (q : F) → Called g f (x, tt) false q → No x) →
      (r ≡ true → (k : ℕ) → range_inclusive_start s ≤ k → k ≤ range_inclusive_end s → Yes k)
      × (r ≡ false → (k : ℕ) × (range_inclusive_start s ≤ k) × (k ≤ range_inclusive_end s) × No k)
  all_of_range fresh ran passes fails =
      let a : ℕ = range_inclusive_start s in
      let long : length (numbers s) ≡ left s = length-range_with_len a (left s) in
      let count : left s ≡ range_inclusive_end s + 1 - a =
      omega (arith, ap (range_inclusive_len (λ (x : ℕ) (y : ℕ). y - x) a (range_inclusive_end s)) fresh) in
      let listed : YieldsList nat_range_inclusive_steps (λ x. x) s (numbers s) = YieldsList-from_shown nat_range_inclusive_steps (λ x. x) numbers
      (λ s t w. length-range_with_len _ _ ∙ w.1.0) (λ s x t w. rw w.1.0 (turn s t w.1.1 (range_inclusive_exhausted t) refl w.1.2)) s in
      let cases : MatchBool r (AllWithin Yes (numbers s) 0 (length (numbers s))) ((k : ℕ) × (k < length (numbers s)) × HoldsAt No (numbers s) k) =
      cases_from_all u f r Yes No ran listed passes fails in (
        (λ e k low high.
            let m = rw e at cases in
            let here : a + (k - a) ≡ k = omega arith in
            subst Yes (get_or-range_with_len a (left s) (k - a) 0 (omega (arith, count)) ∙ here) (m (k - a) 0 (omega arith) (omega (arith, count, long)))),
        λ e.
            let m = rw e at cases in
            (a + m.0, omega arith, omega (arith, m.1, count, long), subst No (get_or-range_with_len a (left s) m.0 0 (omega (arith, m.1, long))) (m.2 0)),
      )
