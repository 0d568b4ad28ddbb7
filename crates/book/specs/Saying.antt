-- What the steps so far say, and that it only narrows. Assumes nothing.
use Rattle.std.specs.Prelude.{◌≡◌, ℕ, ◌+◌, ◌<◌, ◌≤◌, Bool, true, false, ◌&&◌, List, [], ◌∷◌, ◌++◌, length, take, ◌==◌, nat_lt, slice_index_or, refl}
use Rattle.std.proofs.Math.Bool.{and_assoc}
use Rattle.std.proofs.Math.Path.{sym}
use Rattle.std.proofs.Common.{◌∙◌}
use Rattle.std.proofs.lemmas.List.{take_more}
use Rattle.std.proofs.lemmas.Bool.{and_parts, and_from, ltb-true, lt-ltb, eqb-true, eq-eqb}
use Rattle.points.specs.Points.{Iff, Points, Same, Meet, Loose, implies}
use Rattle.points.specs.Tables.{Every, all_pass}
use Rattle.points.proofs.Decided.{implies_use, implies_from}
use Rattle.points.proofs.Tabled.{all_use, all_from, all_mono}
use Rattle.book.specs.Steps.{presses, said}

and_yes : (a : Bool) → (a && true) ≡ a
and_yes true = refl
and_yes false = refl

-- a list passes with one item more where it passed and the item does
pub pass_push : {T : Type 0} (q : T → Bool) (ts : List T) (t : T) → all_pass q (ts ++ t ∷ []) ≡ (all_pass q ts && q t)
unfolding all_pass
pass_push q [] t = and_yes (q t)
pass_push q (u ∷ ts) t = rw (pass_push q ts t) (sym (and_assoc (q u) (all_pass q ts) (q t)))

kept : (t a b m : Bool) → (t ≡ true → m ≡ (a && b)) → (t ≡ false → m ≡ a) → m ≡ (a && implies t b)
unfolding implies
kept true a b m f g = f refl
kept false a b m f g = g refl ∙ sym (and_yes a)

module _ {T : Type 0} (number : T → ℕ) (reaches : T → ℕ → ℕ → Bool) (has : T → Points) (size : ℕ) where
  -- no step leaves all points of the scale
  pub said_none : (f x y : ℕ) (b : Points) → Loose size b → Same b (said number reaches has size [] f x y)
  unfolding said all_pass
  said_none f x y b loose p = loose p ∙ sym (and_yes (nat_lt p size))

  -- a step that presses leaves the points that it has, and any other leaves all
  pub said_more : (ts : List T) (f x y i : ℕ) (t : T) (b m : Points) → i < length ts → t ≡ slice_index_or ts i t → Same b (said number reaches has size (take i ts) f x y) →
      (presses number reaches f x y t ≡ true → Meet b (has t) m) → (presses number reaches f x y t ≡ false → Same m b) → Same m (said number reaches has size (take (i + 1) ts) f x y)
  unfolding said
  said_more ts f x y i t b m l e so_far pressed passed p =
      kept (presses number reaches f x y t) (b p) (has t p) (m p) (λ q. pressed q p) (λ q. passed q p) ∙
      rw (so_far p, take_more ts i t l, ← e, pass_push (λ u. implies (presses number reaches f x y u) (has u p)) (take i ts) t) (and_assoc (nat_lt p size) _ _)

  -- where steps stay reached, a formula only narrows
  pub said_narrows : ((t : T) (x z y : ℕ) → x ≤ z → z ≤ y → y ≤ 200 → reaches t x y ≡ true → reaches t z y ≡ true) → (ts : List T) (f x z y p : ℕ) → x ≤ z → z ≤ y → y ≤ 200 →
      said number reaches has size ts f z y p ≡ true → said number reaches has size ts f x y p ≡ true
  unfolding said
  said_narrows stays ts f x z y p a b c h =
      let both = and_parts (nat_lt p size) _ h in
      and_from _ _ both.0
      (all_mono _ _ ts
      (λ t k. implies_from _ _
      (λ r. let u = and_parts (number t == f) (reaches t x y) r in
      implies_use _ _ k (and_from _ _ u.0 (stays t x z y a b c u.1))))
      both.1)

  -- a formula says the points of the scale that each of its reached steps has
  pub said_means : (ts : List T) (f x y p : ℕ) →
      Iff (said number reaches has size ts f x y p ≡ true) ((p < size) × Every ts (λ t. number t ≡ f → reaches t x y ≡ true → has t p ≡ true))
  unfolding said
  said_means ts f x y p = (
    (λ e. let both = and_parts (nat_lt p size) _ e in
        (ltb-true p size both.0, λ i l t q same there. implies_use _ _ (all_use _ ts both.1 i l t q) (and_from _ _ (eq-eqb (number t) f same) there))),
    λ h. and_from _ _ (lt-ltb p size h.0)
        (all_from _ ts
        (λ i l t q. implies_from _ _ (λ r. let u = and_parts (number t == f) (reaches t x y) r in h.1 i l t q (eqb-true (number t) f u.0) u.1))),
  )
