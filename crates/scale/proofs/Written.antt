-- The laws of forms, from the one law that each recorded scale owes. Assumes nothing.
use Rattle.std.proofs.Common.{◌≡◌, ℕ, List, Ok, Err, Result, refl}
use Rattle.points.specs.Points.{Iff, Points, Same}
use Rattle.scale.specs.declared.forms.NotABound.{NotABound}
use Rattle.scale.specs.Forms.{Reads, FormLaws}

module _ {S : Type 0} (has : S → Points) (form : S → List ℕ) (one : (a b : S) → Iff (form a ≡ form b) (Same (has a) (has b))) where
  back : (a : S) (r : Result S NotABound) → Reads form (form a) r → (b : S) × ((r ≡ Ok b) × Same (has b) (has a))
  back a (Ok b) e = (b, (refl, (one b a).0 e))
  back a (Err e) h = absurd (h.1 a refl)

  pub form_laws : FormLaws has form
  form_laws = record { one_form = one; read_back = back }
