-- What a call is answered, where one of the formulas is asked for and elsewhere. Assumes nothing.
use Rattle.std.specs.Prelude.{◌≡◌, ℕ, true, false, nat_lt}
use Rattle.std.proofs.Math.Path.{refl, sym}
use Rattle.std.proofs.Common.{◌∙◌, arith}
use Rattle.std.proofs.lemmas.Bool.{cond-true, cond-false}
use Rattle.std.proofs.lemmas.Bool.Decides.{nat_tests}
use Rattle.points.specs.Points.{Points, Same, Loose}
use Rattle.book.specs.Meaning.{asked, answered}
use Rattle.book.specs.Quorums.{quorate}

module _ (size formulas : ℕ) (says : ℕ → ℕ → ℕ → Points) (f x y : ℕ) (b : Points) where
  pub answers : asked formulas f x y ≡ true → Same b (says f x y) → Same b (answered size formulas says f x y)
  unfolding answered
  answers e same p = same p ∙ sym (cond-true _ _ _ e)

  pub answers_none : asked formulas f x y ≡ false → Loose size b → Same b (answered size formulas says f x y)
  unfolding answered
  answers_none e loose p = loose p ∙ sym (cond-false _ _ _ e)

  -- below the quorum the answer is loose
  pub below_quorum : (least : ℕ) → nat_lt y least ≡ true → Loose size b → Same b (answered size formulas (quorate size least says) f x y)
  unfolding answered quorate
  below_quorum least low loose p = grind (arith, nat_tests, loose p)

  -- and from there on what the book below answers
  pub at_quorum : (least : ℕ) → nat_lt y least ≡ false → Same b (answered size formulas says f x y) → Same b (answered size formulas (quorate size least says) f x y)
  unfolding answered quorate
  at_quorum least high same p = same p ∙ rw high refl

-- a book under a quorum only narrows
pub quorum_narrows : (size least : ℕ) (says : ℕ → ℕ → ℕ → Points) (f x z y p : ℕ) → (says f z y p ≡ true → says f x y p ≡ true) →
    quorate size least says f z y p ≡ true → quorate size least says f x y p ≡ true
unfolding quorate
quorum_narrows size least says f x z y p narrows = grind (arith, nat_tests)
