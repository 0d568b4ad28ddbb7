use Rattle.std.proofs.Common.{true, false, refl, inl, inr, arith}
use Rattle.std.proofs.lemmas.Bool.Decides.{nat_tests}
use Rattle.samples.proofs.Rows.{ranges_row, sets_row, quorum_row}
use Rattle.samples.proofs.samples_stand.Goals as goal

pub returns : goal.returns
returns c = (
  ranges_row 0 600 400 1000 400 600 (λ p. grind (arith, nat_tests)) (inl (omega arith, omega arith)),
  (ranges_row 0 399 400 1000 1 0 (λ p. grind (arith, nat_tests)) (inr refl), (sets_row 6 3 2 refl (omega arith), (refl, (refl, (refl, (refl, (quorum_row 3 2 true refl, (quorum_row 3 3 false refl, tt)))))))),
)
