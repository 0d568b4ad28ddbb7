use Rattle.std.proofs.Common.{◌≡◌, Bool, true, false, cond, refl, ◌∙◌}
use Rattle.book.specs.Meaning.{answered}
use Rattle.house_tests.proofs.tables.BlankBookThousandths.answer.Goals as goal

either : (b x : Bool) → x ≡ cond b x x
either true x = refl
either false x = refl

pub returns : goal.returns
unfolding answered
returns c p = c.loose.ensures.points p ∙ either _ _
