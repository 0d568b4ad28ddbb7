-- How a row of the table is shown. Assumes nothing.
use Rattle.std.proofs.Common.{◌≡◌, ℕ, Bool, true, false, ◌&&◌, ltb, sym, ◌∙◌}
use lib.Bits.{bit_and}
use Rattle.scale.specs.Ranges as ranges
use Rattle.scale.specs.Sets as sets
use Rattle.scale.specs.RangeFacts as range-facts
use Rattle.scale.specs.SetFacts as set-facts
use Rattle.book.specs.Quorums.{quorate}
use Rattle.samples.specs.Table.{ranges_meet, sets_meet, quorum_silent, Right}

-- two ranges meet in the third, if that is a named bound with the points of both
pub ranges_row : (a b c d e f : ℕ) → ((p : ℕ) → (ranges.range a b p && ranges.range c d p) ≡ ranges.range e f p) → ranges.Canonical (ranges.ranging e f) →
    Right (ranges_meet (ranges.ranging a b) (ranges.ranging c d) (ranges.ranging e f))
ranges_row a b c d e f same k m meets l = range-facts.all_apart m (ranges.ranging e f) l k (λ p. meets p ∙ same p)

-- two sets meet in the third, if its mask is the conjunction
pub sets_row : (a b c : ℕ) → bit_and a b ≡ c → sets.Canonical (sets.masked c) → Right (sets_meet (sets.masked a) (sets.masked b) (sets.masked c))
sets_row a b c e k m meets l = set-facts.all_apart m (sets.masked c) l k (λ p. meets p ∙ (sym (set-facts.modes_meet a b p) ∙ (rw e)))

-- a quorum is silent where too few are eligible
pub quorum_row : (least y : ℕ) (want : Bool) → ltb y least ≡ want → Right (quorum_silent least y want)
unfolding quorate
quorum_row least y true e size says f x p = rw e
quorum_row least y false e size says f x p = rw e
