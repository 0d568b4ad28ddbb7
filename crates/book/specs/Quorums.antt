-- Books under a quorum.
use Rattle.std.specs.Prelude.{◌≡◌, ℕ, ◌<◌, ◌≤◌, cond, List, ◌++◌, Ok, Err, Result, codes, decimal, nat_lt}
use Rattle.points.specs.Points.{Points}
use Rattle.book.specs.declared.quorums.Quorum.{Quorum}
use Rattle.book.specs.declared.quorums.QuorumTooLarge.{QuorumTooLarge}

-- below `least` eligible neighbours all points of the scale, and from there on what the book below says
unfoldable pub quorate : ℕ → ℕ → (ℕ → ℕ → ℕ → Points) → ℕ → ℕ → ℕ → Points
quorate size least says f x y p = cond (nat_lt y least) (nat_lt p size) (says f x y p)

-- a quorum of at most 200 is set on the book; a larger one is refused, and the book handed back
abbrev pub Founded : {B : Type 0} → ℕ → B → Result (Quorum B) (QuorumTooLarge B) → Type 0
Founded least book (Ok q) = (q.least ≡ least) × (q.book ≡ book) × (least ≤ 200)
Founded least book (Err e) = (e.least ≡ least) × (e.book ≡ book) × (200 < least)

-- what the error of a quorum prints, as "the quorum 201 is above 200"
abbrev pub too_large_text : ℕ → List ℕ
too_large_text least = codes "the quorum " ++ (decimal least ++ (codes " is above " ++ decimal 200))
