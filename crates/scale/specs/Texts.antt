-- What the errors print.
use Rattle.std.specs.Prelude.{ℕ, List, ◌++◌, codes, decimal, slice_index}
use Rattle.scale.specs.declared.ranges.NotARange.{NotARange}
use Rattle.scale.specs.declared.forms.NotABound.{NotABound}

-- "600 to 400 is no range of thousandths"
abbrev pub not_a_range_text : NotARange → List ℕ
not_a_range_text e = decimal e.low ++ (codes " to " ++ (decimal e.high ++ codes " is no range of thousandths"))

-- "no bound has the form 0 7 0 3"
abbrev pub not_a_bound_text : NotABound → List ℕ
not_a_bound_text e =
    codes "no bound has the form " ++ (decimal (slice_index e.bytes 0) ++ (codes " " ++ (decimal (slice_index e.bytes 1)
    ++ (codes " " ++ (decimal (slice_index e.bytes 2) ++ (codes " " ++ decimal (slice_index e.bytes 3)))))))
