-- Bounds in words.
use Rattle.std.specs.Prelude.{ℕ, List, ◌++◌, Some, None, codes, decimal, Option}

-- a range by its ends, and the void by its name
abbrev pub in_words : Option (ℕ × ℕ) → List ℕ
in_words (Some e) = decimal e.0 ++ (codes " to " ++ decimal e.1)
in_words None = codes "void"
