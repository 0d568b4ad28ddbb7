-- Tests over the records of a table.
use Rattle.std.specs.Prelude.{◌≡◌, ℕ, zero, suc, ◌<◌, Bool, true, false, ◌&&◌, ◌||◌, List, [], ◌∷◌, length, slice_index_or}

-- P holds of every record of the table
abbrev pub Every : {A : Type 0} → List A → (A → Type 0) → Type 0
Every {A} xs P = (i : ℕ) → i < length xs → (x : A) → x ≡ slice_index_or xs i x → P x

-- what the test says of the record at place i, or d where there is none
unfoldable pub at_place : {A : Type 0} → Bool → (A → Bool) → List A → ℕ → Bool
at_place d f [] i = d
at_place d f (x ∷ xs) zero = f x
at_place d f (x ∷ xs) (suc i) = at_place d f xs i

-- every record of the table passes
unfoldable pub all_pass : {A : Type 0} → (A → Bool) → List A → Bool
all_pass f [] = true
all_pass f (x ∷ xs) = f x && all_pass f xs

-- some record of the table passes
unfoldable pub one_passes : {A : Type 0} → (A → Bool) → List A → Bool
one_passes f [] = false
one_passes f (x ∷ xs) = f x || one_passes f xs
