-- How many formulas a list of steps has. Assumes nothing.
use Rattle.std.proofs.Common.{◌≡◌, ℕ, zero, suc, ◌+◌, ◌<◌, ◌≤◌, max, List, [], ◌∷◌, map, fold, unwrap_or, refl, ◌∙◌, arith}
use Rattle.std.specs.Ordering.{max_by_ordering, nat_cmp}
use Rattle.std.specs.List.{reduce}
use Rattle.std.proofs.lemmas.List.Folds.{max_of_map}
use Rattle.points.specs.Tables.{Every}
use Rattle.book.specs.Steps.{formulas_of}

module _ {T : Type 0} (number : T → ℕ) where
  pub counts_all : (ts : List T) → Every ts (λ t. number t < formulas_of number ts)
  unfolding formulas_of
  counts_all [] i l t e = absurd (omega arith)
  counts_all (u ∷ ts) zero l t e = rw e (omega arith)
  counts_all (u ∷ ts) (suc i) l t e = omega (arith, counts_all ts i (omega arith) t e)

  pub counts_least : (ts : List T) (n : ℕ) → Every ts (λ t. number t < n) → formulas_of number ts ≤ n
  unfolding formulas_of
  counts_least [] n all = omega arith
  counts_least (u ∷ ts) n all = omega (arith, all 0 (omega arith) u refl, counts_least ts n (λ i l t e. all (suc i) (omega arith) t e))

  -- the greatest number, and one more, of the list after `most`
  folded : (most : ℕ) (ts : List T) → fold (λ m t. max m (number t + 1)) most ts ≡ max most (formulas_of number ts)
  unfolding formulas_of
  folded most [] = omega arith
  folded most (t ∷ ts) = folded (max most (number t + 1)) ts ∙ omega arith

  pub counts_by_max : (ts : List T) → unwrap_or (reduce (λ p z. max_by_ordering (nat_cmp p z) p z) (map (λ t. number t + 1) ts)) 0 ≡ formulas_of number ts
  counts_by_max ts = max_of_map (λ t. number t + 1) ts ∙ folded 0 ts ∙ omega arith
