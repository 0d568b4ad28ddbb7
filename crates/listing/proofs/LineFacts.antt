-- Lines of a listing, one after the other. Assumes nothing.
use Rattle.std.proofs.Common.{◌≡◌, ℕ, zero, suc, ◌+◌, ◌<◌, List, [], ◌∷◌, ◌++◌, length, get_or, take, sym, ap, ◌∙◌, append_assoc, append-nil, add-zero, add-suc, suc-add, zero-add, add-one, arith}
use Rattle.points.specs.Points.{Points}
use Rattle.house.specs.declared.tables.Sizes.{Sizes}
use Rattle.listing.specs.Lines.{line_of, lines_from}

module _ {S : Type 0} (n : ℕ) (has : S → Points) (form : S → List ℕ) where
  -- one cell more
  lines_more : (s : Sizes) (i k : ℕ) (xs : List S) (x : S) → k < length xs → x ≡ get_or xs k x →
      lines_from n has form s i (take (suc k) xs) ≡ lines_from n has form s i (take k xs) ++ line_of n has form s (i + k) x
  unfolding lines_from
  lines_more s i k [] x l is = absurd (omega arith)
  lines_more s i zero (y ∷ ys) x l is = rw (add-zero i, is) (append-nil _)
  lines_more s i (suc k) (y ∷ ys) x l is = ap (λ t. line_of n has form s i y ++ t) (lines_more s (suc i) k ys x (omega arith) is ∙ ap (λ (j : ℕ). lines_from n has form s (suc i) (take k ys) ++ line_of n has form s j x) (suc-add i k ∙ sym (add-suc i k))) ∙ sym (append_assoc (line_of n has form s i y) (lines_from n has form s (suc i) (take k ys)) (line_of n has form s (i + suc k) x))

  pub listing_more : (s : Sizes) (k : ℕ) (xs : List S) (x : S) → k < length xs → x ≡ get_or xs k x →
      lines_from n has form s 0 (take (k + 1) xs) ≡ lines_from n has form s 0 (take k xs) ++ line_of n has form s k x
  listing_more s k xs x l is = rw add-one (lines_more s 0 k xs x l is ∙ ap (λ (j : ℕ). lines_from n has form s 0 (take k xs) ++ line_of n has form s j x) (zero-add k))
