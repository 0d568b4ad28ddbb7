-- The letters of a file, by its rows and by its bytes. Assumes nothing.
use Rattle.std.proofs.Common.{◌≡◌, ℕ, zero, suc, ◌+◌, ◌*◌, ◌<◌, ◌≤◌, List, [], length, get_or, drop, sym, refl, ap, ◌∙◌, ⊎_elim, arith}
use Rattle.std.proofs.lemmas.List.{get_or-drop, get_or-take}
use Rattle.std.proofs.lemmas.Bool.{cases_lt}
use Rattle.std.specs.Simd.{first_chunks}
use Rattle.record_line.specs.Lines.{byte}
use Rattle.record.specs.Frame.{records, letter, HasS, FirstS, OnlySizes}
use Rattle.record.specs.Reads.{rows}

pub chunked_long : {X : Type 0} (n k : ℕ) (xs : List X) → length (first_chunks n k xs) ≡ k
chunked_long n zero xs = refl
chunked_long n (suc k) xs = ap suc (chunked_long n k (drop n xs))

letter_at : (n : ℕ) (bytes : List ℕ) (i : ℕ) → i < n → byte (get_or (first_chunks 16 n bytes) i []) 0 ≡ letter bytes i
letter_at zero bytes i lt = absurd (omega arith)
letter_at (suc n) bytes zero lt = get_or-take 16 bytes 0 0 (omega arith)
letter_at (suc n) bytes (suc i) lt = letter_at n (drop 16 bytes) i (omega arith) ∙ (get_or-drop 16 bytes (16 * i) 0 ∙ ap (λ k. get_or bytes k 0) (omega arith))

module _ (bytes : List ℕ) (lines : List (List ℕ)) (front : lines ≡ rows bytes) where
  long : length lines ≡ records bytes
  long = ap length front ∙ chunked_long 16 (records bytes) bytes

  letter_is : (i : ℕ) → i < records bytes → byte (get_or lines i []) 0 ≡ letter bytes i
  letter_is i lt = ap (λ l. byte (get_or l i []) 0) front ∙ letter_at (records bytes) bytes i lt

  -- where no row has the letter S, no record has
  pub none_has : ((k : ℕ) → k < length lines → ¬ HasS lines k) → (k : ℕ) → ¬ OnlySizes bytes k
  none_has none k (lt, e, _) = none k (rw long lt) (letter_is k lt ∙ e)

  module _ (at : ℕ) (first : FirstS lines at) where
    lt : at < records bytes
    lt = rw long at first.0

    pub only_has : ((k : ℕ) → k < length lines → at + 1 ≤ k → ¬ HasS lines k) → OnlySizes bytes at
    only_has behind = (
      lt,
      sym (letter_is at lt) ∙ first.1,
      λ j l e. ⊎_elim
          (λ before. absurd (first.2 j before (letter_is j l ∙ e)))
          (λ past. ⊎_elim (λ more. absurd (behind j (rw long l) (omega arith) (letter_is j l ∙ e))) (λ same. omega arith) (cases_lt at j))
          (cases_lt j at),
    )

    pub others_have : (((k : ℕ) → k < length lines → at + 1 ≤ k → ¬ HasS lines k) → ⊥) → (k : ℕ) → ¬ OnlySizes bytes k
    others_have some k (_, _, only) =
        let here : at ≡ k = only at lt (sym (letter_is at lt) ∙ first.1) in
        some (λ j l past e. let there : j ≡ k = only j (rw long at l) (sym (letter_is j (rw long at l)) ∙ e) in omega arith)
