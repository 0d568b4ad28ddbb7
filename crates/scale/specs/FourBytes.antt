-- Two 16-bit numbers and the four bytes that write them. Assumes nothing.
use Rattle.std.specs.Prelude.{◌≡◌, ℕ, ◌+◌, ◌*◌, ◌/◌, ◌%◌, ◌<◌, List, [], ◌∷◌, length, slice_index}
use Rattle.std.proofs.Common.{ap, arith}
use Rattle.std.proofs.Math.Nat.{div-add-mod}
use Rattle.std.proofs.lemmas.Nat.{div-mul-add, mod-mul-add}
use Rattle.scale.specs.Forms.{halves}

-- four bytes say the two numbers
pub halves_apart : (a b c d : ℕ) → halves a b ≡ halves c d → (a ≡ c) × (b ≡ d)
halves_apart a b c d e =
    let e0 : a / 256 ≡ c / 256 = ap (λ xs. slice_index xs 0) e in
    let e1 : a % 256 ≡ c % 256 = ap (λ xs. slice_index xs 1) e in
    let e2 : b / 256 ≡ d / 256 = ap (λ xs. slice_index xs 2) e in
    let e3 : b % 256 ≡ d % 256 = ap (λ xs. slice_index xs 3) e in
    (omega (arith, div-add-mod a 256, div-add-mod c 256), omega (arith, div-add-mod b 256, div-add-mod d 256))

-- and they are written back as they were
pub halves_of : (bytes : List ℕ) (low high : ℕ) → length bytes ≡ 4 → slice_index bytes 1 < 256 → slice_index bytes 3 < 256 →
    low ≡ slice_index bytes 0 * 256 + slice_index bytes 1 → high ≡ slice_index bytes 2 * 256 + slice_index bytes 3 → halves low high ≡ bytes
halves_of [] low high l f g a b = absurd (omega arith)
halves_of (x ∷ []) low high l f g a b = absurd (omega arith)
halves_of (x ∷ y ∷ []) low high l f g a b = absurd (omega arith)
halves_of (x ∷ y ∷ z ∷ []) low high l f g a b = absurd (omega arith)
halves_of (x ∷ y ∷ z ∷ w ∷ []) low high l f g a b =
    rw (a, b, div-mul-add x 256 y f, mod-mul-add x 256 y f, div-mul-add z 256 w g, mod-mul-add z 256 w g)
halves_of (x ∷ y ∷ z ∷ w ∷ v ∷ vs) low high l f g a b = absurd (omega arith)
