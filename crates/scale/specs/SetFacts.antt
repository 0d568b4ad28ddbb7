-- Sets of modes, by the bits of their masks. Assumes nothing.
use Rattle.std.specs.Prelude.{◌≡◌, ℕ, zero, suc, ◌+◌, ◌-◌, ◌*◌, ◌/◌, ◌%◌, ◌^◌, ◌<◌, ◌≤◌, Bool, true, false, not, ◌&&◌, ◌==◌, nat_eq, nat_lt, refl}
use Rattle.std.proofs.Common.{⊎_elim, sym, ap, ◌∙◌, mod-eq_of_lt, lt_of_le_of_lt, one-add, arith}
use Rattle.std.specs.Int.Bits.{bit_and}
use Rattle.std.proofs.Math.Pow.{mod-mod-pow}
use Rattle.std.proofs.lemmas.Nat.{and_le_l, and_shr, and_mod, mod-pow-add, field_of, mod_below}
use Rattle.std.proofs.lemmas.Bool.{and_parts, ltb-true, lt-ltb, le-ltb, eqb-true, eq-eqb, cases_lt, both_ways, not-true, false_from_ne_true}
use Rattle.std.proofs.lemmas.Bool.Decides.{same_from_decides, nat_tests}
use Rattle.points.specs.Points.{Iff, Same, Meet, Loose, each_below, within, void}
use Rattle.points.proofs.Decided.{each_use, within_decides, void_decides}
use Rattle.scale.specs.declared.sets.Modes.{Modes}
use Rattle.scale.specs.Forms.{halves}
use Rattle.scale.specs.Sets.{bit, modes, points, masked, set_form, SetsApart}
use Rattle.scale.specs.FourBytes.{halves_apart}

-- a bit of a conjunction
pub bit-bit_and : (a b p : ℕ) → bit (bit_and a b) p ≡ (bit a p && bit b p)
unfolding bit
bit-bit_and a b p = rw (and_shr a b p, and_mod (a / 2 ^ p) (b / 2 ^ p) 1) (one (a / 2 ^ p % 2) (b / 2 ^ p % 2) (mod_below _ 2 (omega arith)) (mod_below _ 2 (omega arith)))
  where
    one : (x y : ℕ) → x < 2 → y < 2 → (bit_and x y == 1) ≡ (x == 1 && y == 1)
    one zero zero h k = refl
    one zero (suc zero) h k = refl
    one zero (suc (suc y)) h k = absurd (omega arith)
    one (suc zero) zero h k = refl
    one (suc zero) (suc zero) h k = refl
    one (suc zero) (suc (suc y)) h k = absurd (omega arith)
    one (suc (suc x)) y h k = absurd (omega arith)

-- a bit says the remainder by 2
bit_mod : (a b p : ℕ) → bit a p ≡ bit b p → a / 2 ^ p % 2 ≡ b / 2 ^ p % 2
unfolding bit
bit_mod a b p e = let x = mod_below (a / 2 ^ p) 2 (omega arith) in let y = mod_below (b / 2 ^ p) 2 (omega arith) in grind (arith, nat_tests)

-- numbers with the same bits below k are the same up to 2 ^ k
pub bits_same : (k a b : ℕ) → ((p : ℕ) → p < k → bit a p ≡ bit b p) → a % 2 ^ k ≡ b % 2 ^ k
bits_same zero a b h = omega (arith, mod_below a 1 (omega arith), mod_below b 1 (omega arith))
bits_same (suc k) a b h =
    let parts : (n : ℕ) → n % 2 ^ suc k ≡ (n / 2 ^ k % 2) * 2 ^ k + n % 2 ^ k = (λ n. rw (← one-add k) (mod-pow-add n 1 k)) in
    let top : a / 2 ^ k % 2 ≡ b / 2 ^ k % 2 = bit_mod a b k (h k (omega arith)) in
    let rest : a % 2 ^ k ≡ b % 2 ^ k = bits_same k a b (λ p l. h p (omega arith)) in
    parts a ∙ (rw (top, rest) (sym (parts b)))

-- the bits below 16 are those of the low 16 bits
low_bits : (n p : ℕ) → p < 16 → bit (n % 2 ^ 16) p ≡ bit n p
unfolding bit
low_bits n p l =
    let split : (15 - p) + (1 + p) ≡ 16 = omega arith in
    let cut : n % 2 ^ 16 % 2 ^ (1 + p) ≡ n % 2 ^ (1 + p) = rw split at (mod-mod-pow n (15 - p) (1 + p)) in
    ap (λ x. nat_eq x 1) (sym (field_of (n % 2 ^ 16) 1 p) ∙ (ap (λ x. x / 2 ^ p) cut ∙ field_of n 1 p))

-- which modes a mask has
mode_bit : (n p : ℕ) → p < 16 → modes n p ≡ bit n p
unfolding modes
mode_bit n p l = rw (lt-ltb p 16 l)

no_mode : (n p : ℕ) → 16 ≤ p → modes n p ≡ false
unfolding modes
no_mode n p l = rw (le-ltb p 16 l)

pub mode_below : (n p : ℕ) → modes n p ≡ true → p < 16
unfolding modes
mode_below n p e = ltb-true p 16 (and_parts (nat_lt p 16) (bit n p) e).0

-- masks with the same modes have the same 16 bits, and the other way round
pub modes_same : (a b : ℕ) → Iff (a % 2 ^ 16 ≡ b % 2 ^ 16) (Same (modes a) (modes b))
modes_same a b = (
  (λ e p. ⊎_elim
      (λ l. mode_bit a p l ∙ (sym (low_bits a p l) ∙ (rw e (low_bits b p l ∙ sym (mode_bit b p l)))))
      (λ l. no_mode a p l ∙ sym (no_mode b p l)) (cases_lt p 16)),
  λ same. bits_same 16 a b (λ p l. sym (mode_bit a p l) ∙ (same p ∙ mode_bit b p l)),
)

pub modes_meet : (a b : ℕ) → Meet (modes a) (modes b) (modes (bit_and a b))
modes_meet a b p =
    ⊎_elim
    (λ l. rw (mode_bit a p l, mode_bit b p l, mode_bit (bit_and a b) p l) (bit-bit_and a b p))
    (λ l. rw (no_mode a p l) (no_mode (bit_and a b) p l))
    (cases_lt p 16)

none_set : each_below 16 (λ k. not (bit 0 k)) ≡ true
unfolding each_below bit
none_set = refl

-- a mask with all bits set has all modes
pub modes_loose : (mask : ℕ) → each_below 16 (bit mask) ≡ true → Loose 16 (modes mask)
modes_loose mask all p =
    ⊎_elim (λ l. mode_bit mask p l ∙ (each_use 16 (bit mask) all p l ∙ sym (lt-ltb p 16 l))) (λ l. no_mode mask p l ∙ sym (le-ltb p 16 l)) (cases_lt p 16)

-- 0 alone has no mode
pub modes_void : (a : ℕ) → a < 2 ^ 16 → (a == 0) ≡ void 16 (modes a)
modes_void a l =
    same_from_decides (a == 0) (void 16 (modes a)) (
      (λ e p h. absurd (both_ways (modes a p) (none a p (eqb-true a 0 e)) h)),
      λ empty. eq-eqb a 0 (sym (mod-eq_of_lt l) ∙ (modes_same a 0).1 (λ p. false_from_ne_true (modes a p) (empty p) ∙ sym (none 0 p refl))),
    )
    (void_decides 16 (modes a) (mode_below a))
  where
    none : (n p : ℕ) → n ≡ 0 → modes n p ≡ false
    none n p e = ⊎_elim (λ l. rw e (mode_bit 0 p l ∙ not-true (bit 0 p) (each_use 16 (λ k. not (bit 0 k)) none_set p l))) (no_mode n p) (cases_lt p 16)

-- a mask is within another where the conjunction leaves it as it is
pub modes_within : (a b : ℕ) → a < 2 ^ 16 → (bit_and a b == a) ≡ within 16 (modes a) (modes b)
modes_within a b l =
    same_from_decides (bit_and a b == a) (within 16 (modes a) (modes b)) (
      (λ e p h. (and_parts (modes a p) (modes b p) (sym (modes_meet a b p) ∙ (rw (eqb-true (bit_and a b) a e) h))).1),
      λ all. eq-eqb (bit_and a b) a
          (sym (mod-eq_of_lt (lt_of_le_of_lt (and_le_l a b) l)) ∙ ((modes_same (bit_and a b) a).1 (λ p. modes_meet a b p ∙ left (modes a p) (modes b p) (all p)) ∙ mod-eq_of_lt l)),
    )
    (within_decides 16 (modes a) (modes b) (mode_below a))
  where
    left : (x y : Bool) → (x ≡ true → y ≡ true) → (x && y) ≡ x
    left true y h = h refl
    left false y h = refl

-- bounds have one form exactly where they have the same modes
pub set_one_form : (a b : Modes) → Iff (set_form a ≡ set_form b) (Same (points a) (points b))
set_one_form a b = (
  (λ e. (modes_same a.mask b.mask).0 (halves_apart _ 0 _ 0 e).0),
  λ same. ap (λ m. halves m 0) ((modes_same a.mask b.mask).1 same),
)

-- different named bounds have different modes
pub all_apart : SetsApart
all_apart a b k l same =
    ap masked (sym (mod-eq_of_lt k) ∙ ((modes_same a.mask b.mask).1 same ∙ mod-eq_of_lt l))
