-- The laws of bounds, from the one law that each scale owes. Assumes nothing.
use Rattle.std.proofs.Common.{◌≡◌, ℕ, ◌<◌, true, sym, ◌∙◌}
use Rattle.std.proofs.lemmas.Bool.{and_parts, and_from, lt-ltb}
use Rattle.points.specs.Points.{Points, Among, within, void}
use Rattle.points.proofs.Decided.{within_decides, void_decides}
use Rattle.scale.specs.Laws.{Laws}

module _ {S : Type 0} (size : ℕ) (has : S → Points) (inside : (s : S) (p : ℕ) → has s p ≡ true → p < size) where
  yes : (a b : S) → Among (has a) (has b) → within size (has a) (has b) ≡ true
  yes a b = (within_decides size (has a) (has b) (inside a)).1

  use_within : (a b : S) → within size (has a) (has b) ≡ true → Among (has a) (has b)
  use_within a b = (within_decides size (has a) (has b) (inside a)).0

  use_void : (a : S) → void size (has a) ≡ true → (p : ℕ) → has a p ≡ true → ⊥
  use_void a = (void_decides size (has a) (inside a)).0

  pub laws : Laws size has
  laws = record {
    within_means = λ a b. within_decides size (has a) (has b) (inside a);
    void_means = λ a. void_decides size (has a) (inside a);
    reflexive = λ a. yes a a (λ p e. e);
    transitive = λ a b c ab bc. yes a c (λ p e. use_within b c bc p (use_within a b ab p e));
    below_loose = λ a b l. yes a b (λ p e. l p ∙ lt-ltb p size (inside a p e));
    meet_left = λ a b m h. yes m a (λ p e. (and_parts (has a p) (has b p) (sym (h p) ∙ e)).0);
    meet_right = λ a b m h. yes m b (λ p e. (and_parts (has a p) (has b p) (sym (h p) ∙ e)).1);
    meet_most = λ a b c m h ca cb. yes c m (λ p e. h p ∙ and_from (has a p) (has b p) (use_within c a ca p e) (use_within c b cb p e));
    void_below = λ a b v. yes a b (λ p e. absurd (use_void a v p e));
    below_void = λ a b v ab. (void_decides size (has a) (inside a)).1 (λ p e. use_void b v p (use_within a b ab p e));
  }
