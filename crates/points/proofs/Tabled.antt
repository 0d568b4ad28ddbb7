-- What the tests over a table say. Assumes nothing.
use Rattle.std.proofs.Common.{◌≡◌, ℕ, zero, suc, ◌<◌, ◌≤◌, Bool, true, false, List, [], ◌∷◌, Some, None, Option, MatchOption, unwrap_or, Bor, length, get_or, sym, refl, ap, ◌∙◌, subst, arith}
use Rattle.std.specs.Prelude.{option_map}
use Rattle.std.specs.Slice.{IsItemAt}
use Rattle.std.proofs.lemmas.Bool.{and_parts, and_from, or_parts, or_from}
use Rattle.points.specs.Tables.{Every, at_place, all_pass, one_passes}

-- every record
pub all_use : {A : Type 0} (f : A → Bool) (xs : List A) → all_pass f xs ≡ true → Every xs (λ x. f x ≡ true)
unfolding all_pass
all_use f [] e i l x q = absurd (omega arith)
all_use f (y ∷ ys) e zero l x q = subst (λ z. f z ≡ true) (sym q) (and_parts (f y) (all_pass f ys) e).0
all_use f (y ∷ ys) e (suc i) l x q = all_use f ys (and_parts (f y) (all_pass f ys) e).1 i (omega arith) x q

pub all_from : {A : Type 0} (f : A → Bool) (xs : List A) → Every xs (λ x. f x ≡ true) → all_pass f xs ≡ true
unfolding all_pass
all_from f [] all = refl
all_from f (y ∷ ys) all = and_from (f y) (all_pass f ys) (all 0 (omega arith) y refl) (all_from f ys (λ i l x q. all (suc i) (omega arith) x q))

pub all_mono : {A : Type 0} (f g : A → Bool) (xs : List A) → ((x : A) → f x ≡ true → g x ≡ true) → all_pass f xs ≡ true → all_pass g xs ≡ true
all_mono f g xs all e = all_from g xs (λ i l x q. all x (all_use f xs e i l x q))

pub at_mono : {A : Type 0} (d : Bool) (f g : A → Bool) (xs : List A) (i : ℕ) → ((x : A) → f x ≡ true → g x ≡ true) → at_place d f xs i ≡ true → at_place d g xs i ≡ true
unfolding at_place
at_mono d f g [] i all e = e
at_mono d f g (x ∷ xs) zero all e = all x e
at_mono d f g (x ∷ xs) (suc i) all e = at_mono d f g xs i all e

-- what stands at a place that was read
pub at_read : {A : Type 0} (d : Bool) (f : A → Bool) (xs : List A) (i : ℕ) (x : A) → i < length xs → x ≡ get_or xs i x → at_place d f xs i ≡ f x
unfolding at_place
at_read d f [] i x l q = absurd (omega arith)
at_read d f (y ∷ ys) zero x l q = ap f (sym q)
at_read d f (y ∷ ys) (suc i) x l q = at_read d f ys i x (omega arith) q

pub at-get_or : {A : Type 0} (d : Bool) (f : A → Bool) (xs : List A) (i : ℕ) (x : A) → i < length xs → at_place d f xs i ≡ f (get_or xs i x)
unfolding at_place
at-get_or d f [] i x l = absurd (omega arith)
at-get_or d f (y ∷ ys) zero x l = refl
at-get_or d f (y ∷ ys) (suc i) x l = at-get_or d f ys i x (omega arith)

pub at_else : {A : Type 0} (d : Bool) (f : A → Bool) (xs : List A) (i : ℕ) → length xs ≤ i → at_place d f xs i ≡ d
unfolding at_place
at_else d f [] i l = refl
at_else d f (y ∷ ys) zero l = absurd (omega arith)
at_else d f (y ∷ ys) (suc i) l = at_else d f ys i (omega arith)

-- what `get` gives of a table decides what a test says of that place
pub at_got : {A : Type 0} (d : Bool) (f : A → Bool) (xs : List A) (i : ℕ) (r : Option (Bor A)) → IsItemAt xs i r → at_place d f xs i ≡ unwrap_or (option_map (λ x. f x.now) r) d
at_got d f xs i None got = at_else d f xs i got.3
at_got d f xs i (Some x) got = at_read d f xs i x.now got.3.0 got.1

-- a test that is asked of what `get` gives, where that is there, answers for that place
pub got_tells : {A : Type 0} (d : Bool) (f : A → Bool) (xs : List A) (i : ℕ) (r : Option (Bor A)) (b : Bool) → IsItemAt xs i r →
    MatchOption r (b ≡ d) (λ x. b ≡ f x.now) → b ≡ at_place d f xs i
got_tells d f xs i None b got e = e ∙ sym (at_else d f xs i got.3)
got_tells d f xs i (Some x) b got e = e ∙ sym (at_read d f xs i x.now got.3.0 got.1)

-- a test with an absent record passing says: the record, if it is there, passes
pub at_from : {A : Type 0} (f : A → Bool) (xs : List A) (i : ℕ) → (i < length xs → (x : A) → x ≡ get_or xs i x → f x ≡ true) → at_place true f xs i ≡ true
unfolding at_place
at_from f [] i all = refl
at_from f (y ∷ ys) zero all = all (omega arith) y refl
at_from f (y ∷ ys) (suc i) all = at_from f ys i (λ l x q. all (omega arith) x q)

pub all_ext : {A : Type 0} (f g : A → Bool) (xs : List A) → Every xs (λ x. f x ≡ g x) → all_pass f xs ≡ all_pass g xs
unfolding all_pass
all_ext f g [] all = refl
all_ext f g (y ∷ ys) all = rw (all 0 (omega arith) y refl, all_ext f g ys (λ i l x q. all (suc i) (omega arith) x q))

-- no record
pub none_use : {A : Type 0} (f : A → Bool) (xs : List A) → one_passes f xs ≡ false → Every xs (λ x. f x ≡ false)
unfolding one_passes
none_use f [] e i l x q = absurd (omega arith)
none_use f (y ∷ ys) e zero l x q = subst (λ z. f z ≡ false) (sym q) (or_parts (f y) (one_passes f ys) e).0
none_use f (y ∷ ys) e (suc i) l x q = none_use f ys (or_parts (f y) (one_passes f ys) e).1 i (omega arith) x q

pub none_from : {A : Type 0} (f : A → Bool) (xs : List A) → Every xs (λ x. f x ≡ false) → one_passes f xs ≡ false
unfolding one_passes
none_from f [] all = refl
none_from f (y ∷ ys) all = or_from (f y) (one_passes f ys) (all 0 (omega arith) y refl) (none_from f ys (λ i l x q. all (suc i) (omega arith) x q))
