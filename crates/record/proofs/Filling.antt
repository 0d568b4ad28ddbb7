-- Tables that take one part more. Assumes nothing.
use Rattle.std.proofs.Common.{◌≡◌, ℕ, ◌+◌, ◌-◌, ◌<◌, ◌≤◌, cond, eqb, List, [], ◌∷◌, ◌++◌, length, get_or, drop, set, Some, None, Option, sym, refl, ap, ◌∙◌, ⊎_elim, append_assoc, append-nil, arith, length-append, length-drop, length-set, get_or-set_other, get_or-set_same}
use lib.Seq.{set-append_seam}
use Rattle.std.proofs.lemmas.List.{drop_more, length_push}
use Rattle.std.proofs.lemmas.Bool.{cases_eq, eq-eqb, ne_eqb, cond-true, cond-false}
use Rattle.record_line.specs.declared.Record.{Record}
use Rattle.record_entry.specs.Entries.{Grown, Marked}
use Rattle.record_entry.specs.Parts.{Mark}
use Rattle.record.specs.Contents.{add, pick, Filled, bound_at, Stays, Laid}

add_append : {A : Type 0} (o : Option A) (xs ys : List A) → add o (xs ++ ys) ≡ add o xs ++ ys
add_append None xs ys = refl
add_append (Some x) xs ys = refl

pub pick_more : {A B : Type 0} (f : Record B → Option A) (rs : List (Record B)) (r : Record B) → pick f (rs ++ r ∷ []) ≡ pick f rs ++ add (f r) []
pick_more f [] r = refl
pick_more f (q ∷ rs) r = ap (add (f q)) (pick_more f rs r) ∙ add_append (f q) (pick f rs) (add (f r) [])

-- a filled table is as long as it was
pub filled_long : {A : Type 0} (xs t t' : List A) → Filled xs t t' → length t' ≡ length t
filled_long xs t t' f =
    let long : length t' ≡ length xs + (length t - length xs) = simp (length-append, length-drop) at (ap length f.1) in
    omega (arith, f.0)

filled_more : {A : Type 0} (o : Option A) (xs t₀ t t' : List A) (n n' : ℕ) → n ≡ length xs → Filled xs t₀ t → Grown o t n t' n' →
    Filled (xs ++ add o []) t₀ t' × (n' ≡ length (xs ++ add o []))
filled_more None xs t₀ t t' n n' e f g = rw (append-nil xs) ((f.0, g.0 ∙ f.1), g.1 ∙ e)
filled_more (Some x) xs t₀ t t' n n' e f g =
    let long : length t ≡ length t₀ = filled_long xs t₀ t f in
    let lt : length xs < length t₀ = omega (arith, g.0) in
    let push : length (xs ++ x ∷ []) ≡ length xs + 1 = length_push xs x in
    let seen : set t n x ≡ set (xs ++ drop (length xs) t₀) (length xs) x =
    ap (λ u. set u n x) f.1 ∙ ap (λ k. set (xs ++ drop (length xs) t₀) k x) e in
    let put : set (xs ++ drop (length xs) t₀) (length xs) x ≡ xs ++ x ∷ drop (length xs + 1) t₀ =
    ap (λ u. set (xs ++ u) (length xs) x) (drop_more t₀ (length xs) x lt) ∙ set-append_seam xs _ _ x in
    let back : xs ++ x ∷ drop (length xs + 1) t₀ ≡ (xs ++ x ∷ []) ++ drop (length (xs ++ x ∷ [])) t₀ =
    rw (push, append_assoc xs (x ∷ []) (drop (length xs + 1) t₀)) refl in
    ((omega arith, g.1 ∙ (seen ∙ (put ∙ back))), g.2 ∙ (ap (λ k. k + 1) e ∙ sym push))

-- a table takes its part of one record more
pub picked_more : {A B : Type 0} (f : Record B → Option A) (rs : List (Record B)) (r : Record B) (t₀ t t' : List A) (n n' : ℕ) → n ≡ length (pick f rs) →
    Filled (pick f rs) t₀ t → Grown (f r) t n t' n' → Filled (pick f (rs ++ r ∷ [])) t₀ t' × (n' ≡ length (pick f (rs ++ r ∷ [])))
picked_more f rs r t₀ t t' n n' e h g = rw (pick_more f rs r) (filled_more (f r) (pick f rs) t₀ t t' n n' e h g)

bound_more : {B : Type 0} (o : Option B) (ms : List (Mark B)) (m : Mark B) (p : ℕ) → bound_at o (ms ++ m ∷ []) p ≡ cond (eqb m.place p) (Some m.bound) (bound_at o ms p)
bound_more o [] m p = refl
bound_more {B = B} o (x ∷ ms) m p = bound_more (cond {A = Option B} (eqb x.place p) (Some x.bound) o) ms m p

-- a mark is at one of so many places
abbrev pub InPlaces : {B : Type 0} → ℕ → Option (Mark B) → Type 0
InPlaces places None = Unit {0}
InPlaces places (Some m) = m.place < places

laid_one : {B : Type 0} (m : Mark B) (o : Option B) (t₀ t : List B) (p : ℕ) (d : B) → m.place < length t → Stays o (get_or t₀ p d) (get_or t p d) →
    Stays (cond (eqb m.place p) (Some m.bound) o) (get_or t₀ p d) (get_or (set t m.place m.bound) p d)
laid_one m o t₀ t p d lt h =
    ⊎_elim
    (λ e. rw (cond-true _ _ _ (eq-eqb m.place p e)) (rw (← e) (get_or-set_same t m.place m.bound d lt)))
    (λ ne. rw (cond-false _ _ _ (ne_eqb m.place p ne), get_or-set_other t m.place p m.bound d (λ e. ne (sym e))) h)
    (cases_eq m.place p)

laid_mark : {B : Type 0} (o : Option (Mark B)) (ms : List (Mark B)) (places : ℕ) (t₀ t t' : List B) → places ≤ length t₀ → InPlaces places o → Laid ms places t₀ t → Marked o t t' →
    Laid (ms ++ add o []) places t₀ t'
laid_mark None ms places t₀ t t' le i h e = rw (append-nil ms, e) h
laid_mark (Some m) ms places t₀ t t' le i h e =
    rw e (record {
      long = length-set t m.place m.bound ∙ h.long;
      here = λ p l d. rw (bound_more None ms m p) (laid_one m (bound_at None ms p) t₀ t p d (omega (arith, h.long, i)) (h.here p l d));
      behind = λ p l d. get_or-set_other t m.place p m.bound d (λ q. omega (arith, i)) ∙ h.behind p l d;
    })

-- the fixed bounds take the mark of one record more
pub laid_more : {B : Type 0} (f : Record B → Option (Mark B)) (rs : List (Record B)) (r : Record B) (places : ℕ) (t₀ t t' : List B) → places ≤ length t₀ → InPlaces places (f r) →
    Laid (pick f rs) places t₀ t → Marked (f r) t t' → Laid (pick f (rs ++ r ∷ [])) places t₀ t'
laid_more f rs r places t₀ t t' le i h e = rw (pick_more f rs r) (laid_mark (f r) (pick f rs) places t₀ t t' le i h e)
