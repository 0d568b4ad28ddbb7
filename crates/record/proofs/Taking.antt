-- Records that are taken one after the other. Assumes nothing.
use Rattle.std.proofs.Common.{◌≡◌, ℕ, ◌<◌, ◌≤◌, List, [], ◌∷◌, ◌++◌, length, get_or, Some, None, Ok, Err, Option, Result, subst, sym, refl, ap, ◌∙◌, ⊎_elim, mul_comm, arith}
use Rattle.std.specs.Result.{MatchResult, IsErrAnd}
use Rattle.std.proofs.lemmas.Nat.{mul-add-lt}
use Rattle.std.proofs.lemmas.List.{get_or_append_left, take-append-le, take_at, length_push, get_or_push}
use Rattle.std.proofs.lemmas.Bool.{cases_lt}
use Rattle.points.specs.Points.{Iff, Points, Loose}
use Rattle.house.specs.declared.tables.Sizes.{Sizes}
use Rattle.house.specs.Cells.{components}
use Rattle.plan.specs.declared.Draft.{Draft}
use Rattle.record_line.specs.declared.LineFault.TheVariants.{Bytes as NoRecord, Scale as NoBound}
use Rattle.record_line.specs.declared.Record.{Record}
use Rattle.record_line.specs.declared.Record.TheVariants.{Sizes as S, Edge as E, Fixed as X, Test as T, Condition as C, Constraint as K, Rule as R, Step as Q, Fact as F}
use Rattle.record_line.specs.Lines.{Parsed}
use Rattle.record_entry.specs.declared.EntryFault.{EntryFault}
use Rattle.record_entry.specs.declared.EntryFault.TheVariants.{House as NoPlace, Plan as NotFiled}
use Rattle.record_entry.specs.declared.Tables.{Tables}
use Rattle.record_entry.specs.Entries.{Rooms, Counts, rooms_of, counts_of, Kept, Fits, Unfit, LooseAt, Entered, Lent}
use Rattle.record_entry.specs.Parts.{edge_in, test_in, condition_in, constraint_in, rule_in, step_in, fact_in, mark_in, fixed_place}
use Rattle.record.specs.declared.faults.RecordFault.{RecordFault}
use Rattle.record.specs.declared.faults.RecordFault.TheVariants.{Line, Entry}
use Rattle.record.specs.Contents.{pick, bound_at, Stays, counts_after, fixed_places_lem}
use Rattle.record.specs.Faults.{placed}
use Rattle.record.specs.Takes.{Fresh, MarkedLoose, StillLoose, Enters, Denied, First, Taken, TakeDoes, TakeAllDoes}
use Rattle.record.proofs.Filling.{filled_long, picked_more, laid_more, InPlaces}

place_in : (s : Sizes) (c l long : ℕ) → c < components s → l < s.fixed → fixed_place s c l < long → fixed_place s c l < fixed_places_lem s long
place_in s c l long hc hl h = omega (arith, rw (mul_comm s.fixed (components s)) at (mul-add-lt c s.fixed l (components s) hc hl))

module _ {B : Type 0} (s : Sizes) (c : Counts) (filed : ℕ) (room : Rooms) where
  -- a record that can be entered marks one of the places of the fixed bounds, or none
  fits_mark : (loose : ℕ → Type 0) (r : Record B) → Fits s c filed room loose r → InPlaces (fixed_places_lem s room.fixed) (mark_in s r)
  fits_mark loose (S _ _ _ _ _) h = tt
  fits_mark loose (E _) h = tt
  fits_mark loose (X co l b) h = place_in s co l room.fixed h.0 h.1 h.2
  fits_mark loose (T _) h = tt
  fits_mark loose (C _) h = tt
  fits_mark loose (K _) h = tt
  fits_mark loose (R _) h = tt
  fits_mark loose (Q _) h = tt
  fits_mark loose (F _) h = tt

  -- where two words agree on which places are loose, they agree on which records can be entered
  fits_same : (loose loose' : ℕ → Type 0) → ((p : ℕ) → p < fixed_places_lem s room.fixed → Iff (loose p) (loose' p)) → (r : Record B) → Iff (Fits s c filed room loose r) (Fits s c filed room loose' r)
  fits_same loose loose' same (S _ _ _ _ _) = (λ h. h, λ h. h)
  fits_same loose loose' same (E _) = (λ h. h, λ h. h)
  fits_same loose loose' same (X co l b) = (
    λ h. (h.0, h.1, h.2, (same _ (place_in s co l room.fixed h.0 h.1 h.2)).0 h.3),
    λ h. (h.0, h.1, h.2, (same _ (place_in s co l room.fixed h.0 h.1 h.2)).1 h.3),
  )
  fits_same loose loose' same (T _) = (λ h. h, λ h. h)
  fits_same loose loose' same (C _) = (λ h. h, λ h. h)
  fits_same loose loose' same (K _) = (λ h. h, λ h. h)
  fits_same loose loose' same (R _) = (λ h. h, λ h. h)
  fits_same loose loose' same (Q _) = (λ h. h, λ h. h)
  fits_same loose loose' same (F _) = (λ h. h, λ h. h)

  unfit_same : (loose loose' : ℕ → Type 0) → ((p : ℕ) → p < fixed_places_lem s room.fixed → Iff (loose p) (loose' p)) → (r : Record B) (fault : EntryFault) → Unfit s c filed room loose r fault → Unfit s c filed room loose' r fault
  unfit_same loose loose' same r NoPlace h = (h.0, λ f. h.1 ((fits_same loose loose' same r).1 f))
  unfit_same loose loose' same r (NotFiled _) h = h

counts_from : (c : Counts) (a b d e f g h : ℕ) → c.edges ≡ a → c.fixed ≡ b → c.tests ≡ d → c.conditions ≡ e → c.constraints ≡ f → c.rules ≡ g → c.steps ≡ h →
    c ≡ record { edges = a; fixed = b; tests = d; conditions = e; constraints = f; rules = g; steps = h }
counts_from c a b d e f g h p1 p2 p3 p4 p5 p6 p7 = rw (← p1, ← p2, ← p3, ← p4, ← p5, ← p6, ← p7) refl

module _ {B : Type 0} (n : ℕ) (has : B → Points) where
  loose_at : (o : Option B) (t₀ t : List B) (p : ℕ) → ((d : B) → Loose n (has (get_or t₀ p d))) → ((d : B) → Stays o (get_or t₀ p d) (get_or t p d)) → Iff (LooseAt n has t p) (MarkedLoose n has o)
  loose_at (Some b) t₀ t p l st = (λ la. la b (sym (st b)), λ lb x e q. ap (λ y. has y q) (e ∙ st x) ∙ lb q)
  loose_at None t₀ t p l st = (λ _. tt, λ _ x e q. ap (λ y. has y q) (e ∙ st x) ∙ l x q)

module _ {B : Type 0} (n : ℕ) (has : B → Points) (form : B → List ℕ) (lines : List (List ℕ)) (s : Sizes) (t₀ : Tables B) where
  first_more : (rs : List (Record B)) (r : Record B) → First n has form s (rooms_of t₀) lines rs → Parsed form (get_or lines (length rs) []) (Ok r) → Enters n has s (rooms_of t₀) rs r →
      First n has form s (rooms_of t₀) lines (rs ++ r ∷ [])
  first_more rs r first parsed enters i lt x e =
      ⊎_elim
      (λ below. let le : i ≤ length rs = omega arith in let old = first i below x (e ∙ get_or_append_left rs (r ∷ []) x i below) in rw (take-append-le i rs (r ∷ []) le) old)
      (λ past.
      let here : i ≡ length rs = omega (arith, length_push rs r) in
      let same : x ≡ r = e ∙ get_or_push rs r x i (sym here) in
      rw (here, same, take_at rs (r ∷ []) (length rs) refl) (parsed, enters))
      (cases_lt i (length rs))

  -- the first records have been taken, and so many facts are filed
  pub record So (rs : List (Record B)) (t : Tables B) (filed : ℕ) : Type 0 where
    pub taken : Taken n has form lines s t₀ rs t
    pub filings : filed ≡ length (pick fact_in rs)

  rooms_same : (rs : List (Record B)) (t : Tables B) → Taken n has form lines s t₀ rs t → rooms_of t ≡ rooms_of t₀
  rooms_same rs t h =
      let e1 = filled_long _ _ _ h.held.edges in
      let e2 = h.fixed.long in
      let e3 = filled_long _ _ _ h.held.tests in
      let e4 = filled_long _ _ _ h.held.conditions in
      let e5 = filled_long _ _ _ h.held.constraints in
      let e6 = filled_long _ _ _ h.held.rules in
      let e7 = filled_long _ _ _ h.held.steps in
      let e8 = filled_long _ _ _ h.held.facts in
      rw (e1, e2, e3, e4, e5, e6, e7, e8) refl

  module _ (fresh : Fresh n has s t₀) (rs : List (Record B)) (t : Tables B) (filed : ℕ) (so : So rs t filed) where
    -- what is loose in the table is what is loose after the records
    still : (p : ℕ) → p < fixed_places_lem s (length t₀.fixed.table.now) → Iff (LooseAt n has t.fixed.table.now p) (StillLoose n has s rs p)
    still p l = loose_at n has (bound_at None (pick (mark_in s) rs) p) t₀.fixed.table.now t.fixed.table.now p (fresh.loose p l) (so.taken.fixed.here p l)

    entered_here : (r : Record B) → Fits s (counts_of t) filed (rooms_of t) (LooseAt n has t.fixed.table.now) r → Enters n has s (rooms_of t₀) rs r
    entered_here r h =
        (fits_same s (counts_after s (rooms_of t₀) rs) (length (pick fact_in rs)) (rooms_of t₀) (LooseAt n has t.fixed.table.now) (StillLoose n has s rs) still r).0
        (rw (so.taken.counts, so.filings, rooms_same rs t so.taken) at h)

    denied_here : (r : Record B) (fault : EntryFault) → Unfit s (counts_of t) filed (rooms_of t) (LooseAt n has t.fixed.table.now) r fault → Denied n has s (rooms_of t₀) rs r fault
    denied_here r fault h =
        unfit_same s (counts_after s (rooms_of t₀) rs) (length (pick fact_in rs)) (rooms_of t₀) (LooseAt n has t.fixed.table.now) (StillLoose n has s rs) still r fault
        (rw (so.taken.counts, so.filings, rooms_same rs t so.taken) at h)

    pub so_more : (r : Record B) (t' : Tables B) (filed' : ℕ) → Parsed form (get_or lines (length rs) []) (Ok r) → Fits s (counts_of t) filed (rooms_of t) (LooseAt n has t.fixed.table.now) r →
        Entered s r t filed t' filed' → So (rs ++ r ∷ []) t' filed'
    so_more r t' filed' parsed fits new =
        let held = so.taken.held in
        let enters = entered_here r fits in
        let edges = picked_more edge_in rs r _ _ _ _ _ (ap (λ k. k.edges) so.taken.counts) held.edges new.edges in
        let tests = picked_more test_in rs r _ _ _ _ _ (ap (λ k. k.tests) so.taken.counts) held.tests new.tests in
        let conditions = picked_more condition_in rs r _ _ _ _ _ (ap (λ k. k.conditions) so.taken.counts) held.conditions new.conditions in
        let constraints = picked_more constraint_in rs r _ _ _ _ _ (ap (λ k. k.constraints) so.taken.counts) held.constraints new.constraints in
        let rules = picked_more rule_in rs r _ _ _ _ _ (ap (λ k. k.rules) so.taken.counts) held.rules new.rules in
        let steps = picked_more step_in rs r _ _ _ _ _ (ap (λ k. k.steps) so.taken.counts) held.steps new.steps in
        let facts = picked_more fact_in rs r _ _ _ _ _ so.filings held.facts new.facts in
        record {
          taken = record {
            first = first_more rs r so.taken.first parsed enters;
            held = record {
              edges = edges.0;
              tests = tests.0;
              conditions = conditions.0;
              constraints = constraints.0;
              rules = rules.0;
              steps = steps.0;
              facts = facts.0;
            };
            fixed = laid_more (mark_in s) rs r _ _ _ _ (omega arith) (fits_mark s (counts_after s (rooms_of t₀) rs) (length (pick fact_in rs)) (rooms_of t₀) (StillLoose n has s rs) r enters) so.taken.fixed new.fixed;
            counts = counts_from (counts_of t') _ _ _ _ _ _ _ edges.1 (new.count_of_fixed ∙ ap (λ k. k.fixed) so.taken.counts) tests.1 conditions.1 constraints.1 rules.1 steps.1;
          };
          filings = facts.1;
        }

  -- no record has been taken
  pub so_none : (filed : ℕ) → Fresh n has s t₀ → filed ≡ 0 → So [] t₀ filed
  so_none filed fresh f = record {
    taken = record {
      first = λ i lt r same. absurd (omega arith);
      held = record {
        edges = (omega arith, refl);
        tests = (omega arith, refl);
        conditions = (omega arith, refl);
        constraints = (omega arith, refl);
        rules = (omega arith, refl);
        steps = (omega arith, refl);
        facts = (omega arith, refl);
      };
      fixed = record { long = refl; here = λ p l d. refl; behind = λ p l d. refl };
      counts = fresh.counts;
    };
    filings = f;
  }

  taken_kept : (rs : List (Record B)) (t t' : Tables B) → Kept t t' → Taken n has form lines s t₀ rs t → Taken n has form lines s t₀ rs t'
  taken_kept rs t t' k h = record {
    first = h.first;
    held = record {
      edges = rw k.edges h.held.edges;
      tests = rw k.tests h.held.tests;
      conditions = rw k.conditions h.held.conditions;
      constraints = rw k.constraints h.held.constraints;
      rules = rw k.rules h.held.rules;
      steps = rw k.steps h.held.steps;
      facts = rw k.facts h.held.facts;
    };
    fixed = rw k.fixed h.fixed;
    counts = k.counts ∙ h.counts;
  }

  module _ (fresh : Fresh n has s t₀) (rs : List (Record B)) (t : Tables B) (d : Draft) (so : So rs t d.count) where
    -- a record that is refused stops the taking
    pub so_stops : (fault : RecordFault) (i : ℕ) (t' : Tables B) (d' : Draft) → length rs ≡ i → i < length lines →
        TakeDoes n has form (get_or lines i []) s t d (Err fault) t' d' → TakeAllDoes n has form lines s t₀ (Err (placed fault i)) t'
    so_stops (Line NoRecord) i t' d' e lt h = (rs, e, lt, taken_kept rs t t' h.1 so.taken, h.0)
    so_stops (Line (NoBound cause)) i t' d' e lt h = (rs, e, lt, taken_kept rs t t' h.1 so.taken, h.0)
    so_stops (Entry NoPlace) i t' d' e lt (r, parsed, h) =
        (rs, e, lt, taken_kept rs t t' h.1 so.taken, (r, parsed, denied_here fresh rs t d.count so r NoPlace h.0))
    so_stops (Entry (NotFiled cause)) i t' d' e lt (r, parsed, h) =
        (rs, e, lt, taken_kept rs t t' h.1 so.taken, (r, parsed, denied_here fresh rs t d.count so r (NotFiled cause) h.0))

-- what the taking of a row does is what the taking of an equal row does
pub at_row : {B : Type 0} (n : ℕ) (has : B → Points) (form : B → List ℕ) (s : Sizes) (t : Tables B) (d : Draft) (r : Result (Unit {0}) RecordFault) (t' : Tables B) (d' : Draft) (row row' : List ℕ) →
    TakeDoes n has form row s t d r t' d' → row ≡ row' → TakeDoes n has form row' s t d r t' d'
at_row n has form s t d r t' d' row row' h e = rw e at h

-- what is lent stays lent
pub lent_on : {B : Type 0} (t t₁ t' : Tables B) → Lent t t₁ → Lent t₁ t' → Lent t t'
lent_on t t₁ t' a b = (b.0 ∙ a.0, b.1 ∙ a.1, b.2 ∙ a.2, b.3 ∙ a.3, b.4 ∙ a.4, b.5 ∙ a.5, b.6 ∙ a.6, b.7 ∙ a.7)

-- a result of which the error alone is changed
module _ {D E : Type 0} (told : D → E → Type 0) (r : Result (Unit {0}) D) (q : Result (Unit {0}) E) (cases : MatchResult r (λ x. q ≡ Ok x) (λ d. IsErrAnd q (told d))) where
  pub passed : (u : Unit {0}) → q ≡ Ok u → r ≡ Ok u
  passed u e = elim r as (λ v. MatchResult v (λ x. q ≡ Ok x) (λ d. IsErrAnd q (told d)) → v ≡ Ok u) [
    | Ok x ↦ λ same. cc
    | Err d ↦ λ same. absurd (subst (λ v. IsErrAnd v (told d)) e same)
  ] cases

  pub failed : (f : E) → q ≡ Err f → (d : D) × (r ≡ Err d) × told d f
  failed f e = elim r as (λ v. MatchResult v (λ x. q ≡ Ok x) (λ d. IsErrAnd q (told d)) → (d : D) × (v ≡ Err d) × told d f) [
    | Ok x ↦ λ same. cc
    | Err d ↦ λ same. (d, refl, subst (λ v. IsErrAnd v (told d)) e same)
  ] cases
