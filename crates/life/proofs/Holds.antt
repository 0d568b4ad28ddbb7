-- What holds of a state all through a life, and that each call keeps it. Assumes nothing.
use Rattle.std.proofs.Common.{◌≡◌, ℕ, suc, ◌+◌, ◌-◌, ◌<◌, ◌≤◌, true, false, ◌&&◌, ltb, ◌⊎◌, List, [], ◌∷◌, ◌++◌, length, take, drop, Ok, Err, Result, sym, refl, ap, ◌∙◌, inl, inr, arith}
use Rattle.std.specs.List.{remove}
use Rattle.std.proofs.lemmas.List.{length-take, length_push, length-append, length-drop, length-set, take_more_set, take_at, take_all, drop_all, append-nil}
use Rattle.std.proofs.lemmas.List.Edits.{length-remove}
use Rattle.std.proofs.lemmas.List.Elements.{All-push}
use Rattle.std.proofs.lemmas.Bool.{cases_Bool, and_parts, and_from, ltb-true, le-leb, lt-ltb, eq-eqb, cond-true, cond-false, cases_lt}
use Rattle.points.specs.Points.{Points}
use Rattle.house.specs.declared.tables.Sizes.{Sizes}
use Rattle.house.specs.declared.tables.Fact.{Fact}
use Rattle.house.specs.declared.tables.House.{House}
use Rattle.house.specs.Cells.{cell_count, fact_inside}
use Rattle.examining.specs.Examine.{Clear, AllClear, size_check, checks, Accepted}
use Rattle.plan.specs.declared.Draft.{Draft}
use Rattle.plan.specs.declared.Settled.{Settled}
use Rattle.plan.specs.declared.refusals.Refusal.{Refusal}
use Rattle.plan.specs.declared.outcomes.Outcome.{Outcome}
use Rattle.plan.specs.declared.outcomes.Outcome.TheVariants.{Settled as Came, Contradiction as Failed, Refused as Denied}
use Rattle.plan.specs.Refusals.{number_of, place_of}
use Rattle.plan.specs.Orders.{table_holds, facts_fit, course_long, file_checks, strike_checks, settle_checks}
use Rattle.plan.specs.Courses.{Settles}
use Rattle.plan.specs.Calls.{FileDoes, StrikeDoes, SettleDoes}
use Rattle.examining.proofs.Laws.{not_clear}
use Rattle.plan.proofs.Checked.{clear_append, once_use, once_clear, IsInside, AllInside, inside_clear, inside_removed}
use Rattle.life.specs.declared.calls.Plan.{Plan}
use Rattle.life.specs.declared.calls.Plan.TheVariants.{Draft as Open, Settled as Firm}
use Rattle.life.specs.declared.calls.Call.{Call}
use Rattle.life.specs.declared.calls.Call.TheVariants.{File, Strike, Settle, Reopen, Look, Entails}
use Rattle.life.specs.declared.calls.Answer.{Answer}
use Rattle.life.specs.Kinds.{State, plan_of, after, DraftDoes, SettledDoes}

removed_past : {X : Type 0} (xs : List X) (i : ℕ) → length xs ≤ i → remove xs i ≡ xs
removed_past xs i h =
    let a : take i xs ≡ xs = take_all i xs h in
    let b : drop (suc i) xs ≡ [] = drop_all (suc i) xs (omega arith) in
    rw (a, b) (append-nil xs)

module _ {S : Type 0} (s : Sizes) where
  -- the count is the number of filed facts, the table begins with them, and they are inside the house
  pub record Lies (room : ℕ) (filed : List (Fact S)) (count : ℕ) (table : List (Fact S)) : Type 0 where
    pub counted : count ≡ length filed
    pub begins : take (length filed) table ≡ filed
    pub roomy : length table ≡ room
    pub inner : AllInside s filed

  few : {room count : ℕ} {filed table : List (Fact S)} → Lies room filed count table → length filed ≤ room
  few {room} {count} {filed} {table} h = omega (arith, ap length h.begins, length-take (length filed) table)

  pub front : {room count : ℕ} {filed table : List (Fact S)} → Lies room filed count table → take count table ≡ filed
  front {room} {count} {filed} {table} h = rw h.counted h.begins

module _ {S : Type 0} (s : Sizes) (sized : Clear (size_check s)) (room : ℕ) where
  file_clear : (f : Fact S) (count long : ℕ) → fact_inside s f ≡ true → count < long → AllClear (file_checks s f count long)
  file_clear f count long i l =
      (sized, (once_clear 11 _ i, (once_clear 9 _ (le-leb count long (omega arith)), (once_clear 10 _ (lt-ltb count long l), tt))))

  file_lies : (f : Fact S) (filed : List (Fact S)) (d e : Draft) (table table' : List (Fact S)) (r : Result (Unit {0}) Refusal) →
      Lies s room filed d.count table → FileDoes s f d table r e table' → Lies s room (after s room filed (File f)) e.count table'
  file_lies f filed d e table table' (Ok u) h w =
      let i : fact_inside s f ≡ true = once_use 11 _ w.0.1.0 in
      let l : d.count < length table = ltb-true _ _ (once_use 10 _ w.0.1.1.1.0) in
      let roomy : ltb (length filed) room ≡ true = lt-ltb _ _ (omega (arith, h.counted, h.roomy)) in
      rw (cond-true _ (filed ++ f ∷ []) filed (and_from _ _ i roomy), w.1, w.2)
      (record {
        counted = ap (λ (m : ℕ). m + 1) h.counted ∙ sym (length_push filed f);
        begins =
            rw (length_push filed f, ← h.counted) (take_more_set table d.count f l ∙ ap (λ (xs : List (Fact S)). xs ++ f ∷ []) (front s h));
        roomy = length-set table d.count f ∙ h.roomy;
        inner = All-push (IsInside s) filed f h.inner i;
      })
  file_lies f filed d e table table' (Err r) h w = ways (cases_Bool (fact_inside s f && ltb (length filed) room))
    where
      ways : ((fact_inside s f && ltb (length filed) room) ≡ true) ⊎ ((fact_inside s f && ltb (length filed) room) ≡ false) →
          Lies s room (after s room filed (File f)) e.count table'
      ways (inl t) =
          let p = and_parts (fact_inside s f) (ltb (length filed) room) t in
          let l : d.count < length table = omega (arith, ltb-true _ _ p.1, h.counted, h.roomy) in
          absurd (not_clear (file_checks s f d.count (length table)) (number_of r) (place_of r) (file_clear f d.count (length table) p.0 l) w.0)
      ways (inr t) = rw (cond-false _ (filed ++ f ∷ []) filed t, w.1, w.2) h

module _ {S : Type 0} (s : Sizes) (room : ℕ) where
  strike_lies : (i : ℕ) (filed : List (Fact S)) (d e : Draft) (table table' : List (Fact S)) (r : Result (Unit {0}) Refusal) →
      Lies s room filed d.count table → StrikeDoes i d table r e table' → Lies s room (remove filed i) e.count table'
  strike_lies i filed d e table table' (Ok u) h w =
      let l : i < d.count = ltb-true _ _ (once_use 12 _ w.0.1.0) in
      let m : length (remove filed i) + 1 ≡ length filed = length-remove filed i (omega (arith, h.counted)) in
      let fw = few s h in
      let k : length (remove filed i) ≡ d.count - 1 = omega (arith, h.counted) in
      let t : table' ≡ remove filed i ++ drop (d.count - 1) table =
      w.2 ∙ ap (λ (xs : List (Fact S)). remove xs i ++ drop (d.count - 1) table) (front s h) in
      rw (w.1, t)
      (record {
        counted = sym k;
        begins = take_at (remove filed i) (drop (d.count - 1) table) (length (remove filed i)) refl;
        roomy = omega (arith, length-append (remove filed i) (drop (d.count - 1) table), length-drop (d.count - 1) table, h.roomy, h.counted);
        inner = inside_removed s filed i h.inner;
      })
  strike_lies i filed d e table table' (Err r) h w = ways (cases_lt i d.count)
    where
      ways : (i < d.count) ⊎ (d.count ≤ i) → Lies s room (remove filed i) e.count table'
      ways (inl l) =
          let fw = few s h in
          absurd (not_clear (strike_checks i d.count (length table)) (number_of r) (place_of r)
          (once_clear 9 _ (le-leb _ _ (omega (arith, h.roomy, h.counted))), (once_clear 12 _ (lt-ltb _ _ l), tt)) w.0)
      ways (inr l) = rw (removed_past filed i (omega (arith, h.counted)), w.1, w.2) h

abbrev count_of : Plan → ℕ
count_of (Open d) = d.count
count_of (Firm p) = p.count

module _ {S : Type 0} (n : ℕ) (has : S → Points) (h : House S) (says : ℕ → ℕ → ℕ → Points) where
  -- the cells of a settled plan hold the course of its facts
  abbrev pub Rests : Plan → List (Fact S) → List S → Type 0
  Rests (Open d) filed cells = Unit {0}
  Rests (Firm p) filed cells = Settles n has h says filed cells

  pub record Holds (room : ℕ) (filed : List (Fact S)) (plan : Plan) (table : List (Fact S)) (cells : List S) : Type 0 where
    pub lies : Lies h.sizes room filed (count_of plan) table
    pub long : length cells ≡ cell_count h.sizes
    pub rests : Rests plan filed cells

module _ {S : Type 0} (n : ℕ) (has : S → Points) (h : House S) (formulas : ℕ) (says : ℕ → ℕ → ℕ → Points) (accepted : Accepted n has h formulas) (room : ℕ) where
  -- on an accepted house, with room for the facts and cells enough, settle refuses nothing
  pub settle_clear : (filed : List (Fact S)) (count : ℕ) (table : List (Fact S)) (long : ℕ) →
      Lies h.sizes room filed count table → long ≡ cell_count h.sizes → AllClear (settle_checks n has h formulas count table long)
  settle_clear filed count table long l e =
      let fw = few h.sizes l in
      clear_append (checks n has h formulas) (table_holds count (length table) ∷ facts_fit h.sizes (take count table) ∷ course_long h.sizes long ∷ []) accepted
      (once_clear 9 _ (le-leb _ _ (omega (arith, l.roomy, l.counted))), (rw (front h.sizes l) (inside_clear h.sizes filed l.inner), (once_clear 13 _ (eq-eqb _ _ e), tt)))

  settled_holds : (filed : List (Fact S)) (d : Draft) (table : List (Fact S)) (cells cells' : List S) (o : Outcome) →
      Lies h.sizes room filed d.count table → length cells ≡ cell_count h.sizes → SettleDoes n has h formulas says d table cells o cells' →
      Holds n has h says room filed (plan_of o) table cells'
  settled_holds filed d table cells cells' (Came p) l e w =
      let best : Settles n has h says filed cells' = rw (front h.sizes l) at w.2 in
      record { lies = rw w.1 l; long = best.long; rests = best }
  settled_holds filed d table cells cells' (Failed at k) l e w = record { lies = rw w.1 l; long = w.4 ∙ e; rests = tt }
  settled_holds filed d table cells cells' (Denied r k) l e w = record { lies = rw w.1 l; long = rw w.2 e; rests = tt }

  abbrev Held : List (Fact S) → Plan → State S → Type 0
  Held filed p t = Holds n has h says room filed p t.table t.cells

  -- each call keeps what holds
  pub draft_more : (d : Draft) (c : Call S) (filed : List (Fact S)) (s t : State S) (a : Answer S) → s.plan ≡ Open d →
      Held filed (Open d) s → DraftDoes n has h formulas says d c s a t → Held (after h.sizes room filed c) t.plan t
  draft_more d (File f) filed s t a q k w =
      rw (w.4, w.5) (record { lies = file_lies h.sizes accepted.0 room f filed d w.0 s.table t.table w.1 k.lies w.3; long = k.long; rests = tt })
  draft_more d (Strike i) filed s t a q k w =
      rw (w.4, w.5) (record { lies = strike_lies h.sizes room i filed d w.0 s.table t.table w.1 k.lies w.3; long = k.long; rests = tt })
  draft_more d Settle filed s t a q k w = rw (w.3, w.4) (settled_holds filed d s.table s.cells t.cells w.0 k.lies k.long w.2)
  draft_more d Reopen filed s t a q k w = absurd w
  draft_more d (Look cell) filed s t a q k w = rw (w.3, q) k
  draft_more d (Entails f) filed s t a q k w = absurd w

  pub settled_more : (p : Settled) (c : Call S) (filed : List (Fact S)) (s t : State S) (a : Answer S) → s.plan ≡ Firm p →
      Held filed (Firm p) s → SettledDoes n has h formulas says p c s a t → Held (after h.sizes room filed c) t.plan t
  settled_more p (File f) filed s t a q k w = absurd w
  settled_more p (Strike i) filed s t a q k w = absurd w
  settled_more p Settle filed s t a q k w = absurd w
  settled_more p Reopen filed s t a q k w = rw (w.3, w.4, w.5) (record { lies = rw w.2 k.lies; long = k.long; rests = tt })
  settled_more p (Look cell) filed s t a q k w = rw (w.3, q) k
  settled_more p (Entails f) filed s t a q k w = rw (w.3, q) k
