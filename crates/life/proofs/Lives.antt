-- Every life keeps the promise. Assumes nothing.
use Rattle.std.proofs.Common.{◌≡◌, ℕ, Bool, true, List, [], ◌∷◌, ◌++◌, length, Ok, Err, Result, refl, ap, ◌∙◌, subst}
use Rattle.std.proofs.lemmas.Bool.{eq-eqb}
use Rattle.std.proofs.lemmas.List.Elements.{All-nil}
use Rattle.points.specs.Points.{Points, Iff}
use Rattle.house.specs.declared.tables.Sizes.{Sizes}
use Rattle.house.specs.declared.tables.Cell.{Cell}
use Rattle.house.specs.declared.tables.Fact.{Fact}
use Rattle.house.specs.declared.tables.House.{House}
use Rattle.house.specs.Cells.{inside, place, cell_count, fact_inside}
use Rattle.examining.specs.Examine.{Accepted}
use Rattle.fitting.specs.Course.{Course, Within, course_of}
use Rattle.plan.specs.declared.Draft.{Draft}
use Rattle.plan.specs.declared.Settled.{Settled}
use Rattle.plan.specs.declared.refusals.Refusal.{Refusal}
use Rattle.plan.specs.declared.outcomes.Outcome.{Outcome}
use Rattle.plan.specs.declared.outcomes.Outcome.TheVariants.{Settled as Came, Contradiction as Failed, Refused as Denied}
use Rattle.plan.specs.Refusals.{number_of, place_of}
use Rattle.plan.specs.Orders.{look_checks, entails_checks, settle_checks}
use Rattle.plan.specs.Courses.{Satisfies, Fitting, Settles}
use Rattle.plan.specs.Calls.{Stands, SettleDoes, LookDoes, EntailsDoes}
use Rattle.examining.proofs.Laws.{not_clear}
use Rattle.plan.proofs.Checked.{once_clear, IsInside}
use Rattle.life.specs.declared.calls.Plan.{Plan}
use Rattle.life.specs.declared.calls.Plan.TheVariants.{Draft as Open, Settled as Firm}
use Rattle.life.specs.declared.calls.Call.{Call}
use Rattle.life.specs.declared.calls.Call.TheVariants.{File, Strike, Settle, Reopen, Look, Entails}
use Rattle.life.specs.declared.calls.Answer.{Answer}
use Rattle.life.specs.declared.calls.Answer.TheVariants.{Settled as IsSettled, Seen, Entailed}
use Rattle.life.specs.Kinds.{State, plan_of, told, verdict, after, SettledDoes}
use Rattle.life.specs.Life.{Event, Opened, filed_from, filed, Does, Life}
use Rattle.life.specs.Promise.{◌got◌, calls, NoReopen, IsContradiction, Promise, Kept}
use Rattle.life.proofs.Holds.{Lies, Holds, front, settle_clear, draft_more, settled_more}

-- what lies within a course that satisfies a fact satisfies it
satisfied_within : {S : Type 0} (has : S → Points) (s : Sizes) (narrow wide : Course) (f : Fact S) → Within narrow wide → Satisfies has s wide f → Satisfies has s narrow f
unfolding Satisfies
satisfied_within has s narrow wide f w sat t c l i cov p h = sat t c l i cov p (w t c l p h)

-- the course in the cells that a plan settles to fits
settled_fits : {S : Type 0} (n : ℕ) (has : S → Points) (h : House S) (says : ℕ → ℕ → ℕ → Points) (facts : List (Fact S)) (cells : List S) →
    Settles n has h says facts cells → Fitting n has h says facts (course_of h.sizes has cells)
settled_fits n has h says facts cells m = record { fits = m.loosest.fits; of_house = m.loosest.of_house; void_free = m.void_free }

module _ {S : Type 0} (n : ℕ) (has : S → Points) (h : House S) (formulas : ℕ) (says : ℕ → ℕ → ℕ → Points) where
  abbrev Lived : State S → List (Event S) → State S → Type 0
  Lived s es t = Life n has h formulas says s es t

  -- a life in two parts
  split : (xs ys : List (Event S)) (s t : State S) → Lived s (xs ++ ys) t → (m : State S) × Lived s xs m × Lived m ys t
  split [] ys s t l = (s, refl, l)
  split (x ∷ xs) ys s t l = let r = split xs ys l.0 t l.2 in (r.0, (l.0, l.1, r.1), r.2)

  -- a settled plan rests until it is reopened
  rests_on : (p : Settled) (c : Call S) (s t : State S) (a : Answer S) → (c ≡ Reopen → ⊥) → SettledDoes n has h formulas says p c s a t → t ≡ s
  rests_on p (File f) s t a never w = absurd w
  rests_on p (Strike i) s t a never w = absurd w
  rests_on p Settle s t a never w = absurd w
  rests_on p Reopen s t a never w = absurd (never refl)
  rests_on p (Look cell) s t a never w = w.3
  rests_on p (Entails f) s t a never w = w.3

  rests_step : (q : Plan) (p : Settled) (c : Call S) (s t : State S) (a : Answer S) → q ≡ Firm p → (c ≡ Reopen → ⊥) → Does n has h formulas says q c s a t → t ≡ s
  rests_step (Open d) p c s t a e never w = absurd cc
  rests_step (Firm q) p c s t a e never w = rests_on q c s t a never w

  rests : (es : List (Event S)) (s t : State S) (p : Settled) → s.plan ≡ Firm p → NoReopen es → Lived s es t → t ≡ s
  rests [] s t p e never l = l
  rests (x ∷ xs) s t p e never l =
      let here : (x.call ≡ Reopen → ⊥) = λ k. never [] xs x.answer (ap {B = List (Event S)} (λ (c : Call S). (c got x.answer) ∷ xs) k) in
      let same : l.0 ≡ s = rests_step s.plan p x.call s l.0 x.answer e here l.1 in
      let more : NoReopen xs = λ b r a k. never (x ∷ b) r a (ap (λ (ys : List (Event S)). x ∷ ys) k) in
      rests xs l.0 t p (ap (λ (m : State S). m.plan) same ∙ e) more l.2 ∙ same

module _ {S : Type 0} (n : ℕ) (has : S → Points) (h : House S) (formulas : ℕ) (says : ℕ → ℕ → ℕ → Points) (accepted : Accepted n has h formulas) (room : ℕ) where
  abbrev Held : List (Fact S) → State S → Type 0
  Held facts s = Holds n has h says room facts s.plan s.table s.cells

  holds_more : (p : Plan) (c : Call S) (facts : List (Fact S)) (s t : State S) (a : Answer S) → s.plan ≡ p →
      Holds n has h says room facts p s.table s.cells → Does n has h formulas says p c s a t → Held (after h.sizes room facts c) t
  holds_more (Open d) c facts s t a q k w = draft_more n has h formulas says accepted room d c facts s t a q k w
  holds_more (Firm p) c facts s t a q k w = settled_more n has h formulas says accepted room p c facts s t a q k w

  -- what holds at the start holds all through, of the facts then filed
  holds_all : (es : List (Event S)) (facts : List (Fact S)) (s t : State S) → Held facts s → Life n has h formulas says s es t →
      Held (filed_from h.sizes room facts (calls es)) t
  holds_all [] facts s t k l = rw l k
  holds_all (e ∷ es) facts s t k l =
      holds_all es (after h.sizes room facts e.call) l.0 t (holds_more s.plan e.call facts s l.0 e.answer refl k l.1) l.2

  -- settle, at a state
  abbrev Right : List (Fact S) → Answer S → Type 0
  Right facts a =
      Iff (IsContradiction a) ((course : Course) → Fitting n has h says facts course → ⊥) × ((IsContradiction a → ⊥) → a ≡ IsSettled)

  right : (facts : List (Fact S)) (d : Draft) (table : List (Fact S)) (cells cells' : List S) (o : Outcome) (a : Answer S) →
      Lies h.sizes room facts d.count table → length cells ≡ cell_count h.sizes → a ≡ verdict o → SettleDoes n has h formulas says d table cells o cells' → Right facts a
  right facts d table cells cells' (Came p) a l e q w =
      let best : Settles n has h says facts cells' = rw (front h.sizes l) at w.2 in
      let never : IsContradiction a → ⊥ = λ k. let at = k.1 in cc in
      (((λ k. absurd (never k)), λ none. absurd (none (course_of h.sizes has cells') (settled_fits n has h says facts cells' best))), λ _. q)
  right facts d table cells cells' (Failed at k) a l e q w =
      let none : (course : Course) → Fitting n has h says facts course → ⊥ = rw (front h.sizes l) at w.2.none in
      (((λ _. none), λ _. (at, q)), λ never. absurd (never (at, q)))
  right facts d table cells cells' (Denied r k) a l e q w =
      absurd (not_clear (settle_checks n has h formulas d.count table (length cells)) (number_of r) (place_of r)
      (settle_clear n has h formulas says accepted room facts d.count table (length cells) l e) w.0)

  right_at : (p : Plan) (facts : List (Fact S)) (s t : State S) (a : Answer S) →
      Holds n has h says room facts p s.table s.cells → Does n has h formulas says p Settle s a t → Right facts a
  right_at (Open d) facts s t a k w = right facts d s.table s.cells t.cells w.0 a k.lies k.long w.1 w.2
  right_at (Firm p) facts s t a k w = absurd w

  -- where settle answered settled, the plan is settled and its cells hold the course
  abbrev Firmly : List (Fact S) → State S → Type 0
  Firmly facts t = (p : Settled) × (t.plan ≡ Firm p) × Settles n has h says facts t.cells

  firm : (facts : List (Fact S)) (d : Draft) (table : List (Fact S)) (cells : List S) (o : Outcome) (t : State S) →
      Lies h.sizes room facts d.count table → ◌≡◌ {A = Answer S} IsSettled (verdict o) → SettleDoes n has h formulas says d table cells o t.cells →
      t.plan ≡ plan_of o → Firmly facts t
  firm facts d table cells (Came p) t l q w e = (p, e, rw (front h.sizes l) at w.2)
  firm facts d table cells (Failed at k) t l q w e = absurd cc
  firm facts d table cells (Denied r k) t l q w e = absurd cc

  firm_at : (p : Plan) (facts : List (Fact S)) (s t : State S) →
      Holds n has h says room facts p s.table s.cells → Does n has h formulas says p Settle s IsSettled t → Firmly facts t
  firm_at (Open d) facts s t k w = firm facts d s.table s.cells w.0 t k.lies w.1 w.2 w.3
  firm_at (Firm p) facts s t k w = absurd w

  -- look and entails, at a settled state
  abbrev Saw : List S → Cell → Answer S → Type 0
  Saw cells cell a = (x : S) × (a ≡ Seen x) × Stands cells (place h.sizes cell.hour cell.component cell.label) x

  seen : (cell : Cell) (cells : List S) (a : Answer S) (r : Result S Refusal) → length cells ≡ cell_count h.sizes →
      inside h.sizes cell.hour cell.component cell.label ≡ true → a ≡ told Seen r → LookDoes h.sizes cell cells r → Saw cells cell a
  seen cell cells a (Ok x) e i q w = (x, q, w.1)
  seen cell cells a (Err r) e i q w =
      absurd (not_clear (look_checks h.sizes cell (length cells)) (number_of r) (place_of r)
      (accepted.0, (once_clear 13 _ (eq-eqb _ _ e), (once_clear 15 _ i, tt))) w)

  seen_at : (p : Plan) (cell : Cell) (s t : State S) (a : Answer S) → length s.cells ≡ cell_count h.sizes →
      inside h.sizes cell.hour cell.component cell.label ≡ true → Does n has h formulas says p (Look cell) s a t → Saw s.cells cell a
  seen_at (Open d) cell s t a e i w = seen cell s.cells a w.0 e i w.1 w.2
  seen_at (Firm p) cell s t a e i w = seen cell s.cells a w.0 e i w.1 w.2

  abbrev Tells : List (Fact S) → Fact S → Answer S → Type 0
  Tells facts f a =
      (b : Bool) × (a ≡ Entailed b) × Iff (b ≡ true) ((course : Course) → Fitting n has h says facts course → Satisfies has h.sizes course f)

  tells : (facts : List (Fact S)) (f : Fact S) (cells : List S) (a : Answer S) (r : Result Bool Refusal) → Settles n has h says facts cells →
      fact_inside h.sizes f ≡ true → a ≡ told Entailed r → EntailsDoes has h.sizes f cells r → Tells facts f a
  tells facts f cells a (Ok b) m i q w = (
    b,
    q,
    (
      (λ y course fit. satisfied_within has h.sizes course (course_of h.sizes has cells) f (m.loosest.contains course fit.fits fit.of_house) (w.1.0 y)),
      λ all. w.1.1 (all (course_of h.sizes has cells) (settled_fits n has h says facts cells m)),
    ),
  )
  tells facts f cells a (Err r) m i q w =
      absurd (not_clear (entails_checks h.sizes f (length cells)) (number_of r) (place_of r)
      (accepted.0, (once_clear 13 _ (eq-eqb _ _ m.long), (once_clear 11 _ i, tt))) w)

  tells_at : (p : Plan) (facts : List (Fact S)) (f : Fact S) (s t : State S) (a : Answer S) → Settles n has h says facts s.cells →
      fact_inside h.sizes f ≡ true → Does n has h formulas says p (Entails f) s a t → Tells facts f a
  tells_at (Open d) facts f s t a m i w = absurd w
  tells_at (Firm p) facts f s t a m i w = tells facts f s.cells a w.0 m i w.1 w.2

  -- the facts then filed
  abbrev then : List (Event S) → List (Fact S)
  then before = filed h.sizes room (calls before)

  -- the state that a settled answer leaves
  settled_there : (s : State S) → Held [] s → (life before later : List (Event S)) (last : State S) → life ≡ before ++ Settle got IsSettled ∷ later →
      Life n has h formulas says s life last → (m : State S) × Firmly (then before) m × Life n has h formulas says m later last
  settled_there s k life before later last e l =
      let r = split n has h formulas says before (Settle got IsSettled ∷ later) s last (rw e at l) in
      (r.2.0, firm_at r.0.plan (then before) r.0 r.2.0 (holds_all before [] s r.0 k r.1) r.2.1, r.2.2)

  -- a later call, with no reopen before it, meets that same state
  later_there : (facts : List (Fact S)) (m : State S) → Firmly facts m → (later between rest : List (Event S)) (c : Call S) (a : Answer S) (last : State S) →
      later ≡ between ++ c got a ∷ rest → NoReopen between → Life n has h formulas says m later last → (t : State S) × Does n has h formulas says m.plan c m a t
  later_there facts m k later between rest c a last e none l =
      let u = split n has h formulas says between (c got a ∷ rest) m last (rw e at l) in
      let same : u.0 ≡ m = rests n has h formulas says between m u.0 k.0 k.1 none u.1 in
      let P : State S → Type 0 = λ x. Does n has h formulas says x.plan c x a u.2.0 in
      (u.2.0, subst P same u.2.1)

  keeps : (s : State S) → Held [] s → (life : List (Event S)) (last : State S) → Life n has h formulas says s life last → Promise n has h says room life
  keeps s k life last l = record {
    settles = λ before later a e.
        let r = split n has h formulas says before (Settle got a ∷ later) s last (rw e at l) in
        right_at r.0.plan (then before) r.0 r.2.0 a (holds_all before [] s r.0 k r.1) r.2.1;
    looks = λ before later e.
        let r = settled_there s k life before later last e l in (
          r.0.cells,
          r.1.2,
          λ between rest cell a e2 none i.
              let u = later_there (then before) r.0 r.1 later between rest (Look cell) a last e2 none r.2 in
              seen_at r.0.plan cell r.0 u.0 a r.1.2.long i u.1,
        );
    entails = λ before later e between rest f a e2 none i.
        let r = settled_there s k life before later last e l in
        let u = later_there (then before) r.0 r.1 later between rest (Entails f) a last e2 none r.2 in
        tells_at r.0.plan (then before) f r.0 u.0 a r.1.2 i u.1;
  }

  -- what open leaves holds
  fresh_holds : (table : List (Fact S)) (cells : List S) (s : State S) → length table ≡ room → length cells ≡ cell_count h.sizes → Opened table cells s → Held [] s
  fresh_holds table cells s r e o =
      rw o.state (record { lies = record { counted = o.fresh; begins = refl; roomy = r; inner = All-nil (IsInside h.sizes) }; long = e; rests = tt })

module _ {S : Type 0} (n : ℕ) (has : S → Points) (h : House S) (formulas : ℕ) (says : ℕ → ℕ → ℕ → Points) where
  pub kept : Accepted n has h formulas → Kept n has h formulas says
  kept accepted table cells first last life e o l =
      keeps n has h formulas says accepted (length table) first (fresh_holds n has h formulas says accepted (length table) table cells first refl e o) life last l
