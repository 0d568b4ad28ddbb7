-- A replay, call by call, and what it comes to. Assumes nothing.
use Rattle.std.proofs.Common.{◌≡◌, ℕ, ◌+◌, ◌<◌, true, false, ◌⊎◌, List, [], ◌∷◌, ◌++◌, length, get_or, take, Ok, Err, Result, refl, ap, ◌∙◌, subst, inl, inr}
use Rattle.std.proofs.lemmas.List.{map_push, take_more}
use Rattle.std.proofs.lemmas.Bool.{cond-true, cond-false}
use Rattle.points.specs.Points.{Points}
use Rattle.house.specs.declared.tables.Fact.{Fact}
use Rattle.house.specs.declared.tables.House.{House}
use Rattle.plan.specs.declared.Draft.{Draft}
use Rattle.plan.specs.declared.Settled.{Settled}
use Rattle.plan.specs.declared.refusals.Refusal.{Refusal}
use Rattle.plan.specs.declared.outcomes.Outcome.{Outcome}
use Rattle.plan.specs.declared.outcomes.Outcome.TheVariants.{Settled as Came, Contradiction as Failed, Refused as Denied}
use Rattle.plan.specs.Calls.{OpenDoes}
use Rattle.life.specs.declared.calls.Plan.{Plan}
use Rattle.life.specs.declared.calls.Plan.TheVariants.{Draft as Open, Settled as Firm}
use Rattle.life.specs.declared.calls.Call.{Call}
use Rattle.life.specs.declared.calls.Call.TheVariants.{File, Strike, Settle, Reopen, Look, Entails}
use Rattle.life.specs.declared.calls.Answer.{Answer}
use Rattle.life.specs.Kinds.{State, told, verdict, on_draft_lem, on_settled_lem}
use Rattle.life.specs.Life.{Event, Opened, allows, Does, Life, Plays, Replay}
use Rattle.life.specs.Promise.{◌got◌, calls, answers}
use Rattle.life.specs.Replayed.{misplaced, placed, Replayed}
use Rattle.life.proofs.Lives.{kept}

told_placed : {S X : Type 0} (done : X → Answer S) → ((x : X) → misplaced (done x) ≡ false) → (r : Result X Refusal) → misplaced (told done r) ≡ false
told_placed done e (Ok x) = e x
told_placed done e (Err r) = refl

verdict_placed : (S : Type 0) (o : Outcome) → misplaced {S = S} (verdict o) ≡ false
verdict_placed S (Came p) = refl
verdict_placed S (Failed at d) = refl
verdict_placed S (Denied r d) = refl

module _ {S : Type 0} (n : ℕ) (has : S → Points) (h : House S) (formulas : ℕ) (says : ℕ → ℕ → ℕ → Points) where
  -- a call is placed, and does what it does; or it is misplaced, and changes nothing
  abbrev Either : Plan → Call S → State S → Answer S → State S → Type 0
  Either p c s a t = ((misplaced a ≡ false) × Does n has h formulas says p c s a t) ⊎ ((misplaced a ≡ true) × (t ≡ s))

  on_draft_plays : (d : Draft) (c : Call S) (s t : State S) (a : Answer S) → Plays n has h formulas says (on_draft_lem c) (Open d) c s a t → Either (Open d) c s a t
  on_draft_plays d (File f) s t a w = inl (rw w.2 (told_placed _ (λ _. refl) w.1), w)
  on_draft_plays d (Strike i) s t a w = inl (rw w.2 (told_placed _ (λ _. refl) w.1), w)
  on_draft_plays d Settle s t a w = inl (rw w.1 (verdict_placed S w.0), w)
  on_draft_plays d Reopen s t a w = inr (rw w.0 refl, w.1)
  on_draft_plays d (Look cell) s t a w = inl (rw w.1 (told_placed _ (λ _. refl) w.0), w)
  on_draft_plays d (Entails f) s t a w = inr (rw w.0 refl, w.1)

  on_settled_plays : (p : Settled) (c : Call S) (s t : State S) (a : Answer S) → Plays n has h formulas says (on_settled_lem c) (Firm p) c s a t → Either (Firm p) c s a t
  on_settled_plays p (File f) s t a w = inr (rw w.0 refl, w.1)
  on_settled_plays p (Strike i) s t a w = inr (rw w.0 refl, w.1)
  on_settled_plays p Settle s t a w = inr (rw w.0 refl, w.1)
  on_settled_plays p Reopen s t a w = inl (rw w.1 refl, w)
  on_settled_plays p (Look cell) s t a w = inl (rw w.1 (told_placed _ (λ _. refl) w.0), w)
  on_settled_plays p (Entails f) s t a w = inl (rw w.1 (told_placed _ (λ _. refl) w.0), w)

  either : (p : Plan) (c : Call S) (s t : State S) (a : Answer S) → Plays n has h formulas says (allows p c) p c s a t → Either p c s a t
  either (Open d) c s t a w = on_draft_plays d c s t a w
  either (Firm p) c s t a w = on_settled_plays p c s t a w

  -- a replay without its misplaced calls is a life
  placed_life : (es : List (Event S)) (s t : State S) → Replay n has h formulas says s es t → Life n has h formulas says s (placed es) t
  placed_life [] s t r = r
  placed_life (e ∷ es) s t r = ways (placed_life es r.0 t r.2) (either s.plan e.call s r.0 e.answer r.1)
    where
      ways : Life n has h formulas says r.0 (placed es) t → Either s.plan e.call s e.answer r.0 → Life n has h formulas says s (placed (e ∷ es)) t
      ways more (inl w) = rw (cond-false _ (placed es) (e ∷ placed es) w.0) (r.0, w.1, more)
      ways more (inr w) = rw (cond-true _ (placed es) (e ∷ placed es) w.0, ← w.1) more

  -- one more call at the end of a replay
  replay_push : (es : List (Event S)) (s m t : State S) (c : Call S) (a : Answer S) → Replay n has h formulas says s es m →
      Plays n has h formulas says (allows m.plan c) m.plan c m a t → Replay n has h formulas says s (es ++ c got a ∷ []) t
  replay_push [] s m t c a r w =
      let P : State S → Type 0 = λ x. Plays n has h formulas says (allows x.plan c) x.plan c x a t in
      (t, subst P r w, refl)
  replay_push (e ∷ es) s m t c a r w = (r.0, r.1, replay_push es r.0 m t c a r.2 w)

  abbrev at : Plan → List (Fact S) → List S → State S
  at plan table cells = record { plan = plan; table = table; cells = cells }

  -- the calls so far, with their answers so far, are a replay from open to the present state
  pub record SoFar (asked : List (Call S)) (told : List (Answer S)) (table : List (Fact S)) (cells : List S) (plan : Plan) (table' : List (Fact S)) (cells' : List S) : Type 0 where
    pub first : State S
    pub opened : Opened table cells first
    pub events : List (Event S)
    pub asked_are : calls events ≡ asked
    pub told_are : answers events ≡ told
    pub replay : Replay n has h formulas says first events (record { plan = plan; table = table'; cells = cells' })

  pub far_none : (table : List (Fact S)) (cells : List S) (draft : Draft) → OpenDoes draft → SoFar [] [] table cells (Open draft) table cells
  far_none table cells draft e = record {
    first = at (Open draft) table cells;
    opened = record { draft = draft; fresh = e; state = refl };
    events = [];
    asked_are = refl;
    told_are = refl;
    replay = refl;
  }

  -- in a loop over all that is asked, at its index i
  pub far_step : (all : List (Call S)) (i : ℕ) (told : List (Answer S)) (table : List (Fact S)) (cells : List S) (p q : Plan) (t u : List (Fact S)) (c d : List S)
      (call : Call S) (answer : Answer S) → i < length all → call ≡ get_or all i call → SoFar (take i all) told table cells p t c →
      Plays n has h formulas says (allows p call) p call (at p t c) answer (at q u d) → SoFar (take (i + 1) all) (told ++ answer ∷ []) table cells q u d
  far_step all i told table cells p q t u c d call answer l is f w = rw (take_more all i call l, ← is) (record {
    first = f.first;
    opened = f.opened;
    events = f.events ++ call got answer ∷ [];
    asked_are = map_push (λ (e : Event S). e.call) f.events (call got answer) ∙ ap (λ (xs : List (Call S)). xs ++ call ∷ []) f.asked_are;
    told_are = map_push (λ (e : Event S). e.answer) f.events (call got answer) ∙ ap (λ (xs : List (Answer S)). xs ++ answer ∷ []) f.told_are;
    replay = replay_push f.events f.first (at p t c) (at q u d) call answer f.replay w;
  })

  pub far_all : (asked : List (Call S)) (told : List (Answer S)) (table : List (Fact S)) (cells : List S) (p : Plan) (t : List (Fact S)) (c : List S) →
      SoFar asked told table cells p t c → Replayed n has h formulas says asked told table cells t c
  far_all asked told table cells p t c f =
      let life = placed_life f.events f.first (at p t c) f.replay in
      record {
        first = f.first;
        opened = f.opened;
        plan = p;
        events = f.events;
        asked_are = f.asked_are;
        told_are = f.told_are;
        replay = f.replay;
        life = life;
        promise = λ accepted long. kept n has h formulas says accepted table cells f.first (at p t c) (placed f.events) long f.opened life;
      }
