-- The kinds of calls: in which phase of a plan the build allows each, what it makes of the filed facts, and what it
-- answers and leaves. A further kind of call joins here, with a line in each definition.
use Rattle.std.specs.Prelude.{◌≡◌, ℕ, Bool, true, false, cond, ◌&&◌, List, [], ◌∷◌, ◌++◌, length, Ok, Err, Result, nat_lt}
use Rattle.points.specs.Points.{Points}
use Rattle.std.specs.List.{remove}
use Rattle.house.specs.declared.tables.Sizes.{Sizes}
use Rattle.house.specs.declared.tables.Cell.{Cell}
use Rattle.house.specs.declared.tables.Fact.{Fact}
use Rattle.house.specs.declared.tables.House.{House}
use Rattle.house.specs.Cells.{fact_inside}
use Rattle.plan.specs.declared.Draft.{Draft}
use Rattle.plan.specs.declared.Settled.{Settled}
use Rattle.plan.specs.declared.refusals.Refusal.{Refusal}
use Rattle.plan.specs.declared.outcomes.Outcome.{Outcome}
use Rattle.plan.specs.declared.outcomes.Outcome.TheVariants.{Settled as Came, Contradiction as Failed, Refused as Denied}
use Rattle.plan.specs.Calls.{FileDoes, StrikeDoes, SettleDoes, ReopenDoes, LookDoes, EntailsDoes}
use Rattle.life.specs.declared.calls.Plan.{Plan}
use Rattle.life.specs.declared.calls.Plan.TheVariants.{Draft as Open, Settled as Firm}
use Rattle.life.specs.declared.calls.Call.{Call}
use Rattle.life.specs.declared.calls.Call.TheVariants.{File, Strike, Settle, Reopen, Look, Entails}
use Rattle.life.specs.declared.calls.Answer.{Answer}
use Rattle.life.specs.declared.calls.Answer.TheVariants.{Filed, Struck, Settled as IsSettled, Contradiction, Reopened, Seen, Entailed, Refused}

-- a plan with the table and the cells that are its own
pub record State (S : Type 0) : Type 0 where
  pub plan : Plan
  pub table : List (Fact S)
  pub cells : List S

-- the plan that settle gives back
abbrev pub plan_of : Outcome → Plan
plan_of (Came settled) = Firm settled
plan_of (Failed at draft) = Open draft
plan_of (Denied r draft) = Open draft

module _ {S : Type 0} where
  -- the build allows this call on a draft
  abbrev pub on_draft_lem : Call S → Bool
  on_draft_lem (File f) = true
  on_draft_lem (Strike i) = true
  on_draft_lem Settle = true
  on_draft_lem Reopen = false
  on_draft_lem (Look cell) = true
  on_draft_lem (Entails f) = false

  -- the build allows this call on a settled plan
  abbrev pub on_settled_lem : Call S → Bool
  on_settled_lem (File f) = false
  on_settled_lem (Strike i) = false
  on_settled_lem Settle = false
  on_settled_lem Reopen = true
  on_settled_lem (Look cell) = true
  on_settled_lem (Entails f) = true

  -- The filed facts after one more call, in a house of these sizes with a table of `room` places. File puts its fact at
  -- the end if that is inside the house and there is room; strike takes out the fact at its place, if there is one;
  -- nothing else changes them.
  abbrev pub after : Sizes → ℕ → List (Fact S) → Call S → List (Fact S)
  after s room filed (File f) = cond (fact_inside s f && nat_lt (length filed) room) (filed ++ f ∷ []) filed
  after s room filed (Strike i) = remove filed i
  after s room filed Settle = filed
  after s room filed Reopen = filed
  after s room filed (Look cell) = filed
  after s room filed (Entails f) = filed

  -- the answer that a result makes
  abbrev pub told : {X : Type 0} → (X → Answer S) → Result X Refusal → Answer S
  told done (Ok x) = done x
  told done (Err r) = Refused r

  -- the answer that settle makes
  abbrev pub verdict : Outcome → Answer S
  verdict (Came settled) = IsSettled
  verdict (Failed at draft) = Contradiction at
  verdict (Denied r draft) = Refused r

-- with a house, the number of its book's formulas and what these say at x of y, on a scale of n points
module _ {S : Type 0} (n : ℕ) (has : S → Points) (h : House S) (formulas : ℕ) (says : ℕ → ℕ → ℕ → Points) where
  -- a look leaves all
  abbrev pub Looks : Cell → State S → Answer S → State S → Type 0
  Looks cell s a t = (r : Result S Refusal) × (a ≡ told Seen r) × LookDoes h.sizes cell s.cells r × (t ≡ s)

  -- what a call on a draft answers and leaves, by the definition of the single call
  abbrev pub DraftDoes : Draft → Call S → State S → Answer S → State S → Type 0
  DraftDoes d (File f) s a t =
      (e : Draft) × (r : Result (Unit {0}) Refusal) × (a ≡ told (λ _. Filed) r)
      × FileDoes h.sizes f d s.table r e t.table × (t.plan ≡ Open e) × (t.cells ≡ s.cells)
  DraftDoes d (Strike i) s a t =
      (e : Draft) × (r : Result (Unit {0}) Refusal) × (a ≡ told (λ _. Struck) r)
      × StrikeDoes i d s.table r e t.table × (t.plan ≡ Open e) × (t.cells ≡ s.cells)
  DraftDoes d Settle s a t =
      (o : Outcome) × (a ≡ verdict o)
      × SettleDoes n has h formulas says d s.table s.cells o t.cells × (t.plan ≡ plan_of o) × (t.table ≡ s.table)
  DraftDoes d Reopen s a t = ⊥
  DraftDoes d (Look cell) s a t = Looks cell s a t
  DraftDoes d (Entails f) s a t = ⊥

  -- what a call on a settled plan answers and leaves
  abbrev pub SettledDoes : Settled → Call S → State S → Answer S → State S → Type 0
  SettledDoes p (File f) s a t = ⊥
  SettledDoes p (Strike i) s a t = ⊥
  SettledDoes p Settle s a t = ⊥
  SettledDoes p Reopen s a t =
      (d : Draft) × (a ≡ Reopened) × ReopenDoes p d × (t.plan ≡ Open d) × (t.table ≡ s.table) × (t.cells ≡ s.cells)
  SettledDoes p (Look cell) s a t = Looks cell s a t
  SettledDoes p (Entails f) s a t =
      (r : Result Bool Refusal) × (a ≡ told Entailed r) × EntailsDoes has h.sizes f s.cells r × (t ≡ s)
