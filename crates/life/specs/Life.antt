-- The life of a plan: calls and answers, one after the other, from open on.
use Rattle.std.specs.Prelude.{◌≡◌, ℕ, Bool, true, false, List, [], ◌∷◌}
use Rattle.points.specs.Points.{Points}
use Rattle.house.specs.declared.tables.Sizes.{Sizes}
use Rattle.house.specs.declared.tables.Fact.{Fact}
use Rattle.house.specs.declared.tables.House.{House}
use Rattle.plan.specs.declared.Draft.{Draft}
use Rattle.plan.specs.Calls.{OpenDoes}
use Rattle.life.specs.declared.calls.Plan.{Plan}
use Rattle.life.specs.declared.calls.Plan.TheVariants.{Draft as Open, Settled as Firm}
use Rattle.life.specs.declared.calls.Call.{Call}
use Rattle.life.specs.declared.calls.Answer.{Answer}
use Rattle.life.specs.declared.calls.Answer.TheVariants.{Misplaced}
use Rattle.life.specs.Kinds.{State, on_draft_lem, on_settled_lem, after, DraftDoes, SettledDoes}

-- a call and what it answered
pub record Event (S : Type 0) : Type 0 where
  pub call : Call S
  pub answer : Answer S

module _ {S : Type 0} where
  -- what open leaves: a draft without facts, with a table and cells that hold what they held
  pub record Opened (table : List (Fact S)) (cells : List S) (s : State S) : Type 0 where
    pub draft : Draft
    pub fresh : OpenDoes draft
    pub state : s ≡ record { plan = Open draft; table = table; cells = cells }

  -- the build allows a call on a plan
  abbrev pub allows : Plan → Call S → Bool
  allows (Open d) c = on_draft_lem c
  allows (Firm p) c = on_settled_lem c

  -- the facts that calls leave filed, from those that were filed before
  abbrev pub filed_from : Sizes → ℕ → List (Fact S) → List (Call S) → List (Fact S)
  filed_from s room filed [] = filed
  filed_from s room filed (c ∷ cs) = filed_from s room (after s room filed c) cs

  -- the facts then filed, by the calls from open on, the sizes of the house and the length of the table alone
  abbrev pub filed : Sizes → ℕ → List (Call S) → List (Fact S)
  filed s room calls = filed_from s room [] calls

module _ {S : Type 0} (n : ℕ) (has : S → Points) (h : House S) (formulas : ℕ) (says : ℕ → ℕ → ℕ → Points) where
  -- a call that the build allows does what its definition says
  abbrev pub Does : Plan → Call S → State S → Answer S → State S → Type 0
  Does (Open d) c s a t = DraftDoes n has h formulas says d c s a t
  Does (Firm p) c s a t = SettledDoes n has h formulas says p c s a t

  -- a life leads from one state to another: calls that the build allows, refused ones counted in, each with its answer
  abbrev pub Life : State S → List (Event S) → State S → Type 0
  Life s [] t = t ≡ s
  Life s (e ∷ es) t = (m : State S) × Does s.plan e.call s e.answer m × Life m es t

  -- a call that the build does not allow is answered so, and changes nothing
  abbrev pub Plays : Bool → Plan → Call S → State S → Answer S → State S → Type 0
  Plays true p c s a t = Does p c s a t
  Plays false p c s a t = (a ≡ Misplaced) × (t ≡ s)

  -- a replay is a life with such calls between
  abbrev pub Replay : State S → List (Event S) → State S → Type 0
  Replay s [] t = t ≡ s
  Replay s (e ∷ es) t = (m : State S) × Plays (allows s.plan e.call) s.plan e.call s e.answer m × Replay m es t
