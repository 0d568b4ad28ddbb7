-- What examine answers: the first check that fails, at its lowest place.
use Rattle.std.specs.Prelude.{◌≡◌, ℕ, ◌<◌, Bool, true, false, ◌⊎◌, List, [], ◌∷◌, length, Some, None, Ok, Err, Option, Result}
use Rattle.points.specs.Points.{Points}
use Rattle.examining.specs.declared.defects.Defect.{Defect}
use Rattle.house.specs.declared.tables.Condition.{Condition}
use Rattle.house.specs.declared.tables.Constraint.{Constraint}
use Rattle.house.specs.declared.tables.Edge.{Edge}
use Rattle.house.specs.declared.tables.House.{House}
use Rattle.house.specs.declared.tables.Rule.{Rule}
use Rattle.house.specs.declared.tables.Sizes.{Sizes}
use Rattle.house.specs.declared.tables.Test.{Test}
use Rattle.examining.specs.Checks.{size_passes, table_passes, edge_passes, fixed_passes, test_passes, condition_passes, constraint_passes, rule_passes}
use Rattle.examining.specs.Defects.{number_of, place_of}

-- a check: its number, how many places it has, and whether it passes at a place
pub record Check : Type 0 where
  pub number : ℕ
  pub extent : ℕ
  pub passes : ℕ → Bool

-- the lowest of so many places at which a test fails, if there is one
abbrev pub Lowest : ℕ → (ℕ → Bool) → Option ℕ → Type 0
Lowest extent passes None = (i : ℕ) → i < extent → passes i ≡ true
Lowest extent passes (Some i) = (i < extent) × (passes i ≡ false) × ((k : ℕ) → k < i → passes k ≡ true)

-- a check passes at every place
abbrev pub Clear : Check → Type 0
Clear c = Lowest c.extent c.passes None

-- place i is the lowest at which it fails
abbrev pub FailsAt : Check → ℕ → Type 0
FailsAt c i = Lowest c.extent c.passes (Some i)

-- what a check alone answers
abbrev pub Found : Check → Result (Unit {0}) Defect → Type 0
Found c (Ok _) = Clear c
Found c (Err d) = (number_of d ≡ c.number) × FailsAt c (place_of d)

-- every check is clear
abbrev pub AllClear : List Check → Type 0
AllClear [] = Unit {0}
AllClear (c ∷ cs) = Clear c × AllClear cs

-- of checks in order, the one of number n is the first that fails, at place i; the ones before it are clear
abbrev pub FirstFails : List Check → ℕ → ℕ → Type 0
FirstFails [] n i = ⊥
FirstFails (c ∷ cs) n i = ((n ≡ c.number) × FailsAt c i) ⊎ (Clear c × FirstFails cs n i)

-- the checks, each by what it looks at
abbrev pub size_check : Sizes → Check
size_check s = record { number = 1; extent = 5; passes = size_passes s }

abbrev pub table_check : {S : Type 0} → House S → Check
table_check h = record { number = 2; extent = 6; passes = table_passes h }

abbrev pub edge_check : Sizes → List Edge → Check
edge_check s es = record { number = 3; extent = length es; passes = edge_passes s es }

abbrev pub fixed_check : {S : Type 0} → ℕ → (S → Points) → List S → Check
fixed_check size has bounds = record { number = 4; extent = length bounds; passes = fixed_passes size has bounds }

abbrev pub test_check : {S : Type 0} → Sizes → List (Test S) → Check
test_check s tests = record { number = 5; extent = length tests; passes = test_passes s tests }

abbrev pub condition_check : {S : Type 0} → Sizes → List (Test S) → List Condition → Check
condition_check s tests cs = record { number = 6; extent = length cs; passes = condition_passes s tests cs }

abbrev pub constraint_check : {S : Type 0} → Sizes → List (Test S) → List Constraint → Check
constraint_check s tests ks = record { number = 7; extent = length ks; passes = constraint_passes s tests ks }

abbrev pub rule_check : Sizes → ℕ → ℕ → ℕ → List Rule → Check
rule_check s tests conditions formulas rs = record { number = 8; extent = length rs; passes = rule_passes s tests conditions formulas rs }

module _ {S : Type 0} (size : ℕ) (has : S → Points) (h : House S) (formulas : ℕ) where
  -- the checks of a house with a book of so many formulas, in order
  abbrev pub checks : List Check
  checks =
      size_check h.sizes
      ∷ table_check h
      ∷ edge_check h.sizes h.edges.now
      ∷ fixed_check size has h.fixed.now
      ∷ test_check h.sizes h.tests.now
      ∷ condition_check h.sizes h.tests.now h.conditions.now
      ∷ constraint_check h.sizes h.tests.now h.constraints.now
      ∷ rule_check h.sizes (length h.tests.now) (length h.conditions.now) formulas h.rules.now
      ∷ []

  -- an accepted house passes every check at every place
  abbrev pub Accepted : Type 0
  Accepted = AllClear checks

  -- a house is accepted, or refused for the first check that fails, at its lowest place
  abbrev pub Examined : Result (Unit {0}) Defect → Type 0
  Examined (Ok _) = Accepted
  Examined (Err d) = FirstFails checks (number_of d) (place_of d)
