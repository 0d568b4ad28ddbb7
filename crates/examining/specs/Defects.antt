-- What is wrong with a house: the number of the check that fails, and the place at which it fails.
use Rattle.std.specs.Prelude.{◌≡◌, ℕ, Bool, true, false, Ok, Err, Result}
use Rattle.examining.specs.declared.defects.Defect.{Defect}
use Rattle.examining.specs.declared.defects.Defect.TheVariants.{Size, Table, Edge, Fixed, Test, Condition, Constraint, Rule}
use Rattle.examining.specs.declared.defects.Dimension.{Dimension}
use Rattle.examining.specs.declared.defects.Dimension.TheVariants.{Nodes, Edges, FixedLabels, MovingLabels, LastHour}
use Rattle.examining.specs.declared.defects.TableName.{TableName}
use Rattle.examining.specs.declared.defects.TableName.TheVariants.{Edges as EdgeTable, FixedBounds, Tests, Conditions, Constraints, Rules}

-- the number of the check
abbrev pub number_of : Defect → ℕ
number_of (Size dimension) = 1
number_of (Table table) = 2
number_of (Edge at) = 3
number_of (Fixed at) = 4
number_of (Test at) = 5
number_of (Condition at) = 6
number_of (Constraint at) = 7
number_of (Rule at) = 8

-- the number of a size
abbrev pub dimension_place : Dimension → ℕ
dimension_place Nodes = 0
dimension_place Edges = 1
dimension_place FixedLabels = 2
dimension_place MovingLabels = 3
dimension_place LastHour = 4

-- the number of a table
abbrev pub table_place : TableName → ℕ
table_place EdgeTable = 0
table_place FixedBounds = 1
table_place Tests = 2
table_place Conditions = 3
table_place Constraints = 4
table_place Rules = 5

-- the place: the number of the size, of the table or of the record
abbrev pub place_of : Defect → ℕ
place_of (Size dimension) = dimension_place dimension
place_of (Table table) = table_place table
place_of (Edge at) = at
place_of (Fixed at) = at
place_of (Test at) = at
place_of (Condition at) = at
place_of (Constraint at) = at
place_of (Rule at) = at

-- a check that passes refuses nothing; one that fails refuses what it is to refuse
abbrev pub Required : {E : Type 0} → Bool → E → Result (Unit {0}) E → Type 0
Required passes refusal (Ok _) = passes ≡ true
Required passes refusal (Err e) = (passes ≡ false) × (e ≡ refusal)
