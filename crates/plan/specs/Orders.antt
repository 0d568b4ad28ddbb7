-- The checks that each call makes, in their order. A call refuses at the first that fails.
use Rattle.std.specs.Prelude.{ℕ, Bool, true, List, [], ◌∷◌, ◌++◌, length, take, Ok, Err, Result, ◌==◌, nat_le, nat_lt}
use Rattle.points.specs.Points.{Points}
use Rattle.points.specs.Tables.{at_place}
use Rattle.house.specs.declared.tables.Sizes.{Sizes}
use Rattle.house.specs.declared.tables.Cell.{Cell}
use Rattle.house.specs.declared.tables.Fact.{Fact}
use Rattle.house.specs.declared.tables.House.{House}
use Rattle.house.specs.Cells.{inside, cell_count, fact_inside}
use Rattle.examining.specs.Examine.{Check, AllClear, FirstFails, size_check, checks}
use Rattle.plan.specs.declared.refusals.Refusal.{Refusal}
use Rattle.plan.specs.Refusals.{number_of, place_of}

-- of these checks the first that fails is refused, by its number and at its lowest place
abbrev pub RefusedBy : List Check → Refusal → Type 0
RefusedBy cs r = FirstFails cs (number_of r) (place_of r)

-- what checks alone answer
abbrev pub Checked : List Check → Result (Unit {0}) Refusal → Type 0
Checked cs (Ok _) = AllClear cs
Checked cs (Err r) = RefusedBy cs r

-- a check with the one place 0
abbrev pub once : ℕ → Bool → Check
once number passes = record { number = number; extent = 1; passes = λ _. passes }

-- 9: a table of `room` places has the plan's facts
abbrev pub table_holds : ℕ → ℕ → Check
table_holds count room = once 9 (nat_le count room)

-- 11: a fact that is handed in is inside the house
abbrev pub fact_fits : {S : Type 0} → Sizes → Fact S → Check
fact_fits s f = once 11 (fact_inside s f)

-- 11: the filed facts are inside the house, each at its place
abbrev pub facts_fit : {S : Type 0} → Sizes → List (Fact S) → Check
facts_fit s filed = record { number = 11; extent = length filed; passes = at_place true (fact_inside s) filed }

-- 13: a course of so many cells is as long as the house asks
abbrev pub course_long : Sizes → ℕ → Check
course_long s long = once 13 (long == cell_count s)

-- file: 1, 11, 9, and 10 for a full table
abbrev pub file_checks : {S : Type 0} → Sizes → Fact S → ℕ → ℕ → List Check
file_checks s f count room = size_check s ∷ fact_fits s f ∷ table_holds count room ∷ once 10 (nat_lt count room) ∷ []

-- strike: 9, and 12 for a place where no fact is filed
abbrev pub strike_checks : ℕ → ℕ → ℕ → List Check
strike_checks at count room = table_holds count room ∷ once 12 (nat_lt at count) ∷ []

-- look: 1, 13, and 15 where the house has no such cell
abbrev pub look_checks : Sizes → Cell → ℕ → List Check
look_checks s cell long = size_check s ∷ course_long s long ∷ once 15 (inside s cell.hour cell.component cell.label) ∷ []

-- entails: 1, 13, 11
abbrev pub entails_checks : {S : Type 0} → Sizes → Fact S → ℕ → List Check
entails_checks s f long = size_check s ∷ course_long s long ∷ fact_fits s f ∷ []

-- settle: what examine checks, then 9, 11, 13
abbrev pub settle_checks : {S : Type 0} → ℕ → (S → Points) → House S → ℕ → ℕ → List (Fact S) → ℕ → List Check
settle_checks n has h formulas count table long =
    checks n has h formulas
    ++ table_holds count (length table) ∷ facts_fit h.sizes (take count table) ∷ course_long h.sizes long ∷ []
