-- What the calls on a plan refuse: the number of each refusal, and its place.
use Rattle.std.specs.Prelude.{ℕ}
use Rattle.examining.specs.Defects.{number_of as defect_number, place_of as defect_place}
use Rattle.plan.specs.declared.refusals.Refusal.{Refusal}
use Rattle.plan.specs.declared.refusals.Refusal.TheVariants.{House, Short, Full, Outside, NoFact, Length, NoCell}

-- a contradiction, which settle finds, has the number 14
abbrev pub clash_number : ℕ
clash_number = 14

-- what is wrong with a house keeps its number, 1 to 8
abbrev pub number_of : Refusal → ℕ
number_of (House defect) = defect_number defect
number_of Short = 9
number_of Full = 10
number_of (Outside at) = 11
number_of NoFact = 12
number_of Length = 13
number_of NoCell = 15

-- what is wrong with a house keeps its place, and a fact outside it has the place where it is filed; all others have 0
abbrev pub place_of : Refusal → ℕ
place_of (House defect) = defect_place defect
place_of Short = 0
place_of Full = 0
place_of (Outside at) = at
place_of NoFact = 0
place_of Length = 0
place_of NoCell = 0
