-- The faults of a record file: the number of each, and its place.
use Rattle.std.specs.Prelude.{ℕ}
use Rattle.examining.specs.Defects.{number_of as defect_number, place_of as defect_place}
use Rattle.plan.specs.Refusals.{number_of as refusal_number}
use Rattle.record_line.specs.declared.LineFault.TheVariants.{Bytes as NoRecord, Scale as NoBound}
use Rattle.record_entry.specs.declared.EntryFault.TheVariants.{House as NoPlace, Plan as NotFiled}
use Rattle.record.specs.declared.faults.BytesFault.TheVariants.{Frame, Record as BytesRecord}
use Rattle.record.specs.declared.faults.Fault.{Fault}
use Rattle.record.specs.declared.faults.Fault.TheVariants.{Bytes, Scale, House, Plan}
use Rattle.record.specs.declared.faults.HouseFault.TheVariants.{Sizes, Record as HouseRecord}
use Rattle.record.specs.declared.faults.RecordFault.{RecordFault}
use Rattle.record.specs.declared.faults.RecordFault.TheVariants.{Line, Entry}
use Rattle.record.specs.Frame.{number_of as frame_number}

-- what the sizes and the plan refuse keeps its number
abbrev pub number_of : Fault → ℕ
number_of (Bytes (Frame fault)) = frame_number fault
number_of (Bytes (BytesRecord at)) = 22
number_of (Scale at cause) = 23
number_of (House (Sizes defect)) = defect_number defect
number_of (House (HouseRecord at)) = 24
number_of (Plan at cause) = refusal_number cause

-- the number of the record; 0 for the frame, and for a size its own
abbrev pub place_of : Fault → ℕ
place_of (Bytes (Frame fault)) = 0
place_of (Bytes (BytesRecord at)) = at
place_of (Scale at cause) = at
place_of (House (Sizes defect)) = defect_place defect
place_of (House (HouseRecord at)) = at
place_of (Plan at cause) = at

-- the fault of a record, at its number
abbrev pub placed : RecordFault → ℕ → Fault
placed (Line NoRecord) at = Bytes (BytesRecord at)
placed (Line (NoBound cause)) at = Scale at cause
placed (Entry NoPlace) at = House (HouseRecord at)
placed (Entry (NotFiled cause)) at = Plan at cause
