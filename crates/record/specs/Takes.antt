-- Which records of a file are taken, and which one is refused.
use Rattle.std.specs.Prelude.{◌≡◌, ℕ, ◌<◌, List, [], length, take, Some, None, Ok, Err, Option, Result, slice_index_or}
use Rattle.points.specs.Points.{Points, Loose}
use Rattle.house.specs.declared.tables.Sizes.{Sizes}
use Rattle.plan.specs.declared.Draft.{Draft}
use Rattle.record_line.specs.declared.LineFault.{LineFault}
use Rattle.record_line.specs.declared.LineFault.TheVariants.{Bytes as NoRecord, Scale as NoBound}
use Rattle.record_line.specs.declared.Record.{Record}
use Rattle.record_line.specs.Lines.{Parsed}
use Rattle.record_entry.specs.declared.EntryFault.{EntryFault}
use Rattle.record_entry.specs.declared.EntryFault.TheVariants.{House as NoPlace, Plan as NotFiled}
use Rattle.record_entry.specs.declared.Tables.{Tables}
use Rattle.record_entry.specs.Entries.{Rooms, rooms_of, counts_of, Kept, Fits, Unfit, EnterDoes}
use Rattle.record_entry.specs.Parts.{fact_in, mark_in}
use Rattle.record.specs.declared.faults.BytesFault.TheVariants.{Frame, Record as BytesRecord}
use Rattle.record.specs.declared.faults.Fault.{Fault}
use Rattle.record.specs.declared.faults.Fault.TheVariants.{Bytes, Scale, House, Plan}
use Rattle.record.specs.declared.faults.HouseFault.TheVariants.{Sizes as SizesFault, Record as HouseRecord}
use Rattle.record.specs.declared.faults.RecordFault.{RecordFault}
use Rattle.record.specs.declared.faults.RecordFault.TheVariants.{Line, Entry}
use Rattle.record.specs.Contents.{pick, bound_at, Laid, counts_after, Held, fixed_places_lem}

module _ {B : Type 0} (n : ℕ) (has : B → Points) where
  -- the first so many bounds are loose
  abbrev pub LooseBelow : ℕ → List B → Type 0
  LooseBelow places t = (p : ℕ) → p < places → (d : B) → Loose n (has (slice_index_or t p d))

  -- no record has been taken: no table has one, and the places of the fixed bounds are loose
  pub record Fresh (s : Sizes) (t : Tables B) : Type 0 where
    pub loose : LooseBelow (fixed_places_lem s (length t.fixed.table.now)) t.fixed.table.now
    pub counts : counts_of t ≡ counts_after {B = B} s (rooms_of t) []

  -- no bound but a loose one is marked
  abbrev pub MarkedLoose : Option B → Type 0
  MarkedLoose (Some b) = Loose n (has b)
  MarkedLoose None = Unit {0}

  -- after the records rs a place of the fixed bounds is loose still
  abbrev pub StillLoose : Sizes → List (Record B) → ℕ → Type 0
  StillLoose s rs p = MarkedLoose (bound_at None (pick (mark_in s) rs) p)

  -- a record can be entered after the records rs
  abbrev pub Enters : Sizes → Rooms → List (Record B) → Record B → Type 0
  Enters s room rs = Fits s (counts_after s room rs) (length (pick fact_in rs)) room (StillLoose s rs)

  -- it cannot be, and is refused so
  abbrev pub Denied : Sizes → Rooms → List (Record B) → Record B → EntryFault → Type 0
  Denied s room rs = Unfit s (counts_after s room rs) (length (pick fact_in rs)) room (StillLoose s rs)

module _ {B : Type 0} (n : ℕ) (has : B → Points) (form : B → List ℕ) where
  -- a record is read and then entered; a refusal leaves everything
  abbrev pub TakeDoes : List ℕ → Sizes → Tables B → Draft → Result (Unit {0}) RecordFault → Tables B → Draft → Type 0
  TakeDoes line s t d (Ok u) t' d' = (r : Record B) × Parsed form line (Ok r) × EnterDoes n has s r t d (Ok u) t' d'
  TakeDoes line s t d (Err (Line fault)) t' d' = Parsed form line (Err fault) × Kept t t' × (d' ≡ d)
  TakeDoes line s t d (Err (Entry fault)) t' d' =
      (r : Record B) × Parsed form line (Ok r) × EnterDoes n has s r t d (Err fault) t' d'

  -- rs are the first records of the file, and each can be entered after those before it
  abbrev pub First : Sizes → Rooms → List (List ℕ) → List (Record B) → Type 0
  First s room lines rs =
      (i : ℕ) → i < length rs → (r : Record B) → r ≡ slice_index_or rs i r → Parsed form (slice_index_or lines i []) (Ok r) × Enters n has s room (take i rs) r

  -- the records rs have been taken
  pub record Taken (lines : List (List ℕ)) (s : Sizes) (t : Tables B) (rs : List (Record B)) (t' : Tables B) : Type 0 where
    pub first : First s (rooms_of t) lines rs
    pub held : Held rs t t'
    pub fixed : Laid (pick (mark_in s) rs) (fixed_places_lem s (length t.fixed.table.now)) t.fixed.table.now t'.fixed.table.now
    pub counts : counts_of t' ≡ counts_after s (rooms_of t) rs

  module _ (lines : List (List ℕ)) (s : Sizes) (t : Tables B) where
    -- the records before this one have been taken, and this one is refused so
    abbrev pub Stopped : ℕ → (List (Record B) → Type 0) → Tables B → Type 0
    Stopped at Why t' = (rs : List (Record B)) × (length rs ≡ at) × (at < length lines) × Taken lines s t rs t' × Why rs

    -- the record with this number is refused as it is read
    abbrev pub NotARecord : ℕ → LineFault → List (Record B) → Type 0
    NotARecord at fault rs = Parsed form (slice_index_or lines at []) (Err fault)

    -- it is read, and refused as it is entered after the records rs
    abbrev pub NotEntered : ℕ → EntryFault → List (Record B) → Type 0
    NotEntered at fault rs = (r : Record B) × Parsed form (slice_index_or lines at []) (Ok r) × Denied n has s (rooms_of t) rs r fault

    -- every record is taken, or all before the first that is refused
    abbrev pub TakeAllDoes : Result Draft Fault → Tables B → Type 0
    TakeAllDoes (Ok draft) t' =
        (rs : List (Record B)) × (length rs ≡ length lines) × Taken lines s t rs t' × (draft.count ≡ length (pick fact_in rs))
    TakeAllDoes (Err (Bytes (Frame _))) t' = ⊥
    TakeAllDoes (Err (Bytes (BytesRecord at))) t' = Stopped at (NotARecord at NoRecord) t'
    TakeAllDoes (Err (Scale at cause)) t' = Stopped at (NotARecord at (NoBound cause)) t'
    TakeAllDoes (Err (House (SizesFault _))) t' = ⊥
    TakeAllDoes (Err (House (HouseRecord at))) t' = Stopped at (NotEntered at NoPlace) t'
    TakeAllDoes (Err (Plan at cause)) t' = Stopped at (NotEntered at (NotFiled cause)) t'
