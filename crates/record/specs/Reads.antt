-- What reading a file gives.
use Rattle.std.specs.Prelude.{◌≡◌, ℕ, ◌<◌, ◌≤◌, count_by, List, [], length, Some, None, Ok, Err, Option, Result, ◌==◌, slice_index_or}
use Rattle.points.specs.Points.{Points, Loose}
use Rattle.std.specs.Simd.{first_chunks}
use Rattle.house.specs.declared.tables.Sizes.{Sizes}
use Rattle.examining.specs.Examine.{Clear, Found, size_check}
use Rattle.record_line.specs.declared.LineFault.TheVariants.{Bytes as NoRecord, Scale as NoBound}
use Rattle.record_line.specs.declared.Record.{Record}
use Rattle.record_line.specs.Lines.{byte, word}
use Rattle.record_entry.specs.declared.EntryFault.TheVariants.{House as NoPlace, Plan as NotFiled}
use Rattle.record_entry.specs.declared.Tables.{Tables}
use Rattle.record_entry.specs.Entries.{Kept, rooms_of, counts_of}
use Rattle.record_entry.specs.Parts.{Mark, fact_in, mark_in}
use Rattle.record.specs.declared.faults.BytesFault.TheVariants.{Frame, Record as BytesRecord}
use Rattle.record.specs.declared.faults.Fault.{Fault}
use Rattle.record.specs.declared.faults.Fault.TheVariants.{Bytes, Scale, House, Plan}
use Rattle.record.specs.declared.faults.HouseFault.TheVariants.{Sizes as SizesFault, Record as HouseRecord}
use Rattle.record.specs.declared.reading.Content.{Content}
use Rattle.record.specs.Frame.{Framed, records}
use Rattle.record.specs.Contents.{pick, bound_at, counts_after, Held, fixed_places_lem}
use Rattle.record.specs.Takes.{First, LooseBelow, NotARecord, NotEntered}

-- the records of a file, each of sixteen bytes
abbrev pub rows : List ℕ → List (List ℕ)
rows bytes = first_chunks 16 (records bytes) bytes

-- how many records have the letter E
abbrev pub edge_records_lem : List (List ℕ) → ℕ
edge_records_lem lines = count_by (λ line. byte line 0 == 69) lines

-- the sizes in an S record, with so many edges
abbrev pub sizes_of_lem : List ℕ → ℕ → Sizes
sizes_of_lem line edges = record { nodes = word line 1; edges = edges; fixed = byte line 4; moving = byte line 3; last = byte line 5 }

-- the sizes that a file gives, whose record k has the letter S: the edges are all its E records
abbrev pub sizes_at : List ℕ → ℕ → Sizes
sizes_at bytes k = sizes_of_lem (slice_index_or (rows bytes) k []) (edge_records_lem (rows bytes))

module _ {B : Type 0} (n : ℕ) (has : B → Points) where
  -- the places of the fixed bounds become loose, and the others stay
  pub record Loosened (s : Sizes) (t t' : List B) : Type 0 where
    pub long : length t' ≡ length t
    pub here : LooseBelow n has (fixed_places_lem s (length t)) t'
    pub behind : (p : ℕ) → fixed_places_lem s (length t) ≤ p → (d : B) → slice_index_or t' p d ≡ slice_index_or t p d

  -- the tables have no records, and the places of the fixed bounds are loose; all else that they hold stays
  pub record Started (s : Sizes) (t t' : Tables B) : Type 0 where
    pub edges : t'.edges.table.now ≡ t.edges.table.now
    pub fixed : Loosened s t.fixed.table.now t'.fixed.table.now
    pub tests : t'.tests.table.now ≡ t.tests.table.now
    pub conditions : t'.conditions.table.now ≡ t.conditions.table.now
    pub constraints : t'.constraints.table.now ≡ t.constraints.table.now
    pub rules : t'.rules.table.now ≡ t.rules.table.now
    pub steps : t'.steps.table.now ≡ t.steps.table.now
    pub facts : t'.facts.now ≡ t.facts.now
    pub counts : counts_of t' ≡ counts_after {B = B} s (rooms_of t) []

  -- a bound is the one that is marked, or loose
  abbrev pub MarkedOr : Option B → B → Type 0
  MarkedOr (Some b) x = x ≡ b
  MarkedOr None x = Loose n (has x)

  -- each place of the fixed bounds has the last bound that is marked there, or is loose, and the others stay
  pub record Described (s : Sizes) (ms : List (Mark B)) (t t' : List B) : Type 0 where
    pub long : length t' ≡ length t
    pub here : (p : ℕ) → p < fixed_places_lem s (length t) → (d : B) → MarkedOr (bound_at None ms p) (slice_index_or t' p d)
    pub behind : (p : ℕ) → fixed_places_lem s (length t) ≤ p → (d : B) → slice_index_or t' p d ≡ slice_index_or t p d

module _ {B : Type 0} (n : ℕ) (has : B → Points) (form : B → List ℕ) where
  -- the tables hold and count what the first records of the file say, rs, each of which can be entered after those before it
  pub record Read (bytes : List ℕ) (s : Sizes) (t : Tables B) (rs : List (Record B)) (t' : Tables B) : Type 0 where
    pub first : First n has form s (rooms_of t) (rows bytes) rs
    pub held : Held rs t t'
    pub fixed : Described n has s (pick (mark_in s) rs) t.fixed.table.now t'.fixed.table.now
    pub counts : counts_of t' ≡ counts_after s (rooms_of t) rs

  module _ (bytes : List ℕ) (t : Tables B) where
    -- the file has its frame and these sizes, which are within their limits
    abbrev pub Begun : Sizes → ℕ → Type 0
    Begun s k = Framed bytes (Ok k) × (s ≡ sizes_at bytes k) × Clear (size_check s)

    -- the records before this one are read, and this one is refused so
    abbrev pub Stops : ℕ → (Sizes → List (Record B) → Type 0) → Tables B → Type 0
    Stops at Why t' =
        (k : ℕ)
        × (rs : List (Record B))
        × Begun (sizes_at bytes k) k
        × (length rs ≡ at)
        × (at < records bytes)
        × Read bytes (sizes_at bytes k) t rs t'
        × Why (sizes_at bytes k) rs

    -- a file is refused for its frame or its sizes, and nothing is written; or for the first record that is refused, and
    -- the earlier ones are read; or it is read whole
    abbrev pub ReadDoes : Result Content Fault → Tables B → Type 0
    ReadDoes (Ok x) t' =
        (k : ℕ)
        × (rs : List (Record B))
        × Begun x.sizes k
        × (x.quorum ≡ byte (slice_index_or (rows bytes) k []) 6)
        × (length rs ≡ records bytes)
        × Read bytes x.sizes t rs t'
        × (x.draft.count ≡ length (pick fact_in rs))
    ReadDoes (Err (Bytes (Frame fault))) t' = Framed bytes (Err fault) × Kept t t'
    ReadDoes (Err (Bytes (BytesRecord at))) t' = Stops at (λ s. NotARecord n has form (rows bytes) s t at NoRecord) t'
    ReadDoes (Err (Scale at cause)) t' = Stops at (λ s. NotARecord n has form (rows bytes) s t at (NoBound cause)) t'
    ReadDoes (Err (House (SizesFault defect))) t' =
        (k : ℕ) × Framed bytes (Ok k) × Found (size_check (sizes_at bytes k)) (Err defect) × Kept t t'
    ReadDoes (Err (House (HouseRecord at))) t' = Stops at (λ s. NotEntered n has form (rows bytes) s t at NoPlace) t'
    ReadDoes (Err (Plan at cause)) t' = Stops at (λ s. NotEntered n has form (rows bytes) s t at (NotFiled cause)) t'
