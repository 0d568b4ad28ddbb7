-- The frame of a record file: records of sixteen bytes, one of which has the sizes.
use Rattle.std.specs.Prelude.{◌≡◌, ℕ, ◌*◌, ◌/◌, ◌%◌, ◌<◌, ◌≤◌, List, [], length, Ok, Err, Result, slice_index, slice_index_or}
use Rattle.record_line.specs.Lines.{byte}
use Rattle.record.specs.declared.FrameFault.{FrameFault}
use Rattle.record.specs.declared.FrameFault.TheVariants.{Length, SizesRecord}

-- the file is made of whole records, and is not above 32,768 bytes
abbrev pub Whole : List ℕ → Type 0
Whole bytes = (length bytes ≤ 32768) × (length bytes % 16 ≡ 0)

-- how many records there are
abbrev pub records : List ℕ → ℕ
records bytes = length bytes / 16

-- the letter of record i is its first byte
abbrev pub letter : List ℕ → ℕ → ℕ
letter bytes i = slice_index bytes (16 * i)

-- record k has the letter S, and no other record has it
abbrev pub OnlySizes : List ℕ → ℕ → Type 0
OnlySizes bytes k = (k < records bytes) × (letter bytes k ≡ 83) × ((j : ℕ) → j < records bytes → letter bytes j ≡ 83 → j ≡ k)

-- row k has the letter S
abbrev pub HasS : List (List ℕ) → ℕ → Type 0
HasS rows k = byte (slice_index_or rows k []) 0 ≡ 83

-- it is the first that has it
abbrev pub FirstS : List (List ℕ) → ℕ → Type 0
FirstS rows k = (k < length rows) × HasS rows k × ((j : ℕ) → j < k → ¬ HasS rows j)

-- the length is judged first, then that there is one S record, which is found
abbrev pub Framed : List ℕ → Result ℕ FrameFault → Type 0
Framed bytes (Ok k) = Whole bytes × OnlySizes bytes k
Framed bytes (Err Length) = Whole bytes → ⊥
Framed bytes (Err SizesRecord) = Whole bytes × ((k : ℕ) → OnlySizes bytes k → ⊥)

-- the number by which a fault is told
abbrev pub number_of : FrameFault → ℕ
number_of Length = 21
number_of SizesRecord = 25
