-- One record: sixteen bytes, a letter first and then the bytes that the letter names. Numbers have their high byte
-- first, and a byte without a name is 0.
use Rattle.std.specs.Prelude.{◌≡◌, ℕ, ◌+◌, ◌*◌, ◌<◌, ◌≤◌, cond, if◌then◌else◌, ◌⊎◌, List, [], ◌∷◌, Some, None, Option, Ok, Err, Result, ◌==◌, ◌≢◌, slice_index}
use Rattle.house.specs.Kinds.{kind_of}
use Rattle.record_line.specs.declared.LineFault.{LineFault}
use Rattle.record_line.specs.declared.LineFault.TheVariants.{Bytes, Scale}
use Rattle.record_line.specs.declared.Record.{Record}
use Rattle.record_line.specs.declared.Record.TheVariants.{Sizes, Edge, Fixed, Test, Condition, Constraint, Rule, Step, Fact}

abbrev pub byte : List ℕ → ℕ → ℕ
byte line k = slice_index line k

-- a number of two bytes, the high one first
abbrev pub word : List ℕ → ℕ → ℕ
word line k = byte line k * 256 + byte line (k + 1)

-- the four bytes of a bound
abbrev pub four : List ℕ → List ℕ
four line = byte line 4 ∷ byte line 5 ∷ byte line 6 ∷ byte line 7 ∷ []

-- the bytes from this one on are 0
abbrev pub Clear : List ℕ → ℕ → Type 0
Clear line from = (k : ℕ) → from ≤ k → k < 16 → byte line k ≡ 0

-- the first byte behind those that a letter names; 0 where it is no letter of a record
abbrev pub named_end : ℕ → ℕ
named_end letter =
    cond (letter == 83) 7
    (cond (letter == 69) 5
    (cond (letter == 88) 8
    (cond (letter == 84) 8
    (cond (letter == 67) 4
    (cond (letter == 75) 4
    (cond (letter == 82) 9
    (cond (letter == 81) 8
    (cond (letter == 70) 10 0))))))))

-- the letters X, T, Q and F name the bytes 4 to 7 as a bound
abbrev pub HasBound : ℕ → Type 0
HasBound letter = (letter ≡ 88) ⊎ (letter ≡ 84) ⊎ (letter ≡ 81) ⊎ (letter ≡ 70)

-- a known letter, and 0 in the unnamed bytes: those behind the named ones, and the bytes 2 and 3 of T. The quorum of S is
-- at most 200
pub record Formed (line : List ℕ) : Type 0 where
  pub known : 0 < named_end (byte line 0)
  pub behind : Clear line (named_end (byte line 0))
  pub between : byte line 0 ≡ 84 → (byte line 2 ≡ 0) × (byte line 3 ≡ 0)
  pub quorum : byte line 0 ≡ 83 → byte line 6 ≤ 200

-- a byte of a rule in the place of a condition: 255 is none, and any other number names one
abbrev pub named_condition : ℕ → Option ℕ
named_condition n = if n == 255 then None else Some n

module _ {S : Type 0} (form : S → List ℕ) where
  -- four bytes are read as a bound with that form, and refused where no bound has it
  abbrev pub Bounded : List ℕ → Result S LineFault → Type 0
  Bounded line (Ok s) = form s ≡ four line
  Bounded line (Err Bytes) = ⊥
  Bounded line (Err (Scale e)) = (e.bytes ≡ four line) × ((s : S) → form s ≢ four line)

  -- which number each named byte is
  abbrev pub Says : List ℕ → Record S → Type 0
  Says line (Sizes nodes moving fixed last quorum) =
      (byte line 0 ≡ 83)
      × (nodes ≡ word line 1)
      × (moving ≡ byte line 3)
      × (fixed ≡ byte line 4)
      × (last ≡ byte line 5)
      × (quorum ≡ byte line 6)
  Says line (Edge e) = (byte line 0 ≡ 69) × (e.from ≡ word line 1) × (e.to ≡ word line 3)
  Says line (Fixed component label bound) =
      (byte line 0 ≡ 88) × (component ≡ word line 1) × (label ≡ byte line 3) × (form bound ≡ four line)
  Says line (Test t) = (byte line 0 ≡ 84) × (t.label ≡ byte line 1) × (form t.bound ≡ four line)
  Says line (Condition c) =
      (byte line 0 ≡ 67) × (c.kind ≡ kind_of (byte line 1)) × (c.a ≡ byte line 2) × (c.b ≡ byte line 3)
  Says line (Constraint k) =
      (byte line 0 ≡ 75) × (k.head ≡ byte line 1) × (k.body.first ≡ byte line 2) × (k.body.count ≡ byte line 3)
  Says line (Rule r) =
      (byte line 0 ≡ 82)
      × (r.target ≡ byte line 1)
      × (r.delay ≡ byte line 2)
      × (r.onto ≡ named_condition (byte line 3))
      × (r.along ≡ named_condition (byte line 4))
      × (r.source ≡ named_condition (byte line 5))
      × (r.body.first ≡ byte line 6)
      × (r.body.count ≡ byte line 7)
      × (r.formula ≡ byte line 8)
  Says line (Step q) =
      (byte line 0 ≡ 81) × (q.formula ≡ byte line 1) × (q.share ≡ word line 2) × (form q.bound ≡ four line)
  Says line (Fact f) =
      (byte line 0 ≡ 70)
      × (f.component ≡ word line 1)
      × (f.label ≡ byte line 3)
      × (form f.bound ≡ four line)
      × (f.from ≡ byte line 8)
      × (f.to ≡ byte line 9)

  -- a record is read by its letter; bytes that do not have the form of a record are refused first, and then four bytes
  -- that are the form of no bound
  abbrev pub Parsed : List ℕ → Result (Record S) LineFault → Type 0
  Parsed line (Ok r) = Formed line × Says line r
  Parsed line (Err Bytes) = Formed line → ⊥
  Parsed line (Err (Scale e)) =
      Formed line × HasBound (byte line 0) × (e.bytes ≡ four line) × ((s : S) → form s ≢ four line)
