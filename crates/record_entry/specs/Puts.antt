-- Putting one record more into a table.
use Rattle.std.specs.Prelude.{◌≡◌, ℕ, ◌+◌, ◌<◌, ◌≤◌, List, length, Ok, Err, Result, slice_set}
use Rattle.record_entry.specs.declared.EntryFault.{EntryFault}
use Rattle.record_entry.specs.declared.EntryFault.TheVariants.{House, Plan}

-- an item stands behind the counted ones; a full table stays as it is
abbrev pub PutDoes : {A : Type 0} → A → List A → ℕ → Result (Unit {0}) EntryFault → List A → ℕ → Type 0
PutDoes x t n (Ok _) t' n' = (n < length t) × (t' ≡ slice_set t n x) × (n' ≡ n + 1)
PutDoes x t n (Err House) t' n' = (length t ≤ n) × (t' ≡ t) × (n' ≡ n)
PutDoes x t n (Err (Plan _)) t' n' = ⊥
