-- A file that is read: its frame, the loose places, and the records that are taken. Assumes nothing.
use Rattle.std.proofs.Common.{◌≡◌, ℕ, List, [], length, get_or, Some, None, Ok, Err, Option, refl, ap, ◌∙◌, subst}
use Rattle.points.specs.Points.{Points, Loose}
use Rattle.house.specs.declared.tables.Sizes.{Sizes}
use Rattle.examining.specs.Examine.{Clear, size_check}
use Rattle.plan.specs.declared.Draft.{Draft}
use Rattle.record_line.specs.declared.Record.{Record}
use Rattle.record_line.specs.Lines.{byte}
use Rattle.record_entry.specs.declared.EntryFault.TheVariants.{House as NoPlace, Plan as NotFiled}
use Rattle.record_entry.specs.declared.Tables.{Tables}
use Rattle.record_entry.specs.Entries.{rooms_of}
use Rattle.record_entry.specs.Parts.{Mark}
use Rattle.record.specs.declared.faults.BytesFault.TheVariants.{Frame, Record as BytesRecord}
use Rattle.record.specs.declared.faults.Fault.{Fault}
use Rattle.record.specs.declared.faults.Fault.TheVariants.{Bytes, Scale, House, Plan}
use Rattle.record.specs.declared.faults.HouseFault.TheVariants.{Sizes as SizesFault, Record as HouseRecord}
use Rattle.record.specs.Contents.{bound_at, Stays, Laid, fixed_places_lem}
use Rattle.record.specs.Frame.{Framed, records}
use Rattle.record.specs.Reads.{rows, edge_records_lem, sizes_of_lem, sizes_at, Loosened, Started, MarkedOr, Described, Read, ReadDoes}
use Rattle.record.proofs.Frames.{chunked_long}
use Rattle.record.specs.Takes.{Denied, Taken, TakeAllDoes}

module _ {B : Type 0} (n : ℕ) (has : B → Points) where
  marked_or : (o : Option B) (was x : B) → Loose n (has was) → Stays o was x → MarkedOr n has o x
  marked_or (Some b) was x l e = e
  marked_or None was x l e = λ p. ap (λ y. has y p) e ∙ l p

  -- the places were made loose before the bounds were laid
  described : (s : Sizes) (ms : List (Mark B)) (t t₁ t' : List B) → Loosened n has s t t₁ → Laid ms (fixed_places_lem s (length t₁)) t₁ t' → Described n has s ms t t'
  described s ms t t₁ t' l h =
      let laid : Laid ms (fixed_places_lem s (length t)) t₁ t' = rw l.long at h in
      record {
        long = laid.long ∙ l.long;
        here = λ p lt d. marked_or (bound_at None ms p) (get_or t₁ p d) (get_or t' p d) (l.here p lt d) (laid.here p lt d);
        behind = λ p le d. laid.behind p le d ∙ l.behind p le d;
      }

  started_rooms : (s : Sizes) (t t₁ : Tables B) → Started n has s t t₁ → rooms_of t₁ ≡ rooms_of t
  started_rooms s t t₁ o = rw (o.edges, o.fixed.long, o.tests, o.conditions, o.constraints, o.rules, o.steps, o.facts) refl

module _ {B : Type 0} (n : ℕ) (has : B → Points) (form : B → List ℕ) (bytes : List ℕ) (s : Sizes) (t t₁ : Tables B) (o : Started n has s t t₁) where
  read_taken : (rs : List (Record B)) (t' : Tables B) → Taken n has form (rows bytes) s t₁ rs t' → Read n has form bytes s t rs t'
  read_taken rs t' h = record {
    first = rw (started_rooms n has s t t₁ o) at h.first;
    held = record {
      edges = rw o.edges at h.held.edges;
      tests = rw o.tests at h.held.tests;
      conditions = rw o.conditions at h.held.conditions;
      constraints = rw o.constraints at h.held.constraints;
      rules = rw o.rules at h.held.rules;
      steps = rw o.steps at h.held.steps;
      facts = rw o.facts at h.held.facts;
    };
    fixed = described n has s _ _ _ _ o.fixed h.fixed;
    counts = rw o.fixed.long at h.counts;
  }

-- the file has its frame, and these records
module _ {B : Type 0} (n : ℕ) (has : B → Points) (form : B → List ℕ) (bytes : List ℕ) (k : ℕ) (framed : Framed bytes (Ok k)) (t t₁ : Tables B) where
  stops_at : (fault : Fault) (t' : Tables B) → Clear (size_check (sizes_at bytes k)) → Started n has (sizes_at bytes k) t t₁ →
      TakeAllDoes n has form (rows bytes) (sizes_at bytes k) t₁ (Err fault) t' → ReadDoes n has form bytes t (Err fault) t'
  stops_at (Bytes (Frame _)) t' clear o h = absurd h
  stops_at (Bytes (BytesRecord at)) t' clear o (rs, e, lt, taken, why) =
      (k, rs, (framed, refl, clear), e, rw (chunked_long 16 (records bytes) bytes) at lt, read_taken n has form bytes _ t t₁ o rs t' taken, why)
  stops_at (Scale at cause) t' clear o (rs, e, lt, taken, why) =
      (k, rs, (framed, refl, clear), e, rw (chunked_long 16 (records bytes) bytes) at lt, read_taken n has form bytes _ t t₁ o rs t' taken, why)
  stops_at (House (SizesFault _)) t' clear o h = absurd h
  stops_at (House (HouseRecord at)) t' clear o (rs, e, lt, taken, (r, parsed, why)) =
      (k, rs, (framed, refl, clear), e, rw (chunked_long 16 (records bytes) bytes) at lt, read_taken n has form bytes _ t t₁ o rs t' taken, (r, parsed, subst (λ room. Denied n has (sizes_at bytes k) room rs r NoPlace) (started_rooms n has _ t t₁ o) why))
  stops_at (Plan at cause) t' clear o (rs, e, lt, taken, (r, parsed, why)) =
      (k, rs, (framed, refl, clear), e, rw (chunked_long 16 (records bytes) bytes) at lt, read_taken n has form bytes _ t t₁ o rs t' taken, (r, parsed, subst (λ room. Denied n has (sizes_at bytes k) room rs r (NotFiled cause)) (started_rooms n has _ t t₁ o) why))

  module _ (lines : List (List ℕ)) (front : lines ≡ rows bytes) (s : Sizes) (sized : s ≡ sizes_of_lem (get_or lines k []) (edge_records_lem lines)) where
    size_is : s ≡ sizes_at bytes k
    size_is = rw front at sized

    module _ (clear : Clear (size_check s)) (o : Started n has s t t₁) where
      pub reads_stops : (fault : Fault) (t' : Tables B) → TakeAllDoes n has form lines s t₁ (Err fault) t' → ReadDoes n has form bytes t (Err fault) t'
      reads_stops fault t' h =
          stops_at fault t' (subst (λ x. Clear (size_check x)) size_is clear) (subst (λ x. Started n has x t t₁) size_is o)
          (subst (λ x. TakeAllDoes n has form (rows bytes) x t₁ (Err fault) t') size_is (subst (λ x. TakeAllDoes n has form x s t₁ (Err fault) t') front h))

      pub reads_whole : (draft : Draft) (quorum : ℕ) (t' : Tables B) → quorum ≡ byte (get_or lines k []) 6 → TakeAllDoes n has form lines s t₁ (Ok draft) t' →
          ReadDoes n has form bytes t (Ok (record { draft = draft; sizes = s; quorum = quorum })) t'
      reads_whole draft quorum t' q (rs, e, taken, f) = (
        k,
        rs,
        (framed, size_is, clear),
        rw front at q,
        rw (front, chunked_long 16 (records bytes) bytes) at e,
        read_taken n has form bytes s t t₁ o rs t' (rw front at taken),
        f,
      )
