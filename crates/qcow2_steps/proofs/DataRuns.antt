-- Writes to clusters without a header, table or block keep the image consistent, and each mapping, refcount and reference.
use Rattle.std.proofs.Common.{◌≡◌, ◌≢◌, ℕ, ◌*◌, arith, sym, subst, ◌∙◌, inl, inr}
use Rattle.std.specs.Prelude.{◌⊎◌}
use Rattle.std.proofs.lemmas.Nat.{pow_pos}
use Rattle.qcow2_types.specs.Bytes.{Bytes}
use Rattle.qcow2_types.specs.Counts.{block_at}
use Rattle.qcow2_types.specs.Entries.{l2_table}
use Rattle.qcow2_types.specs.Frames.{Same}
use Rattle.qcow2_types.specs.Header.{cluster_size}
use Rattle.qcow2_types.specs.References.{meets}
use Rattle.qcow2_types.specs.Slots.{Live, slot}
use Rattle.qcow2_types.specs.Steps.{RunWritten}
use Rattle.qcow2_types.specs.Versions.{SamePlaces, copied}
use Rattle.qcow2_types.proofs.Counting.Consistent.{named-counted}
use Rattle.qcow2_types.proofs.Changes.DataSteps.{run-written}
use Rattle.qcow2_types.proofs.Counting.Either.{structure-same}
use Rattle.qcow2_metadata.specs.Blocks.{Block}
use Rattle.qcow2_alloc.specs.Memory.{patches}
use Rattle.qcow2_alloc.specs.GuestView.{Metadata, IsSound, IsUsed, in_memory, referenced_at_all}
use Rattle.qcow2_alloc.specs.WellFormedness.{IsCachedBlock, WellFormed}
use Rattle.qcow2_alloc.proofs.Memory.FreeClusterWrites.{over-agrees}
use Rattle.qcow2_alloc.proofs.Memory.Patches.{all-weaker, place-there}
use Rattle.qcow2_alloc.proofs.Memory.FittingWords.{counters-same, table-fits}
use Rattle.qcow2_alloc.proofs.Memory.KeptWords.{block-fits, copied-stays, named-more, ordered-still}
use Rattle.qcow2_alloc.proofs.GuestView.QuietFlushes.{still-table}
use Rattle.qcow2_steps.specs.Data.{KeepsEntries, WritesBeside}
use Rattle.qcow2_steps.specs.Words.{IsReserved}
use Rattle.qcow2_steps.proofs.Values.{places-there, within}

-- A crash image of a write, with some of its bytes, is itself the result of such a write.
pub stop-writes : (m : Metadata) (c k at n : ℕ) (x y : Bytes) → WritesBeside m c k at n x → ((q : ℕ) → (y q ≡ m.file q) ⊎ (y q ≡ x q)) → WritesBeside m c k at n y
stop-writes m c k at n x y writes either = record {
  apart = writes.apart;
  low = writes.low;
  high = writes.high;
  outside = λ q off. elim (either q) [ inl was ↦ was | inr now ↦ now ∙ writes.outside q off ];
}

module _ (m : Metadata) (sound : IsSound m) (c k at n : ℕ) (x : Bytes) (writes : WritesBeside m c k at n x) where
  abbrev later : Metadata
  later = record m { file = x }

  places : SamePlaces m.file (in_memory m) m.header.fields
  places = places-there m sound

  in-file : RunWritten m.file x m.header c k
  in-file = run-written m.file m.header sound.well_formed.consistent c k writes.apart x at n writes.outside writes.low writes.high

  over-there : RunWritten (in_memory m) (in_memory later) m.header c k
  over-there = run-written (in_memory m) m.header (within m sound) c k
      (λ d from upto. structure-same m.file (in_memory m) m.header.fields places (meets m.header.fields d) ∙ writes.apart d from upto)
      (in_memory later) at n (λ p off. over-agrees x m.file (patches m.header.fields m.cached) p (writes.outside p off)) writes.low writes.high

  words-there : (i j : ℕ) → Live (l2_table m.file m.header.fields) m.header.fields i j → slot (in_memory later) m.header.fields i j ≡ slot (in_memory m) m.header.fields i j
  words-there i j live = over-there.keeps.slots i j (record { in_l1 = live.in_l1; is_there = λ none. live.is_there (sym (places.l1 i) ∙ none); in_table = live.in_table })

  named-same : (d : ℕ) → referenced_at_all later d ≡ referenced_at_all m d
  named-same d =
      let same = structure-same m.file x m.header.fields in-file.keeps.places (meets m.header.fields d) in
      let more = named-more m.file (in_memory m) x (in_memory later) m.header.fields m.header.fields.refcount_table_offset m.header.fields.refcount_table_clusters in-file.keeps.places.l1 in-file.keeps.slots words-there d 0 0 (omega (arith, same)) in
      omega (arith, more)

  copied-same : (d : ℕ) → copied x (in_memory later) m.header.fields d ≡ copied m.file (in_memory m) m.header.fields d
  copied-same d = copied-stays m.file (in_memory m) x (in_memory later) m.header.fields m.header.fields.refcount_table_offset m.header.fields.refcount_table_clusters in-file.keeps.places.l1 in-file.keeps.slots words-there d

  block-still : (cluster : ℕ) (b : Block) → IsCachedBlock m.file m.header.fields cluster b → IsCachedBlock x m.header.fields cluster b
  block-still cluster b is = block-fits m.file x m.header.fields m.header.fields.refcount_table_offset m.header.fields.refcount_table_clusters cluster b
      (λ live. (live.0, live.1, in-file.keeps.places.blocks live.0 ∙ live.2, live.3))
      (λ clean live.
      let place : block_at m.file m.header.fields live.0 ≡ cluster * cluster_size m.header.fields = sym (in-file.keeps.places.blocks live.0) ∙ live.2 in
      let there : block_at m.file m.header.fields live.0 ≢ 0 = λ none. place-there (cluster_size m.header.fields) cluster (pow_pos m.header.fields.cluster_bits) live.3 (sym place ∙ none) in
      is.clean clean (live.0, live.1, place, live.3)
      ∙ sym (counters-same m.file x m.header.fields (cluster * cluster_size m.header.fields)
      (subst (λ p. Same m.file x p (cluster_size m.header.fields)) place (in-file.same_structure_outside.counters live.0 live.1 there (λ e. cc)))))
      is

  safe-still : WellFormed x m.header m.cached m.order
  safe-still = record {
    consistent = in-file.consistent;
    tables_apart = sound.well_formed.tables_apart;
    blocks_apart = sound.well_formed.blocks_apart;
    tables = all-weaker _ _ (λ e is. table-fits m.file x m.header.fields m.header.fields.refcount_table_offset m.header.fields.refcount_table_clusters in-file.keeps.places.l1 e.0 (λ i j at live. in-file.same_structure_outside.raw_entries i j live (λ e. cc)) e.1.value is) m.cached.tables sound.well_formed.tables;
    blocks = all-weaker _ _ (λ e is. block-still e.0 e.1.value is) m.cached.blocks sound.well_formed.blocks;
    apart = λ d some.
        let base = structure-same m.file x m.header.fields in-file.keeps.places (meets m.header.fields d) in
        let marks = copied-same d in
        let names = named-same d in
        let one = sound.well_formed.apart d (omega (arith, base, marks, some)) in
        omega (arith, names, one);
    ordered = ordered-still m.file (in_memory m) x (in_memory later) m.header.fields m.header.fields
        (λ d le. let names = named-same d in let counts = over-there.counts d in omega (arith, names, counts, le))
        (λ d le. let names = named-same d in let counts = in-file.counts d in omega (arith, names, counts, le))
        (λ d. named-counted x m.header in-file.consistent d)
        (λ d le. let file = in-file.counts d in let cached = over-there.counts d in omega (arith, file, cached, le))
        m.order sound.well_formed.ordered;
    covered = λ d. named-counted (in_memory later) m.header over-there.consistent d;
  }

  pub beside-sound : IsSound later
  beside-sound = record {
    well_formed = safe-still;
    table = still-table m.file x m.header.fields m.table in-file.keeps.places.blocks sound.table;
    covered = λ d. let was = sound.covered d in let references = over-there.references d in let counts = over-there.counts d in omega (arith, was, references, counts);
    not_referenced = λ d some. named-same d ∙ sound.not_referenced d some;
  }

  pub beside-words : KeepsEntries m x
  beside-words = record {
    consistent = in-file.consistent;
    file = in-file.keeps;
    memory = over-there.keeps;
    file_entries = in-file.entries;
    memory_entries = over-there.entries;
    file_counts = in-file.counts;
    counts = over-there.counts;
    file_references = in-file.references;
    references = over-there.references;
    names = named-same;
    apart = λ d. structure-same m.file x m.header.fields in-file.keeps.places (meets m.header.fields d);
  }

-- Clusters in use stay in use, and reserved clusters stay reserved.
module _ (m : Metadata) (x : Bytes) (raw_entries : KeepsEntries m x) where
  pub beside-used : (d : ℕ) → IsUsed m d → IsUsed (record m { file = x }) d
  beside-used d used = record {
    apart = raw_entries.apart d ∙ used.apart;
    taken = let same = raw_entries.counts d in let taken = used.taken in omega (arith, same, taken);
  }

  pub beside-reserved : (d : ℕ) → IsReserved m d → IsReserved (record m { file = x }) d
  beside-reserved d reserved = record { used = beside-used d reserved.used; not_referenced = raw_entries.names d ∙ reserved.not_referenced; waits = reserved.waits }
