-- Free clusters: those with refcount 0 while blocks are written first, and those of a replaced refcount table.
use Rattle.std.proofs.Common.{◌≡◌, ℕ, ◌+◌, ◌*◌, ◌/◌, ◌<◌, ◌≤◌, arith, ap, sym, subst, ◌∙◌, [], ◌∷◌, ◌++◌, inl, inr, true, List}
use Rattle.std.proofs.lemmas.Bool.{cases_eq, cases_lt}
use Rattle.qcow2_types.specs.Bytes.{Bytes, bytes_of}
use Rattle.qcow2_types.specs.Header.{cluster_size}
use Rattle.qcow2_types.specs.Counts.{block_at, counters_of_block, count}
use Rattle.qcow2_types.specs.Pending.{FreeEntry}
use Rattle.qcow2_types.specs.References.{meets}
use Rattle.qcow2_types.specs.Versions.{references_in_either}
use Rattle.qcow2_types.proofs.Changes.Frames.{refcount_table-part}
use Rattle.qcow2_types.proofs.Fields.HeaderLimits.{header-limited}
use Rattle.qcow2_types.proofs.Changes.WriteBack.{place-whole}
use Rattle.qcow2_metadata.specs.Tables.{TableValue}
use Rattle.qcow2_alloc.specs.declared.cache.CacheDependency.{CacheDependency}
use Rattle.qcow2_alloc.specs.declared.cache.CacheDependency.TheVariants.{L2DependsOnRb}
use Rattle.qcow2_alloc.specs.FreeList.{covers}
use Rattle.qcow2_alloc.specs.MakingRoom.{newly, formerly, run_of, IsReadyTable, TableSwitched, with_table}
use Rattle.qcow2_alloc.specs.GuestView.{Metadata, in_memory, counted, referenced, referenced_at_all, waiting, covers_metadata, IsUsed, IsSound, GuestUnchanged}
use Rattle.qcow2_alloc.specs.WellFormedness.{IsOrdered, IsSettled, AreBlocksClean}
use Rattle.qcow2_alloc.specs.Memory.{Cached, memory}
use Rattle.qcow2_alloc.proofs.Memory.MemoryWords.{counts-same}
use Rattle.qcow2_alloc.proofs.Memory.SafeLaws.{settled-names}
use Rattle.qcow2_alloc.proofs.Freeing.ClusterOccurrences.{covers-meets}
use Rattle.qcow2_alloc.proofs.GuestView.QuietEntries.{push-quiet}
use Rattle.qcow2_alloc.proofs.Memory.KeptWords.{structure-named}

-- While blocks are written first, a cluster with refcount 0 is unreferenced and not on the free list.
pub uncounted-free : (m : Metadata) → IsSound m → m.order ≡ L2DependsOnRb → (c : ℕ) → counted m c ≡ 0 → (referenced_at_all m c ≡ 0) × (waiting m c ≡ 0) × (IsUsed m c → ⊥)
uncounted-free m sound order c none =
    let first = subst (λ (o : CacheDependency). IsOrdered o m.file (in_memory m) m.header.fields) order sound.well_formed.ordered in
    let le = first.cached c in
    let covers_all = sound.covered c in (
      omega (arith, le, none),
      omega (arith, covers_all, none),
      λ used. let some = used.taken in absurd (omega (arith, some, none)),
    )

-- Flushes keep the refcounts in memory, and add no reference. If all blocks are clean, the file has the same refcounts.
pub flushes-count : (m : Metadata) (old new : List ℕ) (cached' : Cached) → m.file ≡ bytes_of old → IsSettled m.header m.order old m.cached new cached' → (c : ℕ)
    → (counted (record m { file = bytes_of new; cached = cached' }) c ≡ counted m c) × (referenced_at_all (record m { file = bytes_of new; cached = cached' }) c ≤ referenced_at_all m c)
flushes-count m old new cached' at settled c =
    let same : memory (bytes_of old) m.header.fields m.cached ≡ in_memory m = ap (λ (f : Bytes). memory f m.header.fields m.cached) (sym at) in (
      ap (λ (g : Bytes). count g m.header.fields c) (settled.memory_same ∙ same),
      subst (λ (f : Bytes). references_in_either (bytes_of new) (memory (bytes_of new) m.header.fields cached') m.header.fields c ≤ references_in_either f (memory f m.header.fields m.cached) m.header.fields c) (sym at)
          (settled-names m.header m.order old new m.cached cached' settled c),
    )

pub clean-counts : (m : Metadata) → IsSound m → AreBlocksClean m.cached → (c : ℕ) → counted m c ≡ count m.file m.header.fields c
clean-counts m sound clean c = counts-same m.file m.header sound.well_formed.consistent m.cached sound.well_formed.tables sound.well_formed.blocks clean c

module _ (m : Metadata) (table : TableValue) (t n : ℕ) (x : Bytes) (sound : IsSound m) (ready : IsReadyTable m table t n) (switched : TableSwitched m (with_table m table t n x) t n) (sound' : IsSound (with_table m table t n x)) where
  abbrev m' : Metadata
  m' = with_table m table t n x

  -- The clusters of the old table.
  abbrev e : FreeEntry
  e = run_of (m.header.fields.refcount_table_offset / cluster_size m.header.fields) m.header.fields.refcount_table_clusters

  pub old-run : (c : ℕ) → covers c e ≡ formerly m c
  old-run c =
      let limited = header-limited true m.file m.header sound.well_formed.consistent.readable.loads in
      covers-meets m.header.fields c e
      ∙ ap (λ p. meets m.header.fields c p (m.header.fields.refcount_table_clusters * cluster_size m.header.fields)) (place-whole m.header.fields.cluster_bits m.header.fields.refcount_table_offset limited.refcount_place)

  -- Only the table referenced each of them, so nothing does now.
  was-named : (c : ℕ) → 0 < formerly m c → (referenced_at_all m c ≡ 1) × (newly m t n c ≡ 0)
  was-named c some =
      let part = refcount_table-part m.file m.header.fields (meets m.header.fields c) in
      let all = structure-named m.file (in_memory m) m.header.fields c in
      let one = sound.well_formed.apart c (omega (arith, part, some)) in (
        omega (arith, part, all, one, some),
        elim (cases_lt 0 (newly m t n c)) [
          | inl new ↦ let none = (ready.free c new).0 in absurd (omega (arith, part, all, some, none))
          | inr least ↦ omega (arith, least)
        ],
      )

  enough : (c : ℕ) → referenced m' c + waiting m' c + covers c e ≤ counted m' c
  enough c =
      let moved = switched.references c in
      let run = old-run c in
      let was = sound.covered c in
      let now = sound'.covered c in
      elim (cases_lt 0 (formerly m c)) [
        | inr least ↦ omega (arith, run, now, least)
        | inl some ↦
            let off = (was-named c some).1 in
            elim (cases_eq (block_at m.file m.header.fields (c / counters_of_block m.header.fields)) 0) [
              | inr there ↦ let same = (switched.others c there).0 in omega (arith, moved, run, was, off, same)
              | inl none ↦ let counts = switched.own c none in omega (arith, moved, run, was, off, counts.0, counts.1)
            ]
      ]

  not_referenced : (c : ℕ) → 0 < covers_metadata c e → referenced_at_all m' c ≡ 0
  not_referenced c some =
      let run = old-run c in
      let moved = switched.names c in
      let was = was-named c (omega (arith, run, some)) in
      omega (arith, moved, was.0, was.1, run, some)

  -- They are added to the free list.
  pub old-table-waits : IsSound (record m' { pending = m.pending ++ e ∷ [] }) × GuestUnchanged (λ _. 0) (λ c. covers c e) m' (record m' { pending = m.pending ++ e ∷ [] })
  old-table-waits = push-quiet m' e sound' enough not_referenced
