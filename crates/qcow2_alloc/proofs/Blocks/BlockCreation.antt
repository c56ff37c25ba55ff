-- Making a refcount block at an index that has none: it is written, then linked.
use Rattle.std.proofs.Common.{◌≡◌, ◌≢◌, ℕ, ◌+◌, ◌*◌, ◌/◌, ◌%◌, ◌<◌, ◌≤◌, refl, arith, ap, sym, subst, inl, inr, ◌∙◌, List, length, Ok, None, Bool, Result}
use Rattle.std.specs.Prelude.{nat_eq, slice_index, slice_set, replicate, IsTrue}
use Rattle.std.specs.Int.{w64, to_be_bytes}
use Rattle.std.specs.Map.{lookup}
use Rattle.std.proofs.lemmas.List.{length-set, length-replicate}
use Rattle.imago_storage.specs.State.{StorageState}
use Rattle.imago_storage.specs.Through.{AtomicWriteOutcome}
use Rattle.imago_storage.specs.declared.fault.Fault.{Fault}
use Rattle.qcow2_types.specs.Bytes.{bytes_of}
use Rattle.qcow2_types.specs.Words.{block_offset}
use Rattle.qcow2_types.specs.Header.{cluster_size, refcount_table_entries}
use Rattle.qcow2_types.specs.Counts.{counters_of_block}
use Rattle.qcow2_types.specs.Versions.{SamePlaces}
use Rattle.qcow2_metadata.specs.Blocks.{Block, BlockPut}
use Rattle.qcow2_metadata.specs.Places.{IsAddressable}
use Rattle.qcow2_metadata.specs.Tables.{with_raw_entry, table_start}
use Rattle.qcow2_alloc.specs.declared.cache.CacheDependency.TheVariants.{L2DependsOnRb}
use Rattle.qcow2_alloc.specs.MakingRoom.{IsReadyBlock, BlockLinked, with_block}
use Rattle.qcow2_alloc.specs.Allocating.{OnlyIncremented}
use Rattle.imago_storage.proofs.Composing.{keeps_on}
use Rattle.qcow2_alloc.specs.GuestView.{Metadata, in_memory, counted, referenced, referenced_at_all, waiting, one_at, IsUsed, IsSound, IsIn, PreservesGuest}
use Rattle.qcow2_alloc.specs.WellFormedness.{AreBlocksClean}
use Rattle.std.proofs.lemmas.Bool.{cases_eq}
use Rattle.qcow2_types.proofs.Counting.Either.{refs-cached}
use Rattle.qcow2_alloc.proofs.GuestView.QuietCounters.{here-one, away-none}
use Rattle.qcow2_alloc.proofs.GuestView.QuietSequences.{quietly-otherwise}
use Rattle.qcow2_alloc.proofs.Searching.FreeClusters.{uncounted-free, clean-counts}
use Rattle.qcow2_alloc.proofs.Memory.FreeClusterWrites.{block-quietly, block-counts}
use Rattle.qcow2_alloc.proofs.Memory.MemoryWords.{places-in-memory}
use Rattle.qcow2_alloc.proofs.Blocks.BlockNames.{count-none, counted-block-quietly, own-block-quietly, names-block}
use Rattle.qcow2_alloc.proofs.Blocks.NewBlocks.{zeroes-count, itself-counts, none-cached}
use Rattle.qcow2_alloc.proofs.GuestView.QuietPremises.{quietly-then-given}

-- Linking a block raises only the refcounts of its own clusters, from 0 to 1.
only-named : (m m1 m2 : Metadata) (i d : ℕ) → ((c : ℕ) → counted m1 c ≡ counted m c) → BlockLinked m1 m2 i d → OnlyIncremented m m2
only-named m m1 m2 i d same names c =
    let was = same c in
    elim (cases_eq (c / counters_of_block m1.header.fields) i) [
      | inr apart ↦ inl ((names.others c apart).0 ∙ was)
      | inl own ↦
          let counts = names.own c own in
          elim (cases_eq c d) [
            | inl here ↦ let one : one_at d c ≡ 1 = ap (one_at d) here ∙ here-one d in inr (omega (arith, counts.0, was), omega (arith, counts.1, one))
            | inr away ↦ let none = away-none d c away in inl (omega (arith, counts.0, counts.1, was, none))
          ]
    ]

pub unnamed-uncounted : (m : Metadata) → IsSound m → (c : ℕ) → c / counters_of_block m.header.fields < refcount_table_entries m.header.fields → block_offset (slice_index m.table.raw_entries (c / counters_of_block m.header.fields)) ≡ 0 → counted m c ≡ 0
unnamed-uncounted m sound c inside none =
    let places : SamePlaces m.file (in_memory m) m.header.fields = places-in-memory m.file m.header sound.well_formed.consistent m.cached sound.well_formed.tables sound.well_formed.blocks in
    count-none (in_memory m) m.header.fields c (places.blocks (c / counters_of_block m.header.fields) ∙ sym (sound.table.names (c / counters_of_block m.header.fields) inside) ∙ none)

module _ (m : Metadata) (d : ℕ) (block : Block) (modified : Bool) (old mid new : StorageState) (is_in : IsIn old m) (order : block.order ≡ m.header.fields.refcount_order)
    (counts : block.counters ≡ slice_set (replicate (counters_of_block m.header.fields) 0) (d % counters_of_block m.header.fields) 1)
    (first : m.order ≡ L2DependsOnRb) (inside : d / counters_of_block m.header.fields < refcount_table_entries m.header.fields) (empty : block_offset (slice_index m.table.raw_entries (d / counters_of_block m.header.fields)) ≡ 0)
    (some : d ≢ 0) (reach : IsAddressable m.header.fields.cluster_bits d) (uncached : lookup (nat_eq d) m.cached.blocks ≡ None) where
  abbrev i : ℕ
  i = d / counters_of_block m.header.fields

  abbrev m1 : Metadata
  m1 = record m { file = bytes_of mid.bytes }

  long : length block.counters ≡ counters_of_block m.header.fields
  long = ap (λ (l : List ℕ). length l) counts ∙ length-set (replicate (counters_of_block m.header.fields) 0) (d % counters_of_block m.header.fields) 1 ∙ length-replicate {A = ℕ} (counters_of_block m.header.fields) 0

  module _ (done : Result Unit Fault) (ok : done ≡ Ok tt) (put : BlockPut block (d * cluster_size m.header.fields) old mid done) where
    written : PreservesGuest (done ≡ Ok tt) (λ _. 0) (λ _. 0) old m mid m1
    written = block-quietly m d block old mid is_in order long (λ _. 0)
        (λ sound. let free = uncounted-free m sound first d (unnamed-uncounted m sound d inside empty) in (free.0, λ used. absurd (free.2 used))) done put

    ready : IsTrue old.shape.keeps → IsSound m → IsSound m1 → IsReadyBlock m1 i d
    ready keeps sound sound1 =
        let free = uncounted-free m1 sound1 first d (unnamed-uncounted m1 sound1 d inside empty) in
        let read = (block-counts m d block old mid is_in order long (λ _. 0)
        (λ s. let f = uncounted-free m s first d (unnamed-uncounted m s d inside empty) in (f.0, λ used. absurd (f.2 used))) done put keeps sound ok).1 in
        record {
          inside = inside;
          empty = empty;
          cluster_nonzero = some;
          reach = reach;
          not_referenced = free.0;
          unlisted = free.1;
          counters = itself-counts m1 sound1 i d refl (read ∙ counts);
          counted = λ apart. absurd (apart refl);
          cached = none-cached d m.cached.blocks _ uncached;
        }

    pub own-block-made : (result : Result Unit Fault) → AtomicWriteOutcome mid new (table_start (with_raw_entry m.table i (d * cluster_size m.header.fields)) + 8 * i) (to_be_bytes w64 (slice_index (with_raw_entry m.table i (d * cluster_size m.header.fields)).raw_entries i)) result
        → PreservesGuest (result ≡ Ok tt) (λ _. 0) (λ _. 0) old m new (with_block m i d modified (bytes_of new.bytes))
    own-block-made result named = quietly-then-given (done ≡ Ok tt) (result ≡ Ok tt) (λ _. 0) (λ _. 0) (λ _. 0) (λ _. 0) old m mid m1 new (with_block m i d modified (bytes_of new.bytes)) ok (λ sound c refers. refl) written named.put.shape named.put.counts_not_fallen
        (λ keeps sound sound1 guest_unchanged. own-block-quietly m1 i d modified mid new refl (λ s. ready keeps sound sound1) refl result named)

    pub own-block-raises : IsTrue old.shape.keeps → IsSound m → (result : Result Unit Fault)
        → AtomicWriteOutcome mid new (table_start (with_raw_entry m.table i (d * cluster_size m.header.fields)) + 8 * i) (to_be_bytes w64 (slice_index (with_raw_entry m.table i (d * cluster_size m.header.fields)).raw_entries i)) result
        → result ≡ Ok tt → OnlyIncremented m (with_block m i d modified (bytes_of new.bytes))
    own-block-raises keeps sound result named is =
        let all = block-counts m d block old mid is_in order long (λ _. 0)
        (λ s. let f = uncounted-free m s first d (unnamed-uncounted m s d inside empty) in (f.0, λ used. absurd (f.2 used))) done put keeps sound ok in
        only-named m m1 (with_block m i d modified (bytes_of new.bytes)) i d all.0.memory
        (names-block m1 i d modified mid new refl (λ s. ready keeps sound s) (keeps_on old mid written.shape keeps) (written.holds keeps sound ok).0 result named is)

-- A block of zeros is made in an allocated cluster that another block counts. Everything is flushed before.
module _ (m : Metadata) (i d : ℕ) (block : Block) (modified : Bool) (old mid new : StorageState) (is_in : IsIn old m) (order : block.order ≡ m.header.fields.refcount_order)
    (counts : block.counters ≡ replicate (counters_of_block m.header.fields) 0) (clean : AreBlocksClean m.cached) (inside : i < refcount_table_entries m.header.fields) (empty : block_offset (slice_index m.table.raw_entries i) ≡ 0)
    (other : d / counters_of_block m.header.fields ≢ i) (some : d ≢ 0) (reach : IsAddressable m.header.fields.cluster_bits d) (uncached : lookup (nat_eq d) m.cached.blocks ≡ None)
    (free : IsSound m → (referenced_at_all m d ≡ 0) × (waiting m d ≡ 0) × (1 ≤ counted m d)) where
  abbrev m2 : Metadata
  m2 = record m { file = bytes_of mid.bytes }

  zeroes-long : length block.counters ≡ counters_of_block m.header.fields
  zeroes-long = ap (λ (l : List ℕ). length l) counts ∙ length-replicate {A = ℕ} (counters_of_block m.header.fields) 0

  used-taken : IsSound m → (referenced_at_all m d ≡ 0) × (IsUsed m d → 0 < one_at d d)
  used-taken sound = ((free sound).0, λ used. let one = here-one d in omega (arith, one))

  module _ (done : Result Unit Fault) (ok : done ≡ Ok tt) (put : BlockPut block (d * cluster_size m.header.fields) old mid done) where
    zeroes-written : PreservesGuest (done ≡ Ok tt) (one_at d) (one_at d) old m mid m2
    zeroes-written = block-quietly m d block old mid is_in order zeroes-long (one_at d) used-taken done put

    zeroes-ready : IsTrue old.shape.keeps → IsSound m → IsSound m2 → IsReadyBlock m2 i d
    zeroes-ready keeps sound sound2 =
        let all = block-counts m d block old mid is_in order zeroes-long (one_at d) used-taken done put keeps sound ok in
        let was = free sound in
        let names = all.0.names d in
        let memory = all.0.memory d in
        let file = all.0.file d in
        let same = clean-counts m sound clean d in
        record {
          inside = inside;
          empty = empty;
          cluster_nonzero = some;
          reach = reach;
          not_referenced = omega (arith, names, was.0);
          unlisted = was.1;
          counters = zeroes-count m2 sound2 i d other (all.1 ∙ counts);
          counted = λ apart. (omega (arith, file, same, was.2), omega (arith, memory, was.2));
          cached = none-cached d m.cached.blocks _ uncached;
        }

    referenced-apart : IsSound m → (c : ℕ) → 0 < referenced m c → one_at d c ≡ 0
    referenced-apart sound c refers = elim (cases_eq c d) [
      | inr apart ↦ away-none d c apart
      | inl same ↦
          let places : SamePlaces m.file (in_memory m) m.header.fields = places-in-memory m.file m.header sound.well_formed.consistent m.cached sound.well_formed.tables sound.well_formed.blocks in
          let le = refs-cached m.file (in_memory m) m.header.fields d places in
          let none = (free sound).0 in
          let here : 0 < referenced m d = subst (λ k. 0 < referenced m k) same refers in
          absurd (omega (arith, le, none, here))
    ]

    pub other-block-made : (result : Result Unit Fault)
        → AtomicWriteOutcome mid new (table_start (with_raw_entry m.table i (d * cluster_size m.header.fields)) + 8 * i) (to_be_bytes w64 (slice_index (with_raw_entry m.table i (d * cluster_size m.header.fields)).raw_entries i)) result
        → PreservesGuest (result ≡ Ok tt) (λ _. 0) (one_at d) old m new (with_block m i d modified (bytes_of new.bytes))
    other-block-made result named = quietly-otherwise (result ≡ Ok tt) (λ c. one_at d c + 0) (λ c. one_at d c + one_at d c) (λ _. 0) (one_at d) old m new (with_block m i d modified (bytes_of new.bytes))
        (λ sound c. omega arith) (λ sound c used none. omega (arith, none))
        (quietly-then-given (done ≡ Ok tt) (result ≡ Ok tt) (one_at d) (one_at d) (λ _. 0) (one_at d) old m mid m2 new (with_block m i d modified (bytes_of new.bytes)) ok referenced-apart zeroes-written named.put.shape named.put.counts_not_fallen
        (λ keeps sound sound2 guest_unchanged. counted-block-quietly m2 i d modified mid new refl (λ s. zeroes-ready keeps sound sound2) other result named))

    pub other-block-raises : IsTrue old.shape.keeps → IsSound m → (result : Result Unit Fault)
        → AtomicWriteOutcome mid new (table_start (with_raw_entry m.table i (d * cluster_size m.header.fields)) + 8 * i) (to_be_bytes w64 (slice_index (with_raw_entry m.table i (d * cluster_size m.header.fields)).raw_entries i)) result
        → result ≡ Ok tt → OnlyIncremented m (with_block m i d modified (bytes_of new.bytes))
    other-block-raises keeps sound result named is =
        let all = block-counts m d block old mid is_in order zeroes-long (one_at d) used-taken done put keeps sound ok in
        only-named m m2 (with_block m i d modified (bytes_of new.bytes)) i d all.0.memory
        (names-block m2 i d modified mid new refl (λ s. zeroes-ready keeps sound s) (keeps_on old mid zeroes-written.shape keeps) (zeroes-written.holds keeps sound ok).0 result named is)
