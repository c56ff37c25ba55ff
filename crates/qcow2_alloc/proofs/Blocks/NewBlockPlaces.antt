-- The cluster that a new block takes.
use Rattle.std.proofs.Common.{◌≡◌, ◌≢◌, ℕ, ◌+◌, ◌*◌, ◌^◌, ◌<◌, ◌≤◌, refl, arith, ap, sym, subst, ◌∙◌, inl, inr, List, length, Option, None, Some, Result, Ok, Err}
use Rattle.std.specs.Prelude.{IsTrue, OnOk, slice_index}
use Rattle.std.proofs.lemmas.Bool.{cases_lt, ne_eqb}
use Rattle.std.proofs.lemmas.List.{get_or-set_same}
use Rattle.std.proofs.lemmas.Nat.{pow_pos}
use Rattle.imago_storage.specs.State.{StorageState}
use Rattle.imago_storage.specs.declared.fault.Fault.{Fault}
use Rattle.qcow2_types.specs.Bytes.{sum_below}
use Rattle.qcow2_types.specs.Counts.{block_at, counters_of_block}
use Rattle.qcow2_types.specs.Entries.{l2_table}
use Rattle.qcow2_types.specs.Header.{Fields, Header, cluster_size, refcount_table_entries}
use Rattle.qcow2_types.specs.Pending.{FreeEntry}
use Rattle.qcow2_types.specs.References.{structure, of_cluster, meets, refs}
use Rattle.qcow2_types.specs.Words.{block_offset}
use Rattle.qcow2_types.proofs.Numbers.Sums.{sum-same, sum-change}
use Rattle.qcow2_metadata.specs.Blocks.{Block}
use Rattle.qcow2_metadata.specs.Places.{IsAddressable, place_of}
use Rattle.qcow2_metadata.specs.Tables.{TableValue}
use Rattle.qcow2_metadata.proofs.TableSteps.{block_named}
use Rattle.qcow2_alloc.specs.declared.cache.CacheDependency.TheVariants.{L2DependsOnRb}
use Rattle.qcow2_alloc.specs.declared.cache.MetadataCaches.{MetadataCaches}
use Rattle.qcow2_alloc.specs.declared.file.ImageFile.{ImageFile}
use Rattle.qcow2_alloc.specs.Allocating.{MakesBlock}
use Rattle.qcow2_alloc.specs.Allocators.{metadata_of}
use Rattle.qcow2_alloc.specs.Caches.{order_of, cached_file}
use Rattle.qcow2_alloc.specs.FillingBlocks.{IsBlockPlaced}
use Rattle.qcow2_alloc.specs.FreeList.{listed}
use Rattle.qcow2_alloc.specs.MakingBlocks.{LinksWritten}
use Rattle.qcow2_alloc.specs.GuestView.{Metadata, IsSound, GuestUnchanged, in_memory, counted, referenced, waiting, one_at}
use Rattle.qcow2_alloc.specs.SearchingClusters.{LooksForFree}
use Rattle.qcow2_alloc.specs.State.{ImageState, image_state, metadata}
use Rattle.qcow2_alloc.proofs.Searching.SearchesBeforeCounts.{sound-safe, counter-there}
use Rattle.qcow2_alloc.proofs.Blocks.BlockNames.{meets-one}
use Rattle.qcow2_alloc.proofs.Memory.Patches.{place-there}
use Rattle.qcow2_alloc.proofs.GuestView.QuietSequences.{structure-in-memory, contents-then}

pub written-at : (table : TableValue) (i d bits : ℕ) (block : Block) (old new : StorageState) (table' : TableValue) → i < length table.raw_entries → 9 ≤ bits → IsAddressable bits d → block.cluster_bits ≡ bits → block.cluster ≡ Some d → LinksWritten table i block old (Ok tt) table' new
    → block_offset (slice_index table'.raw_entries i) ≡ d * 2 ^ bits
written-at table i d bits block old new table' inside low reach is there written = by-done written.done refl
  where
    by-done : (done : Result Unit Fault) → written.done ≡ done → block_offset (slice_index table'.raw_entries i) ≡ d * 2 ^ bits
    by-done (Err fault) at = absurd (let stopped = (written.stopped fault at).0 in cc stopped)
    by-done (Ok done) at =
        let named = (written.named at).1 in
        let raw_entry : place_of block.cluster_bits block.cluster ≡ d * 2 ^ bits = ap (λ (b : ℕ). place_of b block.cluster) is ∙ ap (λ (o : Option ℕ). place_of bits o) there in
        ap (λ (t : TableValue). block_offset (slice_index t.raw_entries i)) named.1
        ∙ ap block_offset (get_or-set_same table.raw_entries i (place_of block.cluster_bits block.cluster) 0 inside)
        ∙ ap block_offset raw_entry ∙ block_named bits d low reach

pub written-on-ok : (table : TableValue) (i d bits : ℕ) (block : Block) (old new : StorageState) (table' : TableValue) (result : Result Unit Fault) → i < length table.raw_entries → 9 ≤ bits → IsAddressable bits d → block.cluster_bits ≡ bits → block.cluster ≡ Some d → d ≢ 0
    → LinksWritten table i block old result table' new → OnOk result ((d ≢ 0) × (block_offset (slice_index table'.raw_entries i) ≡ d * 2 ^ bits))
written-on-ok table i d bits block old new table' (Ok done) inside low reach is there some written = (some, written-at table i d bits block old new table' inside low reach is there written)
written-on-ok table i d bits block old new table' (Err fault) inside low reach is there some written = tt

-- If linking a block at cluster `d` is the only change to references, only the refcount of `d` rises, by 1.
module _ (m m' : Metadata) (i d : ℕ) (sound : IsSound m) (sound' : IsSound m') (header : m'.header ≡ m.header) (pending : m'.pending ≡ m.pending) (guest_unchanged : GuestUnchanged (λ _. 0) (λ _. 0) m m') (some : d ≢ 0)
    (inside : i < refcount_table_entries m.header.fields) (empty : block_offset (slice_index m.table.raw_entries i) ≡ 0) (named : block_offset (slice_index m'.table.raw_entries i) ≡ d * cluster_size m.header.fields)
    (others : (j : ℕ) → j ≢ i → slice_index m'.table.raw_entries j ≡ slice_index m.table.raw_entries j) where
  abbrev h : Fields
  h = m.header.fields

  with-header : (P : Header → Type 0) → P m'.header → P m.header
  with-header P p = subst P header p

  blocks-here : block_at m'.file h i ≡ d * cluster_size h
  blocks-here = with-header (λ H. i < refcount_table_entries H.fields → block_at m'.file H.fields i ≡ d * cluster_size h) (λ lt. sym (sound'.table.names i lt) ∙ named) inside

  blocks-there : (j : ℕ) → j < refcount_table_entries h → j ≢ i → block_at m'.file h j ≡ block_at m.file h j
  blocks-there j lt apart = with-header (λ H. j < refcount_table_entries H.fields → block_at m'.file H.fields j ≡ block_at m.file h j) (λ lt'. sym (sound'.table.names j lt') ∙ ap block_offset (others j apart) ∙ sound.table.names j lt) lt

  none-before : block_at m.file h i ≡ 0
  none-before = sym (sound.table.names i inside) ∙ empty

  structure-more : (c : ℕ) → structure m'.file h (meets h c) ≡ structure m.file h (meets h c) + one_at d c
  unfolding structure
  structure-more c =
      let blocks = sum-change (refcount_table_entries h) i (λ j. of_cluster h (meets h c) (block_at m'.file h j)) (λ j. of_cluster h (meets h c) (block_at m.file h j)) inside (λ j lt apart. ap (of_cluster h (meets h c)) (blocks-there j lt apart)) in
      let tables : sum_below h.l1_entries (λ j. of_cluster h (meets h c) (l2_table m'.file h j)) ≡ sum_below h.l1_entries (λ j. of_cluster h (meets h c) (l2_table m.file h j)) =
      sum-same h.l1_entries _ _ (λ j lt. ap (of_cluster h (meets h c)) (with-header (λ H. l2_table m'.file H.fields j ≡ l2_table m.file h j) (guest_unchanged.shows.tables j))) in
      let before : of_cluster h (meets h c) (block_at m.file h i) ≡ 0 = rw none-before refl in
      let there : d * cluster_size h ≢ 0 = place-there (cluster_size h) d (pow_pos h.cluster_bits) some in
      let here : of_cluster h (meets h c) (block_at m'.file h i) ≡ one_at d c = ap (of_cluster h (meets h c)) blocks-here ∙ rw (ne_eqb (d * cluster_size h) 0 there) refl ∙ meets-one h c d in
      omega (arith, blocks, tables, before, here)

  references-more : (c : ℕ) → referenced m' c ≡ referenced m c + one_at d c
  unfolding refs
  references-more c =
      let first : structure (in_memory m) h (meets h c) ≡ structure m.file h (meets h c) = structure-in-memory m sound (meets h c) in
      let second : structure (in_memory m') m'.header.fields (meets m'.header.fields c) ≡ structure m'.file m'.header.fields (meets m'.header.fields c) = structure-in-memory m' sound' (meets m'.header.fields c) in
      let moved : structure m'.file m'.header.fields (meets m'.header.fields c) ≡ structure m'.file h (meets h c) = ap (λ (H : Header). structure m'.file H.fields (meets H.fields c)) header in
      let more = structure-more c in
      let same = contents-then m m' (λ _. 0) (λ _. 0) guest_unchanged sound sound' c in
      omega (arith, first, second, moved, more, same)

  pub counted-more : (c : ℕ) → counted m' c ≡ counted m c + one_at d c
  counted-more c =
      let law = guest_unchanged.law c in
      let more = references-more c in
      let waits : waiting m' c ≡ waiting m c = ap (λ (l : List FreeEntry). listed l c) pending in
      omega (arith, law, more, waits)

-- The block of a successful call satisfies `IsBlockPlaced`.
module _ {S : Type 0} (state : S → StorageState) (mark index : ℕ) (s : ImageState S) (table' : TableValue) (new : MetadataCaches S) (after : ImageFile S)
    (made : MakesBlock state index s (Ok tt) (image_state table' new after s.pending)) (inside : index < length s.table.raw_entries) (empty : block_offset (slice_index s.table.raw_entries index) ≡ 0)
    (order : order_of s.caches ≡ L2DependsOnRb) (keeps : IsTrue (state s.file.image).shape.keeps) (sound : IsSound (metadata state s)) where
  abbrev Old : Metadata
  Old = metadata state s

  abbrev New : Metadata
  New = metadata_of state after new table' s.pending

  abbrev k : ℕ
  k = counters_of_block s.file.header.fields

  raised-at : (d : ℕ) → d ≢ 0 → block_offset (slice_index table'.raw_entries index) ≡ d * cluster_size s.file.header.fields → (c : ℕ) → counted New c ≡ counted Old c + one_at d c
  raised-at d some named =
      let held = (made.step.guest_unchanged order).holds keeps sound tt in
      counted-more Old New index d sound held.0 made.header refl held.1 some (let long = sound.table.long in omega (arith, inside, long)) empty named made.others

  -- The block takes a free cluster that another block counts.
  pub placed-counted : (place : ℕ) (mid : MetadataCaches S) (between : ImageFile S) → LooksForFree state s.table mark (index * k) (cached_file s.caches s.file) (Ok (Some place)) (cached_file mid between) → place ≢ 0
      → block_offset (slice_index table'.raw_entries index) ≡ place * cluster_size s.file.header.fields → IsBlockPlaced mark index Old New
  placed-counted place mid between looks some named =
      let found = looks.found (sound-safe state s keeps sound) in
      record {
        place = place;
        raised = raised-at place some named;
        first = λ c above below there zero. elim (cases_lt c place) [
          | inl less ↦ let more = found.least c above less (counter-there state s sound c there) in absurd (omega (arith, more, zero))
          | inr past ↦ past
        ];
        own = let lt = found.before in omega (arith, lt);
      }

  -- The block takes the first cluster that it counts itself.
  pub placed-own : (mid : MetadataCaches S) (between : ImageFile S) → LooksForFree state s.table mark (index * k) (cached_file s.caches s.file) (Ok None) (cached_file mid between) → index * k ≢ 0
      → block_offset (slice_index table'.raw_entries index) ≡ index * k * cluster_size s.file.header.fields → IsBlockPlaced mark index Old New
  placed-own mid between looks some named =
      let all = looks.found (sound-safe state s keeps sound) in
      record {
        place = index * k;
        raised = raised-at (index * k) some named;
        first = λ c above below there zero. let more = all c above below (counter-there state s sound c there) in absurd (omega (arith, more, zero));
        own = omega arith;
      }

-- Both cases together, for any result of the search.
module _ {S : Type 0} (state : S → StorageState) (mark index : ℕ) (s : ImageState S) (mid : MetadataCaches S) (between : ImageFile S) (found : Option ℕ)
    (looks : LooksForFree state s.table mark (index * counters_of_block s.file.header.fields) (cached_file s.caches s.file) (Ok found) (cached_file mid between)) (inside : index < length s.table.raw_entries) (empty : block_offset (slice_index s.table.raw_entries index) ≡ 0)
    (table' : TableValue) (new : MetadataCaches S) (after : ImageFile S) where
  abbrev Placed : Result Unit Fault → Type 0
  Placed result = order_of s.caches ≡ L2DependsOnRb → IsTrue (state s.file.image).shape.keeps → IsSound (metadata state s)
      → OnOk result (IsBlockPlaced mark index (metadata state s) (metadata_of state after new table' s.pending))

  pub placed-found : (place : ℕ) → found ≡ Some place → (result : Result Unit Fault) → MakesBlock state index s result (image_state table' new after s.pending)
      → OnOk result ((place ≢ 0) × (block_offset (slice_index table'.raw_entries index) ≡ place * cluster_size between.header.fields)) → Placed result
  placed-found place is (Err fault) made at order keeps sound = tt
  placed-found place is (Ok done) made at order keeps sound =
      placed-counted state mark index s table' new after made inside empty order keeps sound place mid between
      (subst (λ (o : Option ℕ). LooksForFree state s.table mark (index * counters_of_block s.file.header.fields) (cached_file s.caches s.file) (Ok o) (cached_file mid between)) is looks) at.0
      (subst (λ (H : Header). block_offset (slice_index table'.raw_entries index) ≡ place * cluster_size H.fields) looks.looked.header at.1)

  pub placed-itself : found ≡ None → (result : Result Unit Fault) → MakesBlock state index s result (image_state table' new after s.pending)
      → OnOk result ((index * counters_of_block between.header.fields ≢ 0) × (block_offset (slice_index table'.raw_entries index) ≡ index * counters_of_block between.header.fields * cluster_size between.header.fields)) → Placed result
  placed-itself is (Err fault) made at order keeps sound = tt
  placed-itself is (Ok done) made at order keeps sound =
      placed-own state mark index s table' new after made inside empty order keeps sound mid between
      (subst (λ (o : Option ℕ). LooksForFree state s.table mark (index * counters_of_block s.file.header.fields) (cached_file s.caches s.file) (Ok o) (cached_file mid between)) is looks)
      (subst (λ (H : Header). index * counters_of_block H.fields ≢ 0) looks.looked.header at.0)
      (subst (λ (H : Header). block_offset (slice_index table'.raw_entries index) ≡ index * counters_of_block H.fields * cluster_size H.fields) looks.looked.header at.1)
