-- Lowering the refcount of a leaked cluster in its cached block.
use Rattle.std.proofs.Common.{◌≡◌, ℕ, ◌+◌, ◌-◌, ◌/◌, ◌%◌, ◌<◌, ◌≤◌, refl, arith, ap, sym, subst, ◌∙◌, List, length, Some, Result, Ok, Err, inl, inr}
use Rattle.std.specs.Prelude.{OnOk, IfOk, nat_eq, slice_index}
use Rattle.std.specs.Map.{lookup}
use Rattle.std.specs.Option.{option_map}
use Rattle.std.proofs.lemmas.Nat.{mod_below}
use Rattle.std.proofs.lemmas.Bool.{cases_eq, cases_lt}
use Rattle.imago_storage.specs.State.{StorageState}
use Rattle.imago_storage.specs.declared.fault.Fault.{Fault}
use Rattle.imago_storage.specs.declared.fault.Fault.TheVariants.{DamagedTable, Counter}
use Rattle.qcow2_types.specs.Counts.{count, counters_of_block}
use Rattle.qcow2_types.specs.Pending.{FreeEntry}
use Rattle.qcow2_types.proofs.Counting.Counters.{some-counters}
use Rattle.qcow2_metadata.specs.Tables.{TableValue}
use Rattle.qcow2_metadata.specs.Blocks.{Block, with_counter}
use Rattle.qcow2_alloc.specs.declared.async_lru_cache.Slot.{Slot}
use Rattle.qcow2_alloc.specs.declared.cache.MetadataCaches.{MetadataCaches}
use Rattle.qcow2_alloc.specs.declared.file.ImageFile.{ImageFile}
use Rattle.qcow2_alloc.specs.Allocators.{metadata_of, referenced_block}
use Rattle.qcow2_alloc.specs.Cache.{hit}
use Rattle.qcow2_alloc.specs.Caches.{cached_in}
use Rattle.qcow2_alloc.specs.CachesLending.{with_blocks}
use Rattle.qcow2_alloc.specs.Changes.{CachesBlock, SetsCounter, IsStillCovered}
use Rattle.qcow2_alloc.specs.Lowering.{LowersCounter, HasExcess, lowered_by}
use Rattle.qcow2_alloc.specs.Memory.{Cached}
use Rattle.qcow2_alloc.specs.GuestView.{Metadata, IsSound, GuestUnchanged, counted, in_memory, many_at}
use Rattle.qcow2_alloc.specs.WellFormedness.{IsCachedBlock}
use Rattle.qcow2_alloc.proofs.Caching.EntryUses.{block-used}
use Rattle.qcow2_alloc.proofs.Caching.Places.{slot-of}
use Rattle.qcow2_alloc.proofs.Caching.SearchOutcomes.{all-at}
use Rattle.qcow2_alloc.proofs.Freeing.ClusterFrees.{named-there}
use Rattle.qcow2_alloc.proofs.GuestView.QuietCounters.{here-many, away-many, leaked-quiet, unnamed-covered}
use Rattle.qcow2_alloc.proofs.GuestView.QuietFlushes.{used-quiet}
use Rattle.qcow2_alloc.proofs.Memory.CounterChanges.{cached-count, counter-lowered-to}
use Rattle.qcow2_alloc.proofs.Memory.Patches.{shaped-in}

-- The effect of a call on a consistent image, if it failed or the cluster had the excess.
pub record Lowered (c by : ℕ) (m : Metadata) (result : Result ℕ Fault) (m' : Metadata) : Type 0 where
  pub sound : IsSound m'
  pub unchanged : GuestUnchanged (λ _. 0) (lowered_by result c by) m m'
  pub counts : (d : ℕ) → counted m' d + lowered_by result c by d ≡ counted m d

module _ {S : Type 0} (state : S → StorageState) (table : TableValue) (pending : List FreeEntry) (c by : ℕ) (key : ℕ) (mid : MetadataCaches S) (after : ImageFile S)
    (named : referenced_block table (c / counters_of_block after.header.fields) ≡ Some key) (block : Block) (there : option_map (λ (s : Slot Block). s.value) (lookup (nat_eq key) (cached_in mid).blocks) ≡ Some block) where
  abbrev Was : Metadata
  Was = metadata_of state after mid table pending

  abbrev index : ℕ
  index = c % counters_of_block after.header.fields

  abbrev now : Block → Cached
  now block' = record (cached_in mid) { blocks = hit (nat_eq key) (cached_in mid).blocks block' }

  -- The image with another block at the key.
  abbrev pub With : Block → Metadata
  With block' = metadata_of state after (with_blocks mid (hit (nat_eq key) (cached_in mid).blocks block')) table pending

  caches-it : IsSound Was → CachesBlock Was.file Was.header.fields Was.cached key c block
  caches-it sound = let place = named-there Was (c / counters_of_block after.header.fields) key sound named in record { block_cached = there; counts = place.0; cluster_nonzero = place.1 }

  counter-is : IsSound Was → counted Was c ≡ slice_index block.counters index
  counter-is sound = cached-count Was.file Was.header Was.cached Was.order key c block sound.well_formed (caches-it sound)

  pub index-inside : IsSound Was → index < length block.counters
  index-inside sound =
      let found = slot-of (lookup (nat_eq key) (cached_in mid).blocks) block there in
      let fits : IsCachedBlock Was.file Was.header.fields key found.0.value = all-at (λ (e : ℕ × Slot Block). IsCachedBlock Was.file Was.header.fields e.0 e.1.value) key (cached_in mid).blocks found.0 found.1 sound.well_formed.blocks in
      let long : length block.counters ≡ counters_of_block Was.header.fields = ap (λ (b : Block). length b.counters) (sym found.2) ∙ fits.long in
      rw long (mod_below c (counters_of_block Was.header.fields) (some-counters Was.header.fields (shaped-in Was.file Was.header sound.well_formed.consistent)))

  refused : (fault : Fault) → IsSound Was → Lowered c by Was (Err fault) (With block)
  refused fault sound =
      let used = block-used Was.file Was.header Was.cached Was.order key sound.well_formed block there in
      let quiet = used-quiet Was (now block) sound used in
      record {
        sound = quiet.0;
        unchanged = quiet.1;
        counts = λ d. let same = ap (λ g. count g Was.header.fields d) used.memory_same in omega (arith, same);
      }

  lowered : IsSound Was → HasExcess Was c by → by ≤ slice_index block.counters index → Lowered c by Was (Ok (slice_index block.counters index - by)) (With (with_counter block index (slice_index block.counters index - by)))
  lowered sound excess enough =
      let n = slice_index block.counters index - by in
      let more : counted Was c ≡ n + by = counter-is sound ∙ omega (arith, enough) in
      let sets : SetsCounter Was.file Was.header.fields Was.cached key c n (now (with_counter block index n)) = record { block = block; caches = caches-it sound; blocks = refl; tables = refl } in
      let quiet = leaked-quiet Was key c n by (now (with_counter block index n)) sound sets more (omega (arith, more, excess)) in
      let covers : IsStillCovered Was.order Was.file (in_memory Was) Was.header.fields c n = unnamed-covered Was c n sound (omega (arith, more, excess)) in
      let changed = counter-lowered-to Was.file Was.header Was.cached (now (with_counter block index n)) Was.order key c n sound.well_formed sets (omega (arith, more)) covers in
      record {
        sound = quiet.0;
        unchanged = quiet.1;
        counts = λ d. elim (cases_eq d c) [
          | inl same ↦ subst (λ k. counted (With (with_counter block index n)) k + many_at c by k ≡ counted Was k) (sym same) (let one = here-many c by in let here = changed.written.here in omega (arith, one, here, more))
          | inr away ↦ let none = away-many c by d away in let other = changed.written.others d away in omega (arith, none, other)
        ];
      }

  abbrev so : (result r : Result ℕ Fault) (block' b : Block) → result ≡ r → block' ≡ b → Lowered c by Was r (With b) → Lowered c by Was result (With block')
  so result r block' b is same given = subst (λ (q : Result ℕ Fault). Lowered c by Was q (With block')) (sym is) (subst (λ (d : Block). Lowered c by Was r (With d)) (sym same) given)

  pub block-lowered : (result : Result ℕ Fault) (block' : Block) → LowersCounter index by block result block' → IsSound Was → OnOk result (HasExcess Was c by) → Lowered c by Was result (With block')
  block-lowered result block' lowers sound given = elim (cases_lt index (length block.counters)) [
    | inr past ↦ let out = lowers.out past in so result (Err DamagedTable) block' block out.0 out.1 (refused DamagedTable sound)
    | inl inside ↦ elim (cases_lt (slice_index block.counters index) by) [
      | inl less ↦ let out = lowers.if_less inside less in so result (Err Counter) block' block out.0 out.1 (refused Counter sound)
      | inr enough ↦
          let n = slice_index block.counters index - by in
          let done = lowers.if_enough inside enough in
          so result (Ok n) block' (with_counter block index n) done.0 done.1 (lowered sound (subst (λ (q : Result ℕ Fault). OnOk q (HasExcess Was c by)) done.0 given) enough)
    ]
  ]

  -- The refcount that the call returns, with `by`, is the old one.
  pub block-count : (result : Result ℕ Fault) (block' : Block) → LowersCounter index by block result block' → IsSound Was → IfOk result (λ n. n + by ≡ counted Was c)
  block-count result block' lowers sound = elim (cases_lt index (length block.counters)) [
    | inr past ↦ subst (λ (q : Result ℕ Fault). IfOk q (λ n. n + by ≡ counted Was c)) (sym (lowers.out past).0) tt
    | inl inside ↦ elim (cases_lt (slice_index block.counters index) by) [
      | inl less ↦ subst (λ (q : Result ℕ Fault). IfOk q (λ n. n + by ≡ counted Was c)) (sym (lowers.if_less inside less).0) tt
      | inr enough ↦ subst (λ (q : Result ℕ Fault). IfOk q (λ n. n + by ≡ counted Was c)) (sym (lowers.if_enough inside enough).0) (let is = counter-is sound in omega (arith, is, enough))
    ]
  ]

  -- Without the block's refcount, or with one that is less than `by`, the call fails.
  pub block-why : (result : Result ℕ Fault) (block' : Block) → LowersCounter index by block result block' → (P : Result ℕ Fault → Type 0)
      → ((IsSound Was → ⊥) → P (Err DamagedTable)) → ((IsSound Was → counted Was c < by) → P (Err Counter)) → ((n : ℕ) → P (Ok n)) → P result
  block-why result block' lowers P damaged counter fine = elim (cases_lt index (length block.counters)) [
    | inr past ↦ subst P (sym (lowers.out past).0) (damaged (λ sound. let inside = index-inside sound in omega (arith, past, inside)))
    | inl inside ↦ elim (cases_lt (slice_index block.counters index) by) [
      | inl less ↦ subst P (sym (lowers.if_less inside less).0) (counter (λ sound. let is = counter-is sound in omega (arith, is, less)))
      | inr enough ↦ subst P (sym (lowers.if_enough inside enough).0) (fine (slice_index block.counters index - by))
    ]
  ]
