-- Specifies how a refcount that is too high is lowered: by the cluster's excess refcount, or by a part of it.
use Rattle.std.specs.Prelude.{◌≡◌, ◌⊎◌, ℕ, ◌+◌, ◌-◌, ◌/◌, ◌%◌, ◌<◌, ◌≤◌, ◌==◌, if◌then◌else◌, min, Result, Ok, Err, OnOk, OnErr, IfOk, MatchOption, length, slice_index}
use Rattle.imago_storage.specs.State.{StorageState}
use Rattle.imago_storage.specs.Calls.{IsFaultless}
use Rattle.imago_storage.specs.declared.fault.Fault.{Fault}
use Rattle.imago_storage.specs.declared.fault.Fault.TheVariants.{DamagedTable, Counter}
use Rattle.qcow2_types.specs.Counts.{counters_of_block}
use Rattle.qcow2_metadata.specs.Tables.{TableValue}
use Rattle.qcow2_metadata.specs.Blocks.{Block, with_counter}
use Rattle.qcow2_alloc.specs.Allocators.{referenced_block, UsesBlock}
use Rattle.qcow2_alloc.specs.Caches.{CachedFile, cached_in, order_of, KeepsTables}
use Rattle.qcow2_alloc.specs.Causes.{Causes, FailsFor}
use Rattle.qcow2_alloc.specs.Finding.{PinsNothing}
use Rattle.qcow2_alloc.specs.Freeing.{HasUnpinnedSlot, NoneFreeBefore, freeing_causes}
use Rattle.qcow2_alloc.specs.Going.{IsNoShorter, HadNoResourceError}
use Rattle.qcow2_alloc.specs.GuestView.{Metadata, PreservesGuest, counted, many_at, referenced_at_all, waiting}
use Rattle.qcow2_alloc.specs.State.{AllocatorState, metadata, KeepsWritesAndSound, WhereKept}
use Rattle.qcow2_alloc.specs.WellFormedness.{NoChangeRefused}

-- A refcount of a block is lowered by `by`. The call fails if the block has no such refcount, or if the refcount is less than `by`.
pub record LowersCounter (index by : ℕ) (block : Block) (result : Result ℕ Fault) (block' : Block) : Type 0 where
  pub out : length block.counters ≤ index → (result ≡ Err DamagedTable) × (block' ≡ block)
  pub if_less : index < length block.counters → slice_index block.counters index < by → (result ≡ Err Counter) × (block' ≡ block)
  pub if_enough : index < length block.counters → by ≤ slice_index block.counters index
      → (result ≡ Ok (slice_index block.counters index - by)) × (block' ≡ with_counter block index (slice_index block.counters index - by))

-- A cluster's refcount is lowered by `by`, in the block that the refcount table references for it. Without such a block the table is
-- damaged.
abbrev pub LowersCluster : {S : Type 0} → (S → StorageState) → TableValue → (cluster by : ℕ) → CachedFile S → Result ℕ Fault → CachedFile S
    → Type 0
LowersCluster state table cluster by old result new = MatchOption
    (referenced_block table (cluster / counters_of_block old.file.header.fields))
    ((result ≡ Err DamagedTable) × (new.caches ≡ old.caches) × (new.file ≡ old.file))
    (λ key. UsesBlock state key (LowersCounter (cluster % counters_of_block old.file.header.fields) by) old result new)

-- A cluster's refcount is greater, by `by` at least, than its references (in the file or in memory) and its list entries.
abbrev pub HasExcess : Metadata → (c by : ℕ) → Type 0
HasExcess m c by = referenced_at_all m c + waiting m c + by ≤ counted m c

-- The excess refcounts that a call takes. If it failed, it takes none.
abbrev pub lowered_by : Result ℕ Fault → (c by : ℕ) → ℕ → ℕ
lowered_by (Ok n) c by = many_at c by
lowered_by (Err fault) c by = λ _. 0

-- The first-free hint after the refcount of a cluster became n.
abbrev pub first_free_below : (n mark cluster : ℕ) → ℕ
first_free_below n mark cluster = if n == 0 then min mark cluster else mark

-- The call failed, or the cluster had the excess. If it had a resource error, the storage exposes its crash images and refused no change.
abbrev pub LowersExcess : Metadata → (c by : ℕ) → Result ℕ Fault → (old new : StorageState) → Type 0
LowersExcess m c by result old new = (HadNoResourceError result ⊎ NoChangeRefused old new) × OnOk result (HasExcess m c by)

-- The causes of a failed call. In a consistent image the table is damaged only if the refcount is 0, and the refcount is refused only if it
-- is less than `by`.
abbrev pub lowering_causes : (sound some enough loose : Type 0) → (before after : ℕ) → Causes
lowering_causes sound some enough loose before after =
    record (freeing_causes (sound × enough) loose before after) { damaged = sound × some → ⊥ }

-- The refcount of a cluster is lowered by `by`, to the result. If the cluster had that excess, a consistent image stays consistent and the
-- guest unchanged, in crash images, too. If the call fails, no refcount changes. The first-free hint becomes the cluster if it was greater
-- and the refcount is now 0.
pub record Lowers {S : Type 0} (state : S → StorageState) (cluster by : ℕ) (s : AllocatorState S) (result : Result ℕ Fault)
    (s' : AllocatorState S) : Type 0 where
  pub faults : HadNoResourceError result → IsFaultless (state s.file.image) (state s'.file.image)
  pub guest_unchanged : PreservesGuest (LowersExcess (metadata state s.image) cluster by result (state s.file.image) (state s'.file.image))
      (λ _. 0) (lowered_by result cluster by) (state s.file.image) (metadata state s.image) (state s'.file.image) (metadata state s'.image)
  pub counts : WhereKept state s.image (LowersExcess (metadata state s.image) cluster by result (state s.file.image) (state s'.file.image)
      → (c : ℕ) → counted (metadata state s'.image) c + lowered_by result cluster by c ≡ counted (metadata state s.image) c)
  pub lowered : WhereKept state s.image (IfOk result (λ n. n + by ≡ counted (metadata state s.image) cluster))
  pub marked : WhereKept state s.image (LowersExcess (metadata state s.image) cluster by result (state s.file.image) (state s'.file.image)
      → NoneFreeBefore (metadata state s.image) s.mark → NoneFreeBefore (metadata state s'.image) s'.mark)
  pub hint : IfOk result (λ n. s'.mark ≡ first_free_below n s.mark cluster)
  pub stays : OnErr result (s'.mark ≡ s.mark)
  pub header : s'.file.header ≡ s.file.header
  pub order : order_of s'.caches ≡ order_of s.caches
  -- The file never gets shorter, even on error.
  pub no_shorter : IsNoShorter (state s.file.image) (state s'.file.image)
  pub pins : PinsNothing (cached_in s.caches).blocks (cached_in s'.caches).blocks
  pub room : KeepsTables s.caches s'.caches
  pub cause : FailsFor (lowering_causes (KeepsWritesAndSound state s.image) (0 < counted (metadata state s.image) cluster)
      (by ≤ counted (metadata state s.image) cluster) (HasUnpinnedSlot s.caches) (state s.file.image).faults (state s'.file.image).faults)
      result
