-- Specifies how the clusters on the free list are freed: their refcounts are decremented. `mark` is the first-free hint, where searches for
-- free clusters start.
use Rattle.std.specs.Prelude.{◌≡◌, ◌⊎◌, ⊤, ℕ, ◌<◌, ◌≤◌, Result, OnOk, Bool, List, [], ◌∷◌, Some, length, nat_eq, not, true, false}
use Rattle.std.specs.List.{filter}
use Rattle.imago_storage.specs.State.{StorageState}
use Rattle.imago_storage.specs.Calls.{IsFaultless}
use Rattle.imago_storage.specs.declared.fault.Fault.{Fault}
use Rattle.qcow2_types.specs.Pending.{FreeEntry}
use Rattle.qcow2_metadata.specs.Tables.{TableValue}
use Rattle.qcow2_alloc.specs.declared.cache.CacheDependency.{CacheDependency}
use Rattle.qcow2_alloc.specs.declared.cache.CacheDependency.TheVariants.{RbDependsOnL2}
use Rattle.qcow2_alloc.specs.declared.cache.MetadataCaches.{MetadataCaches}
use Rattle.qcow2_alloc.specs.Allocators.{referenced_block}
use Rattle.qcow2_alloc.specs.Caches.{cached_in, KeepsTables}
use Rattle.qcow2_alloc.specs.Causes.{Causes, FailsFor}
use Rattle.qcow2_alloc.specs.Finding.{pinned_among, pinned_in, PinsNothing}
use Rattle.qcow2_alloc.specs.FreeList.{entry_at, listed, shortened}
use Rattle.qcow2_alloc.specs.Going.{IsNoShorter, HadNoResourceError}
use Rattle.qcow2_alloc.specs.GuestView.{Metadata, PreservesGuest, counted, metadata_in}
use Rattle.qcow2_alloc.specs.WellFormedness.{NoChangeRefused}
use Rattle.qcow2_alloc.specs.State.{AllocatorState, metadata, KeepsWritesAndSound, WhereKept}

-- Fewer blocks are pinned than the cache can hold, so any block can be loaded.
abbrev pub HasUnpinnedSlot : {S : Type 0} → MetadataCaches S → Type 0
HasUnpinnedSlot caches = pinned_in (cached_in caches).blocks < caches.rb.slots.cap

-- An entry of the refcount table references the block in this cluster.
abbrev pub ReferencesBlock : TableValue → ℕ → Type 0
ReferencesBlock table cluster = (i : ℕ) × (referenced_block table i ≡ Some cluster)

-- A block can be loaded, and either no block is pinned, or (`any`) the refcount table references each that is pinned. So no pinned block is
-- at the cluster of a new block.
pub record HasUnpinnedRoom {S : Type 0} (table : TableValue) (caches : MetadataCaches S) (any : Bool) : Type 0 where
  pub room : HasUnpinnedSlot caches
  pub named : (key : ℕ) → 0 < pinned_among (nat_eq key) (cached_in caches).blocks → (any ≡ true) × ReferencesBlock table key

-- `loose` holds for some `any`, which may be true only in a consistent image.
abbrev pub IsUnbarred : Type 0 → (Bool → Type 0) → Type 0
IsUnbarred sound loose = (any : Bool) × (any ≡ true → sound) × loose any

-- No cluster before the first-free hint is free.
abbrev pub NoneFreeBefore : Metadata → ℕ → Type 0
NoneFreeBefore m mark = (c : ℕ) → c < mark → 0 < counted m c

-- The causes of a failed free. In a consistent image (`sound`) no table is damaged and no refcount is 0. The cache is full only if `loose`
-- doesn't hold.
abbrev pub freeing_causes : (sound loose : Type 0) → (before after : ℕ) → Causes
freeing_causes sound loose before after =
    record { damaged = sound → ⊥; counter = sound → ⊥; full = loose → ⊥; limit = λ number. ⊥; before = before; after = after }

-- Like `freeing_causes`, for calls that increment refcounts. The cache is full only if `IsUnbarred` doesn't hold.
abbrev pub counting_causes : (sound : Type 0) → (loose : Bool → Type 0) → (before after : ℕ) → Causes
counting_causes sound loose before after = freeing_causes sound (IsUnbarred sound loose) before after

-- An entry may be freed: it is metadata, or tables are written before blocks.
abbrev pub MayFree : CacheDependency → FreeEntry → Type 0
MayFree order e = (e.metadata ≡ true) ⊎ (order ≡ RbDependsOnL2)

-- The call had no resource error; or the storage exposes its crash images and refused no change.
abbrev pub NoErrorOrNoChangeRefused : Result Unit Fault → StorageState → StorageState → Type 0
NoErrorOrNoChangeRefused result old new = HadNoResourceError result ⊎ NoChangeRefused old new

-- Clusters are freed, and the list gets shorter by them. The first-free hint stays, or becomes one of these clusters.
pub record Frees {S : Type 0} (state : S → StorageState) (s : AllocatorState S) (result : Result Unit Fault)
    (s' : AllocatorState S) : Type 0 where
  pub faults : HadNoResourceError result → IsFaultless (state s.file.image) (state s'.file.image)
  -- In a consistent image, each cluster's refcount minus its references and its entries on the list stays the same.
  pub guest_unchanged : PreservesGuest (NoErrorOrNoChangeRefused result (state s.file.image) (state s'.file.image)) (λ _. 0) (λ _. 0) (state s.file.image)
      (metadata state s.image) (state s'.file.image) (metadata state s'.image)
  pub marked : WhereKept state s.image
      (NoErrorOrNoChangeRefused result (state s.file.image) (state s'.file.image) → NoneFreeBefore (metadata state s.image) s.mark
      → NoneFreeBefore (metadata state s'.image) s'.mark)
  pub lower : s'.mark ≤ s.mark
  pub fallen : (s'.mark ≡ s.mark) ⊎ (listed s'.pending s'.mark < listed s.pending s'.mark)
  pub header : s'.file.header ≡ s.file.header
  -- The file never gets shorter, even on error.
  pub no_shorter : IsNoShorter (state s.file.image) (state s'.file.image)
  pub pins : PinsNothing (cached_in s.caches).blocks (cached_in s'.caches).blocks
  pub room : KeepsTables s.caches s'.caches
  pub less : (c : ℕ) → listed s'.pending c ≤ listed s.pending c
  pub fewer : length s'.pending ≤ length s.pending
  pub cause : FailsFor (freeing_causes (KeepsWritesAndSound state s.image) (HasUnpinnedSlot s.caches) (state s.file.image).faults
      (state s'.file.image).faults) result

-- The entries of guest data.
abbrev pub data_in : List FreeEntry → List FreeEntry
data_in entries = filter (λ e. not e.metadata) entries

-- The first list consists of entries of the second, in the same order.
abbrev pub IsSublist : List FreeEntry → List FreeEntry → Type 0
IsSublist [] es = ⊤
IsSublist (x ∷ xs) [] = ⊥
IsSublist (x ∷ xs) (e ∷ es) = ((x ≡ e) × IsSublist xs es) ⊎ IsSublist (x ∷ xs) es

-- The rest of a list after some entries were freed: one of the entries that are left may have lost its last clusters.
pub record IsRest (old left : List FreeEntry) : Type 0 where
  pub kept_entries : List FreeEntry
  pub kept_from_old : IsSublist kept_entries old
  pub index : ℕ
  pub done : ℕ
  pub short : left ≡ shortened kept_entries index done
  pub more : (done ≡ 0) ⊎ (done < (entry_at kept_entries index).count)

-- The rest of a list if metadata is freed first: while an entry of metadata is left, all entries of guest data are.
pub record IsRestInTurn (old left : List FreeEntry) : Type 0 where
  pub remains : IsRest old left
  pub first : (metadata_in left ≡ []) ⊎ (data_in left ≡ data_in old)

-- The write order after a free: as before, or tables first. It stays if no guest data was on the list, if guest data is in an external
-- file, or if entries of metadata are left. Otherwise tables come first after success.
pub record OrdersFreeing (external : Bool) (pending left : List FreeEntry) (old : CacheDependency) (result : Result Unit Fault)
    (new : CacheDependency) : Type 0 where
  pub either : (new ≡ old) ⊎ (new ≡ RbDependsOnL2)
  pub order_unchanged : (external ≡ true) ⊎ ((data_in pending ≡ []) ⊎ (metadata_in left ≡ [] → ⊥)) → new ≡ old
  pub announced : external ≡ false → (data_in pending ≡ [] → ⊥) → OnOk result (new ≡ RbDependsOnL2)
