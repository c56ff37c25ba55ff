-- The state of an image in a call of the allocator, and the invariant that holds for it.
use Rattle.std.specs.Prelude.{◌≡◌, ℕ, IsTrue, List}
use Rattle.imago_storage.specs.State.{StorageState}
use Rattle.qcow2_types.specs.Pending.{FreeEntry}
use Rattle.qcow2_metadata.specs.Tables.{TableValue}
use Rattle.qcow2_alloc.specs.declared.allocation.Allocator.{Allocator}
use Rattle.qcow2_alloc.specs.declared.cache.CacheDependency.TheVariants.{L2DependsOnRb}
use Rattle.qcow2_alloc.specs.declared.cache.MetadataCaches.{MetadataCaches}
use Rattle.qcow2_alloc.specs.declared.file.ImageFile.{ImageFile}
use Rattle.qcow2_alloc.specs.Allocators.{first_free_of, metadata_of, table_of}
use Rattle.qcow2_alloc.specs.Caches.{order_of}
use Rattle.qcow2_alloc.specs.FreeList.{FreeList}
use Rattle.qcow2_alloc.specs.GuestView.{Metadata, IsSound}

-- The refcount table in memory, the caches, the file with its header, and the free list.
pub record ImageState (S : Type 0) : Type 0 where
  pub table : TableValue
  pub caches : MetadataCaches S
  pub file : ImageFile S
  pub pending : List FreeEntry

abbrev pub image_state : {S : Type 0} → TableValue → MetadataCaches S → ImageFile S → List FreeEntry → ImageState S
image_state table caches file pending = record { table = table; caches = caches; file = file; pending = pending }

-- The image's state, from the arguments of a call.
abbrev pub seen : {S : Type 0} → Allocator → MetadataCaches S → ImageFile S → FreeList → ImageState S
seen allocator caches file list = image_state (table_of allocator) caches file list.entries

-- The image and the first-free hint (`mark`), where the search for free clusters starts.
pub record AllocatorState (S : Type 0) : Type 0 where
  pub image : ImageState S
  pub open image use *
  pub mark : ℕ

abbrev pub with_first_free : {S : Type 0} → ImageState S → ℕ → AllocatorState S
with_first_free image mark = record { image = image; mark = mark }

abbrev pub allocator_state : {S : Type 0} → Allocator → MetadataCaches S → ImageFile S → FreeList → AllocatorState S
allocator_state allocator caches file list = with_first_free (seen allocator caches file list) (first_free_of allocator)

-- The image, as contracts see it.
abbrev pub metadata : {S : Type 0} → (S → StorageState) → ImageState S → Metadata
metadata state s = metadata_of state s.file s.caches s.table s.pending

-- An image with its first-free hint.
pub record MetadataWithFirstFree : Type 0 where
  pub image : Metadata
  pub open image use *
  pub mark : ℕ

abbrev pub metadata_with_first_free : {S : Type 0} → (S → StorageState) → AllocatorState S → MetadataWithFirstFree
metadata_with_first_free state s = record { image = metadata state s.image; mark = s.mark }

-- The image is consistent, in a storage that keeps what is written.
abbrev pub KeepsWritesAndSound : {S : Type 0} → (S → StorageState) → ImageState S → Type 0
KeepsWritesAndSound state s = IsTrue (state s.file.image).shape.keeps × IsSound (metadata state s)

-- The image is consistent, in a storage that keeps what is written, and blocks are written before tables.
abbrev pub IsGuarded : {S : Type 0} → (S → StorageState) → ImageState S → Type 0
IsGuarded state s = IsTrue (state s.file.image).shape.keeps × (order_of s.caches ≡ L2DependsOnRb) × IsSound (metadata state s)

-- A fact that holds if the image is consistent, in a storage that keeps what is written.
abbrev pub WhereKept : {S : Type 0} → (S → StorageState) → ImageState S → Type 0 → Type 0
WhereKept state s fact = IsTrue (state s.file.image).shape.keeps → IsSound (metadata state s) → fact

-- A fact that holds if the image is consistent, in a storage that keeps what is written, and blocks are written before tables.
abbrev pub WhereGuarded : {S : Type 0} → (S → StorageState) → ImageState S → Type 0 → Type 0
WhereGuarded state s fact = order_of s.caches ≡ L2DependsOnRb → IsTrue (state s.file.image).shape.keeps → IsSound (metadata state s) → fact
