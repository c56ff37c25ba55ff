-- The parts of the caches of L2 tables and refcount blocks that contracts use: their entries, write order and capacities. Also the caches
-- together with the image file.
use Rattle.std.specs.Prelude.{◌≡◌, map}
use Rattle.qcow2_alloc.specs.declared.cache.MetadataCaches.{MetadataCaches}
use Rattle.qcow2_alloc.specs.declared.cache.CacheDependency.{CacheDependency}
use Rattle.qcow2_alloc.specs.declared.file.ImageFile.{ImageFile}
use Rattle.qcow2_alloc.specs.Memory.{Cached, written_table}

-- The cached tables and blocks.
abbrev pub cached_in : {S : Type 0} → MetadataCaches S → Cached
cached_in caches = record { tables = caches.l2.slots.entries; blocks = caches.rb.slots.entries }

-- The write order of the two caches.
abbrev pub order_of : {S : Type 0} → MetadataCaches S → CacheDependency
order_of caches = caches.order

-- The caches and their image file.
pub record CachedFile (S : Type 0) : Type 0 where
  pub caches : MetadataCaches S
  pub file : ImageFile S

abbrev pub cached_file : {S : Type 0} → MetadataCaches S → ImageFile S → CachedFile S
cached_file caches file = record { caches = caches; file = file }

-- The capacities of the two caches are the same.
pub record HasRoomOf {S : Type 0} (old new : MetadataCaches S) : Type 0 where
  pub tables : new.l2.slots.cap ≡ old.l2.slots.cap
  pub blocks : new.rb.slots.cap ≡ old.rb.slots.cap

-- The capacities are the same, and so are the cached L2 tables, their order of use and their pins. Only dirty tables may have been written.
pub record KeepsTables {S : Type 0} (old new : MetadataCaches S) : Type 0 where
  pub tables : new.l2.slots.cap ≡ old.l2.slots.cap
  pub blocks : new.rb.slots.cap ≡ old.rb.slots.cap
  pub entries : map written_table (cached_in new).tables ≡ map written_table (cached_in old).tables
