-- The state of an image right after it was opened, and the reasons why it isn't opened.
use Rattle.std.specs.Prelude.{◌≡◌, ⊤, ℕ, Bool, true, false, not, ◌&&◌, ◌||◌, ◌==◌, List, [], ◌∷◌, Option, Some, None, IfSome, Ok, Err, Result, is_some}
use Rattle.imago_storage.specs.State.{MayFail, HasRisen, StorageState}
use Rattle.imago_storage.specs.declared.fault.Fault.{Fault}
use Rattle.imago_storage.specs.declared.fault.Fault.TheVariants.{DamagedTable, Memory, Storage, Unsupported}
use Rattle.imago_storage.specs.declared.storage.Storage.{Ghosts}
use Rattle.qcow2_types.specs.Bytes.{Bytes, be, bytes_of}
use Rattle.qcow2_types.specs.Header.{Fields, Header, Rule, first_fault, has_external_data, header_of, ◌and-then◌, ◌>>=◌}
use Rattle.qcow2_types.specs.Counts.{refcount_table_sound}
use Rattle.qcow2_types.specs.Entries.{l1_table_sound}
use Rattle.qcow2_alloc.specs.Allocators.{LoadsAllocator}
use Rattle.qcow2_alloc.specs.Caches.{cached_in, order_of}
use Rattle.qcow2_alloc.specs.declared.cache.CacheDependency.TheVariants.{Unset}
use Rattle.qcow2_clusters.specs.declared.space.Space.{Space}
use Rattle.qcow2_image.specs.Seen.{IsCacheCoherent}
use Rattle.qcow2_image.specs.declared.qcow2.Qcow2.{Qcow2}
use Rattle.qcow2_image.specs.declared.tables.Tables.{Tables}

-- The file starts with the magic number, and version 2 or 3.
abbrev pub is_qcow2 : Bytes → Bool
is_qcow2 f = (be f 0 4 == 0x5146_49fb) && ((be f 4 4 == 2) || (be f 4 4 == 3))

-- The rules after those on the header. The data is in this file, and each L1 entry is valid. For writing, each refcount table entry is
-- valid too.
abbrev pub rules_of_opening : Bool → Bytes → Fields → List Rule
rules_of_opening writable f h =
    (has_external_data h, Unsupported)
    ∷ (not (l1_table_sound f h), DamagedTable)
    ∷ (writable && not (refcount_table_sound f h), DamagedTable)
    ∷ []

-- The header with which a file is opened, read-only or for writing, or the first rule that it breaks.
unfoldable pub header_for : Bool → Bytes → Result Header Fault
header_for writable f = header_of writable f >>= λ H. first_fault (rules_of_opening writable f H.fields) and-then Ok H

-- The reasons why an image isn't opened: the first rule that it breaks, unless memory runs out or the storage fails.
abbrev pub WhyNotOpened : {S : Type 0} → (S → StorageState) → Bool → Bytes → Fault → Type 0
WhyNotOpened state writable f Memory = ⊤
WhyNotOpened state writable f Storage = MayFail state
WhyNotOpened state writable f fault = header_for writable f ≡ Err fault

-- The reasons why the free space of an image isn't loaded, which is only done for writing. A refcount table entry isn't valid, memory runs
-- out, or the storage fails.
abbrev pub WhyNoSpace : Bytes → Fields → (writable : Bool) → (before after : ℕ) → Fault → Type 0
WhyNoSpace f h writable before after DamagedTable = (writable ≡ true) × (refcount_table_sound f h ≡ false) × (after ≡ before)
WhyNoSpace f h writable before after Memory = after ≡ before
WhyNoSpace f h writable before after Storage = HasRisen before after
WhyNoSpace f h writable before after fault = ⊥

-- The free space right after opening: the refcount table for writing, otherwise nothing. The free list is empty.
pub record IsSpaceOpened (before : StorageState) (h : Fields) (writable : Bool) (space : Option Space) : Type 0 where
  pub known : is_some space ≡ writable
  pub loads : IfSome space (λ s. LoadsAllocator before h (Ok s.allocator) before)
  pub idle : IfSome space (λ s. s.to_free.entries ≡ [])

-- The storage is unchanged, memory is what its file says, and nothing is cached. The caches have slots for these numbers of tables and
-- blocks.
pub record IsJustOpened {S : Type 0} (g : Ghosts S) (before : StorageState) (writable : Bool) (l2_tables refcount_blocks : ℕ)
    (t : Tables S g) : Type 0 where
  pub same : g.state t.file.image ≡ before
  pub allowed : header_for writable (bytes_of before.bytes) ≡ Ok t.file.header
  pub seen : IsCacheCoherent g t
  pub empty : cached_in t.caches ≡ record { tables = []; blocks = [] }
  pub unordered : order_of t.caches ≡ Unset
  pub space : IsSpaceOpened before t.file.header.fields writable t.space
  pub tables : t.caches.l2.slots.cap ≡ l2_tables
  pub blocks : t.caches.rb.slots.cap ≡ refcount_blocks

-- True if the image reads unallocated bytes from layers below. The caller's choice counts, otherwise the header has a backing file name.
abbrev pub is_backed : Option Bool → Header → Bool
is_backed (Some backed) H = backed
is_backed None H = is_some H.backing_name

-- The image was just opened, with this mode and number. It hasn't failed, and no mapping is prepared.
pub record IsOpenedAs {S : Type 0} (g : Ghosts S) (before : StorageState) (writable : Bool) (backing : Option Bool)
    (number l2_tables refcount_blocks : ℕ) (d : Qcow2 S g) : Type 0 where
  pub tables : IsJustOpened g before writable l2_tables refcount_blocks d.tables
  pub writable_is : d.mode.writable ≡ writable
  pub backing_is : d.mode.backing ≡ is_backed backing d.tables.file.header
  pub number_is : d.number ≡ number
  pub runs : d.failed ≡ false
  pub free : d.unspent ≡ None
