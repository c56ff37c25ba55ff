-- Specifies how the whole guest clusters of a range are zeroed or discarded. One call clears the clusters that are in one L2 table.
use Rattle.std.specs.Prelude.{◌≡◌, ◌≢◌, ◌⊎◌, ℕ, ◌+◌, ◌-◌, ◌*◌, ◌/◌, ◌%◌, ◌^◌, ◌<◌, ◌≤◌, min, length, Bool, false, Some, None, IsTrue, IsSome, Result, Ok, Err, OnOk, IfOk, IfErr}
use Rattle.imago_storage.specs.Calls.{IsFaultless, CountsNotFallen}
use Rattle.imago_storage.specs.declared.fault.Fault.{Fault}
use Rattle.imago_storage.specs.declared.fault.Fault.TheVariants.{Memory, VersionLimit}
use Rattle.imago_storage.specs.declared.storage.Storage.{Ghosts}
use Rattle.imago_access.specs.Files as files
use Rattle.imago_access.specs.PartCalls.{PartCall, discards_to_any, discards_to_backing, discards_to_zero, ensures_zero}
use Rattle.imago_access.specs.Refusals.{own_refusal, unusable_fault}
use Rattle.imago_access.specs.Room.{IsWholeUnit}
use Rattle.qcow2_types.specs.Entries.{l2_table}
use Rattle.qcow2_types.specs.Header.{Fields, cluster_size, entries_of_cluster}
use Rattle.qcow2_alloc.specs.declared.cache.MetadataCaches.{MetadataCaches}
use Rattle.qcow2_alloc.specs.Causes.{HasCause}
use Rattle.qcow2_alloc.specs.Going.{IsNoShorter, HadNoResourceError, writing_causes}
use Rattle.qcow2_clusters.specs.Clearing.{AreUnder, IsPossible, clearing_setting}
use Rattle.qcow2_clusters.specs.Flushed.{clusters_state}
use Rattle.qcow2_clusters.specs.Setting.{SetsRun, StaysCached}
use Rattle.qcow2_clusters.specs.WritingBack.{without_tables}
use Rattle.qcow2_clusters.specs.declared.clearing.Clearing.{Clearing}
use Rattle.qcow2_clusters.specs.declared.clearing.Clearing.TheVariants.{GiveUp, Keep, Unmap}
use Rattle.qcow2_clusters.specs.declared.space.Space.{Space}
use Rattle.qcow2_image.specs.Allocating.{HasOwnTable, failed_by_resource_error, reserving_causes}
use Rattle.qcow2_image.specs.FreeSpace.{LacksPlaceForTable}
use Rattle.qcow2_image.specs.KeepsDisk.{KeepsDisk}
use Rattle.qcow2_image.specs.Leaking.{KeepsLeaks}
use Rattle.qcow2_image.specs.Looking.{place_of_table}
use Rattle.qcow2_image.specs.Preparing.{LeavesMarkedFailed}
use Rattle.qcow2_image.specs.Rooms.{IsWellFormed, rest_of}
use Rattle.qcow2_image.specs.Seen.{file_of, layer_of}
use Rattle.qcow2_image.specs.declared.clearing.Part.{Part}
use Rattle.qcow2_image.specs.declared.qcow2.Qcow2.{Qcow2}
use Rattle.qcow2_image.specs.declared.tables.Tables.{Tables}

-- The clearing of L2 entries that a driver call makes.
abbrev pub clearing_of : PartCall → Clearing
clearing_of ensures_zero = Keep
clearing_of discards_to_zero = GiveUp
clearing_of discards_to_any = GiveUp
clearing_of discards_to_backing = Unmap

-- Whole guest clusters of a range that ends at `end` are before guest cluster `last`, and the range reaches the end of each cluster before it.
-- The last cluster of the disk may be shorter.
pub record IsWholeEnd (h : Fields) (end last : ℕ) : Type 0 where
  pub reached : (u : ℕ) → u < last → (u * cluster_size h < h.size) × (min (u * cluster_size h + cluster_size h) h.size ≤ end)
  pub before : (u : ℕ) → u * cluster_size h < h.size → min (u * cluster_size h + cluster_size h) h.size ≤ end → u < last

-- The part of a range that one call clears. It starts at the first cluster boundary from `offset` on, and all its guest clusters are whole
-- clusters of the range. It ends with the last whole cluster of the range, or with the L2 table. A cluster is whole if the range covers it
-- up to its end or the end of the disk.
pub record IsWholePart (h : Fields) (offset n : ℕ) (part : Part) : Type 0 where
  pub from : offset ≤ part.guest * cluster_size h
  pub near : part.guest * cluster_size h < offset + cluster_size h
  pub row : part.guest % entries_of_cluster h + part.count ≤ entries_of_cluster h
  pub whole : (d : ℕ) → d < part.count → IsWholeUnit (cluster_size h) h.size offset n (part.guest + d)
  pub last : ((u : ℕ) → IsWholeUnit (cluster_size h) h.size offset n u → u < part.guest + part.count)
      ⊎ (part.guest % entries_of_cluster h + part.count ≡ entries_of_cluster h)
  -- Its start and length in bytes. A boundary from 2^64 on doesn't fit, and then the part is empty.
  pub start : part.start ≡ min (part.guest * cluster_size h) (2 ^ 64 - 1)
  pub fits : 0 < part.count → part.guest * cluster_size h < 2 ^ 64
  pub end : 0 < part.count → part.start + part.length ≡ min ((part.guest + part.count) * cluster_size h) h.size
  pub empty : part.count ≡ 0 → part.length ≡ 0
  -- The bytes from its start to the end of the last whole cluster of the range.
  pub last_whole : ℕ
  pub whole_end : IsWholeEnd h (offset + n) last_whole
  pub rest : 0 < part.count → part.start + part.rest ≡ min (last_whole * cluster_size h) h.size

-- The entries of guest clusters are cleared in their L2 table, which then is the only cached table. What they referenced is on the list of
-- clusters to free.
pub record ClearsWith {S : Type 0} (g : Ghosts S) (how : Clearing) (table guest n : ℕ) (old : Tables S g) (space : Space)
    (result : Result Unit Fault) (new : Tables S g) : Type 0 where
  pub caches : MetadataCaches S
  pub after : Space
  pub clears : let m = rest_of g old space in SetsRun g.state guest n (AreUnder n m table guest) (clearing_setting how m guest n)
      (clusters_state old.file caches space) result (clusters_state new.file (without_tables new.caches) after)
  pub leaves_table : let m = rest_of g old space in StaysCached g.state table (AreUnder n m table guest)
      (clusters_state old.file caches space) result (clusters_state new.file new.caches after)
  pub space_known : new.space ≡ Some after

-- Memory for the list of clusters to free couldn't be reserved, and nothing has changed.
abbrev pub IsUnreserved : {S : Type 0} {g : Ghosts S} → Tables S g → Result Unit Fault → Tables S g → Type 0
IsUnreserved old result new = (result ≡ Err Memory) × (new ≡ old)

-- The entries of guest clusters in the L2 table at `table` are cleared, if the free space is loaded. First memory is reserved for what they
-- reference. In every case the file gets no shorter.
pub record ClearsTables {S : Type 0} (g : Ghosts S) (how : Clearing) (table guest n : ℕ) (old : Tables S g) (result : Result Unit Fault)
    (new : Tables S g) : Type 0 where
  pub shape : (g.state new.file.image).shape ≡ (g.state old.file.image).shape
  pub counts_not_fallen : CountsNotFallen (g.state old.file.image) (g.state new.file.image)
  pub faults : HadNoResourceError result → IsFaultless (g.state old.file.image) (g.state new.file.image)
  pub header : new.file.header ≡ old.file.header
  pub no_shorter : IsNoShorter (g.state old.file.image) (g.state new.file.image)
  pub l1 : new.l1 ≡ old.l1
  pub known : (space : Space) → old.space ≡ Some space → IsUnreserved old result new ⊎ ClearsWith g how table guest n old space result new
  pub cause : IfErr result (HasCause (writing_causes ⊥ (g.state old.file.image).faults (g.state new.file.image).faults))

-- The flag `now` is set once an entry may have changed. While it isn't set, nothing has changed.
abbrev pub BeginsTables : {S : Type 0} {g : Ghosts S} → (was : Bool) → Tables S g → (now : Bool) → Tables S g → Type 0
BeginsTables was old now new = now ≡ false → (was ≡ false) × (new ≡ old)

-- Like `ClearsTables`, for an image. Only a resource error may set it to failed.
pub record ClearsClusters {S : Type 0} (g : Ghosts S) (how : Clearing) (table guest n : ℕ) (old : Qcow2 S g) (result : Result Unit Fault)
    (new : Qcow2 S g) : Type 0 where
  pub clears : ClearsTables g how table guest n old.tables result new.tables
  pub begun : Bool
  pub others : new ≡ record old { tables = new.tables; failed = failed_by_resource_error result begun old.failed }

-- The guest cluster has an L2 table that isn't shared, and the free space is loaded. The guest reads the same bytes as before.
pub record ReadiesTable {S : Type 0} (g : Ghosts S) (guest : ℕ) (old : Qcow2 S g) (result : Result ℕ Fault) (new : Qcow2 S g) : Type 0 where
  pub keeps : KeepsDisk g (files.HadNoResourceError result) old new
  pub leaks : IsWellFormed g old → files.HadNoResourceError result → KeepsLeaks g old new
  pub known : OnOk result (IsSome new.tables.space)
  pub table_linked : IsWellFormed g old → let h = new.tables.file.header.fields in
      IfOk result (λ t. (t ≢ 0) × (guest / entries_of_cluster h < h.l1_entries)
      × (l2_table (file_of g new.tables) h (guest / entries_of_cluster h) ≡ t * cluster_size h))
  pub own : IsWellFormed g old → IfOk result (λ t. HasOwnTable g guest new.tables)
  pub cause : IfErr result (HasCause (reserving_causes g (LacksPlaceForTable g guest old.tables new.tables) old new))

-- Unmapping guest clusters without an L2 table does nothing.
pub record SkipsPart {S : Type 0} (g : Ghosts S) (how : Clearing) (guest : ℕ) (old : Qcow2 S g) (result : Result Unit Fault) (new : Qcow2 S g)
    : Type 0 where
  pub unmaps : how ≡ Unmap
  pub none : place_of_table old.tables.l1.raw_entries old.tables.file.header.fields.cluster_bits guest ≡ None
  pub ok : result ≡ Ok tt
  pub same : new ≡ old

-- The call failed before an entry was cleared.
pub record RefusesTable {S : Type 0} (g : Ghosts S) (guest : ℕ) (old : Qcow2 S g) (result : Result Unit Fault) (new : Qcow2 S g) : Type 0 where
  pub fault : Fault
  pub err : result ≡ Err fault
  pub readies : ReadiesTable g guest old (Err fault) new
  pub marked : LeavesMarkedFailed g old new fault

-- The guest clusters got an L2 table that isn't shared, and then their entries were cleared.
pub record ChangesPart {S : Type 0} (g : Ghosts S) (how : Clearing) (guest n : ℕ) (old : Qcow2 S g) (result : Result Unit Fault)
    (new : Qcow2 S g) : Type 0 where
  pub table : ℕ
  pub middle : Qcow2 S g
  pub readies : ReadiesTable g guest old (Ok table) middle
  pub clears : ClearsClusters g how table guest n middle result new
  pub marked : IfErr result (LeavesMarkedFailed g old new)

-- `n` consecutive guest clusters of one L2 table are cleared.
abbrev pub ClearsPart : {S : Type 0} (g : Ghosts S) → (how : Clearing) → (guest n : ℕ) → Qcow2 S g → Result Unit Fault → Qcow2 S g → Type 0
ClearsPart g how guest n old result new =
    SkipsPart g how guest old result new ⊎ (RefusesTable g guest old result new ⊎ ChangesPart g how guest n old result new)

-- The result of a call that clears this part.
abbrev pub part_answer : Part → Result Unit Fault → Result (ℕ × ℕ) Fault
part_answer part (Ok done) = Ok (part.start, part.length)
part_answer part (Err fault) = Err fault

-- Nothing is done: the call has an early error, or the range is empty.
pub record ClearsNothing {S : Type 0} (g : Ghosts S) (offset n : ℕ) (old : Qcow2 S g) (result : Result (ℕ × ℕ) Fault) (new : Qcow2 S g)
    : Type 0 where
  pub same : new ≡ old
  pub why : ((fault : Fault) × (own_refusal (layer_of g old) offset n ≡ Some fault) × (result ≡ Err fault))
      ⊎ ((n ≡ 0) × (unusable_fault (layer_of g old) ≡ None) × (result ≡ Ok (offset, 0)))

-- The range may be changed: the call has no early error.
pub record MayClear {S : Type 0} (g : Ghosts S) (offset n : ℕ) (old : Qcow2 S g) : Type 0 where
  pub unrefused : own_refusal (layer_of g old) offset n ≡ None
  pub writable : IsTrue old.mode.writable
  pub inside : offset + n ≤ old.tables.file.header.fields.size
  pub fits : offset + n < 2 ^ 64
  pub runs : old.failed ≡ false
  pub any : 0 < n

-- The image's version has no entries of zeroes, and nothing is done.
pub record RefusesVersion {S : Type 0} (g : Ghosts S) (how : Clearing) (offset n : ℕ) (old : Qcow2 S g) (result : Result (ℕ × ℕ) Fault)
    (new : Qcow2 S g) : Type 0 where
  pub may : MayClear g offset n old
  pub version : IsPossible how old.tables.file.header.fields.version → ⊥
  pub err : result ≡ Err VersionLimit
  pub same : new ≡ old

-- The part of the range is cleared. If it has no guest cluster, nothing is done.
pub record ClearsWhole {S : Type 0} (g : Ghosts S) (how : Clearing) (offset n : ℕ) (old : Qcow2 S g) (result : Result (ℕ × ℕ) Fault)
    (new : Qcow2 S g) : Type 0 where
  pub may : MayClear g offset n old
  pub version : IsPossible how old.tables.file.header.fields.version
  pub part : Part
  pub is_part : IsWholePart old.tables.file.header.fields offset n part
  pub answer : Result Unit Fault
  pub done : ((part.count ≡ 0) × (answer ≡ Ok tt) × (new ≡ old)) ⊎ ((0 < part.count) × ClearsPart g how part.guest part.count old answer new)
  pub is_answer : result ≡ part_answer part answer

-- The call unmaps guest clusters, and the L1 table has no entry for the first one. So none of the later ones
-- has an L1 entry either, and all are unmapped already. Nothing is done, and the part reaches to the end of the last whole cluster of the range.
pub record SkipsRest {S : Type 0} (g : Ghosts S) (how : Clearing) (offset n : ℕ) (old : Qcow2 S g) (result : Result (ℕ × ℕ) Fault)
    (new : Qcow2 S g) : Type 0 where
  pub may : MayClear g offset n old
  pub unmaps : how ≡ Unmap
  pub part : Part
  pub is_part : IsWholePart old.tables.file.header.fields offset n part
  pub some : 0 < part.count
  pub past_l1 : length old.tables.l1.raw_entries ≤ part.guest / entries_of_cluster old.tables.file.header.fields
  pub ok : result ≡ Ok (part.start, part.rest)
  pub same : new ≡ old

-- A part of the range is cleared, and the result is that part.
abbrev pub ClearsRange : {S : Type 0} (g : Ghosts S) → (how : Clearing) → (offset n : ℕ) → Qcow2 S g → Result (ℕ × ℕ) Fault → Qcow2 S g → Type 0
ClearsRange g how offset n old result new =
    ClearsNothing g offset n old result new ⊎ (RefusesVersion g how offset n old result new
    ⊎ (SkipsRest g how offset n old result new ⊎ ClearsWhole g how offset n old result new))
