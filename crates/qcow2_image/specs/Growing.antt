-- Specifies how the new guest clusters of a longer disk are prepared, so that they read as zeroes. This is done before the size changes.
use Rattle.std.specs.Prelude.{◌≡◌, ◌≢◌, ◌⊎◌, ⊤, ℕ, ◌+◌, ◌-◌, ◌*◌, ◌/◌, ◌%◌, ◌<◌, ◌≤◌, List, Option, None, Some, Bool, Vec, true, false, max, min, slice_index, Result, Ok, Err, IfOk, IfErr, OnOk, OnErr, IsFalse, IsSome, IsTrue, ◌^◌}
use Rattle.std.specs.declared.alloc.Global.{Global}
use Rattle.imago_storage.specs.Calls.{CountsNotFallen, IsFaultless}
use Rattle.imago_storage.specs.Disk.{Value, barred, byte, damaged_place}
use Rattle.imago_storage.specs.Passing.{UnrefusedCrashImages}
use Rattle.imago_storage.specs.declared.fault.Fault.{Fault}
use Rattle.imago_storage.specs.declared.fault.Fault.TheVariants.{Barred, DamagedTable, Limit, ReadOnly, Unsupported, VersionLimit}
use Rattle.imago_storage.specs.declared.storage.PreallocateMode.TheVariants as stores
use Rattle.imago_storage.specs.declared.storage.Storage.{Ghosts}
use Rattle.imago_access.specs.Chain.{at}
use Rattle.imago_access.specs.Changes.{asking}
use Rattle.imago_access.specs.Files.{HadNoResourceError, IsNotResourceError}
use Rattle.imago_access.specs.Going.{LookupCallBelow}
use Rattle.imago_access.specs.Layer.{Layer, own, through}
use Rattle.imago_access.specs.Stops.{GivesNone, Left}
use Rattle.imago_access.specs.declared.format.PreallocateMode.{PreallocateMode}
use Rattle.imago_access.specs.declared.format.PreallocateMode.TheVariants as ways
use Rattle.imago_access.specs.declared.driver_model.LayersBelowModel.{Ghosts as GhostsBelow}
use Rattle.qcow2_types.specs.Entries.{entry, l2_table}
use Rattle.qcow2_types.specs.Header.{Fields, cluster_size, entries_of_cluster}
use Rattle.qcow2_metadata.specs.Places.{IsAddressable}
use Rattle.qcow2_alloc.specs.Causes.{HasCause}
use Rattle.qcow2_clusters.specs.Storing.{ReachesEnd, AreReserved, storing_causes}
use Rattle.qcow2_image.specs.Allocating.{HasOwnTable, KeepsTop, allocation_causes, reserving_causes, shown_of}
use Rattle.qcow2_image.specs.Filling.{Fills, RefusesCopy}
use Rattle.qcow2_image.specs.FreeSpace.{LacksFreeRun, enough_for_run}
use Rattle.qcow2_image.specs.ImageLayer.{blank_of, cell_by}
use Rattle.qcow2_image.specs.KeepsDisk.{HasSameFormat, KeepsDisk, value_in}
use Rattle.qcow2_image.specs.Leaking.{KeepsLeaks, KeepsLeaksBut, reserved_by}
use Rattle.qcow2_image.specs.Preparing.{LacksPlaceBeside, LeavesMarkedFailed}
use Rattle.qcow2_image.specs.Resizing.{LacksL1, ResizesDisk}
use Rattle.qcow2_image.specs.Rooms.{IsWellFormed, is_sound, rest_of}
use Rattle.qcow2_image.specs.Seen.{file_of, layer_of}
use Rattle.qcow2_image.specs.Steps.{KeepsImage}
use Rattle.qcow2_image.specs.declared.allocating.Placed.{Placed}
use Rattle.qcow2_image.specs.declared.allocating.Shown.{Shown}
use Rattle.qcow2_image.specs.declared.allocating.Shown.TheVariants as shown
use Rattle.qcow2_image.specs.declared.preallocating.NewClusters.{NewClusters}
use Rattle.qcow2_image.specs.declared.preallocating.NewClusters.TheVariants.{Data, Zero}
use Rattle.qcow2_image.specs.declared.qcow2.Qcow2.{Qcow2}
use Rattle.qcow2_clusters.specs.declared.space.Space.{Space}

-- `x` is from `first` on, and before `last`.
abbrev pub IsWithin : (first last x : ℕ) → Type 0
IsWithin first last x = (first ≤ x) × (x < last)

-- A byte of these guest clusters may have a value that `given` allows.
abbrev pub GivesWithin : (first last : ℕ) → (given : ℕ → Value → Type 0) → Layer → ℕ → Value → Type 0
GivesWithin first last given layer p v = IsWithin first last (p / layer.fixed.unit) × given p v

-- The byte is 0.
abbrev pub GivesZero : ℕ → Value → Type 0
GivesZero p v = v ≡ byte 0

-- Entries of guest clusters from `first` to before `last` may have been set, so that their bytes have values that `given` allows. A crash
-- image reads as before, or has such values. The claims on the disk need `sure`. If `ok` holds, the call had no resource error.
pub record SetsEntries {S : Type 0} (g : Ghosts S) (sure ok : Type 0) (first last : ℕ) (given : ℕ → Value → Type 0) (old new : Qcow2 S g)
    : Type 0 where
  pub mode : new.mode ≡ old.mode
  pub number : new.number ≡ old.number
  pub unspent : new.unspent ≡ old.unspent
  pub shape : (g.state new.tables.file.image).shape ≡ (g.state old.tables.file.image).shape
  pub counts_not_fallen : CountsNotFallen (g.state old.tables.file.image) (g.state new.tables.file.image)
  pub failed : IsTrue old.failed → IsTrue new.failed
  pub runs : ok → new.failed ≡ old.failed
  pub size : new.tables.file.header.fields.size ≡ old.tables.file.header.fields.size
  pub bits : new.tables.file.header.fields.cluster_bits ≡ old.tables.file.header.fields.cluster_bits
  pub version : new.tables.file.header.fields.version ≡ old.tables.file.header.fields.version
  pub format : HasSameFormat old.tables.file.header new.tables.file.header
  pub faults : ok → IsFaultless (g.state old.tables.file.image) (g.state new.tables.file.image)
  pub known : sure → ok → IsSome old.tables.space → IsSome new.tables.space
  pub crash_images : sure → (below : List Layer)
      → UnrefusedCrashImages (Left below (layer_of g old) (g.state old.tables.file.image).bytes is_sound
      (layer_of g old).size (layer_of g old).size (GivesWithin first last given (layer_of g old)))
      (g.state old.tables.file.image) (g.state new.tables.file.image)
  pub well_formed : sure → ok → IsWellFormed g new
  pub values : sure → ok → (p : ℕ) → (value_in g new.tables p ≡ value_in g old.tables p)
      ⊎ (IsWithin first last (p / cluster_size old.tables.file.header.fields)
      × ((v : Value) × (value_in g new.tables p ≡ Some v) × given p v))
  -- Guest clusters past the end of the disk don't show.
  pub layer : sure → ok → old.tables.file.header.fields.size ≤ first * cluster_size old.tables.file.header.fields
      → layer_of g new ≡ layer_of g old
  pub leaks : sure → ok → KeepsLeaks g old new

-- The bytes of guest clusters from `first` to before `last` are 0 by their entries.
abbrev pub AreZeroes : {S : Type 0} (g : Ghosts S) → (first last : ℕ) → Qcow2 S g → Type 0
AreZeroes g first last d = (p : ℕ) → IsWithin first last (p / cluster_size d.tables.file.header.fields) → value_in g d.tables p ≡ Some (byte 0)

-- The L2 table of the guest cluster is in this cluster, and nothing else references it. The free space is loaded.
pub record HasTableReady {S : Type 0} (g : Ghosts S) (guest table : ℕ) (d : Qcow2 S g) : Type 0 where
  pub well_formed : IsWellFormed g d
  pub known : IsSome d.tables.space
  pub table_linked : let h = d.tables.file.header.fields in (table ≢ 0) × (guest / entries_of_cluster h < h.l1_entries)
      × (l2_table (file_of g d.tables) h (guest / entries_of_cluster h) ≡ table * cluster_size h)
  pub own : HasOwnTable g guest d.tables

-- Zeroes are stored in at most `n` newly allocated, consecutive clusters. The guest reads the same bytes as before.
pub record StoresZeroes {S : Type 0} (g : Ghosts S) (n : ℕ) (old : Qcow2 S g) (result : Result Placed Fault) (new : Qcow2 S g) : Type 0 where
  pub keeps : KeepsDisk g (HadNoResourceError result) old new
  pub leaks : IsWellFormed g old → HadNoResourceError result → KeepsLeaksBut g (reserved_by result) old new
  pub top : KeepsTop g (IsWellFormed g old × HadNoResourceError result) old new
  pub unkept : IfOk result (λ r. r.is_kept ≡ false)
  pub many : IfOk result (λ r. (0 < r.count) × (r.count ≤ n))
  pub named : IfOk result (λ r. (r.host ≢ 0) × IsAddressable old.tables.file.header.fields.cluster_bits (r.host + (r.count - 1)))
  pub reserved : IsWellFormed g old → IfOk result (λ r. (space : Space) × (new.tables.space ≡ Some space)
      × AreReserved r.count (rest_of g new.tables space) r.host × (0 < space.to_free.held))
  pub reaches : IfOk result (λ r. ReachesEnd g.state r.host r.count old.tables.file new.tables.file)
  pub zeroed : IsWellFormed g old → IfOk result (λ r. (q : ℕ)
      → IsWithin r.host (r.host + r.count) (q / cluster_size old.tables.file.header.fields) → file_of g new.tables q ≡ 0)
  pub cause : IfErr result (HasCause (allocation_causes g (LacksFreeRun g 1 (enough_for_run old.tables n) old.tables new.tables) old new))

-- The way in which new guest clusters are prepared in a mode of preallocation. In mode `None` they aren't prepared.
abbrev pub new_way : PreallocateMode → Option NewClusters
new_way ways.None = None
new_way ways.Zero = Some Zero
new_way ways.FormatAllocate = Some (Data stores.Zero)
new_way ways.FullAllocate = Some (Data stores.Allocate)
new_way ways.WriteData = Some (Data stores.WriteData)

-- Zero clusters need version 3 of the format.
abbrev pub IsPossibleFor : NewClusters → (version : ℕ) → Type 0
IsPossibleFor Zero version = version ≡ 3
IsPossibleFor (Data mode) version = ⊤

-- The number of guest clusters that a call has prepared.
abbrev pub done_by : Result ℕ Fault → ℕ
done_by (Ok n) = n
done_by (Err fault) = 0

-- At most `n` guest clusters from `guest` on read as zeroes afterwards, by their entries.
pub record ZeroesPart {S : Type 0} (g : Ghosts S) (sure : Type 0) (full : ℕ → Type 0) (guest n : ℕ) (old : Qcow2 S g) (result : Result ℕ Fault)
    (new : Qcow2 S g) : Type 0 where
  pub sets : SetsEntries g sure (HadNoResourceError result) guest (guest + done_by result) GivesZero old new
  pub many : IfOk result (λ done. (0 < done) × (done ≤ n))
  pub zeroed : sure → IfOk result (λ done. AreZeroes g guest (guest + done) new)
  pub cause : IfErr result (HasCause (storing_causes sure full (g.state old.tables.file.image).faults (g.state new.tables.file.image).faults))

-- A guest cluster from `first` to before `last` couldn't get its L2 table or its host cluster. No run of a quarter of the space was free, or
-- its L1 entry would be after the first 2^22. By then the disk and what leaks were as in `d`.
pub record LacksNewCluster {S : Type 0} (g : Ghosts S) (first last : ℕ) (d : Qcow2 S g) (number : ℕ) : Type 0 where
  pub guest : ℕ
  pub within : IsWithin first last guest
  pub now : Qcow2 S g
  pub well_formed : IsWellFormed g now
  pub same_disk : layer_of g now ≡ layer_of g d
  pub same_leaks : KeepsLeaks g d now
  pub left : Qcow2 S g
  pub left_safe : IsWellFormed g left
  pub left_disk : layer_of g left ≡ layer_of g now
  pub left_leaks : KeepsLeaks g now left
  pub lacks : LacksPlaceBeside g guest None now.tables left.tables number

-- The guest clusters from `first` to before `last`, all past the end of the disk, read as zeroes afterwards, by their entries.
pub record ZeroesRange {S : Type 0} (g : Ghosts S) (first last : ℕ) (old : Qcow2 S g) (result : Result Unit Fault) (new : Qcow2 S g)
    : Type 0 where
  pub sets : SetsEntries g (IsWellFormed g old × IsSome old.tables.space) (HadNoResourceError result) first last GivesZero old new
  pub zeroed : IsWellFormed g old → IsSome old.tables.space → OnOk result (AreZeroes g first last new)
  pub cause : IfErr result (HasCause (storing_causes (IsWellFormed g old × IsSome old.tables.space) (LacksNewCluster g first last old)
      (g.state old.tables.file.image).faults (g.state new.tables.file.image).faults))

-- Rounds a size in bytes up to whole clusters.
abbrev pub clusters_over : (cluster_bytes size : ℕ) → ℕ
clusters_over c size = (size + (c - 1)) / c

-- The L1 table of a disk of `n` bytes can't be allocated, or a guest cluster from the old end on.
abbrev pub LacksRoom : {S : Type 0} (g : Ghosts S) → Qcow2 S g → (n number : ℕ) → Type 0
LacksRoom g d n number = let c = cluster_size d.tables.file.header.fields in
    LacksL1 g d n number ⊎ LacksNewCluster g (d.tables.file.header.fields.size / c) (clusters_over c n) d number

-- The guest clusters past the disk, up to a size of `n` bytes, read as zeroes by their entries, and the L1 table is long enough. The free
-- space is loaded, and the disk keeps its size.
pub record PreparesGrowth {S : Type 0} (g : Ghosts S) (n : ℕ) (old : Qcow2 S g) (result : Result Unit Fault) (new : Qcow2 S g) : Type 0 where
  pub sets : let c = cluster_size old.tables.file.header.fields in SetsEntries g (IsWellFormed g old) (HadNoResourceError result)
      (clusters_over c old.tables.file.header.fields.size) (clusters_over c n) GivesZero old new
  pub known : IsWellFormed g old → OnOk result (IsSome new.tables.space)
  pub zeroed : let c = cluster_size old.tables.file.header.fields in
      IsWellFormed g old → OnOk result (AreZeroes g (clusters_over c old.tables.file.header.fields.size) (clusters_over c n) new)
  pub marked : IfErr result (LeavesMarkedFailed g old new)
  pub cause : IfErr result (HasCause (reserving_causes g (LacksRoom g old n) old new))

-- The disk gets the size `n`, and its new guest clusters read as zeroes, by their entries. The bytes past the old end in its last guest
-- cluster have any values.
pub record GrowsZeroed {S : Type 0} (g : Ghosts S) (n : ℕ) (old : Qcow2 S g) (result : Result Unit Fault) (new : Qcow2 S g) : Type 0 where
  pub resizes : ResizesDisk g (λ guest. ⊥) n (LacksRoom g old n) old result new
  pub format : OnOk result (HasSameFormat old.tables.file.header new.tables.file.header)
  pub zeroed : let c = cluster_size old.tables.file.header.fields in
      IsWellFormed g old → OnOk result (AreZeroes g (clusters_over c old.tables.file.header.fields.size) (clusters_over c n) new)

-- The byte has the value that these bytes of its guest cluster give.
abbrev pub GivesContent : Fields → List ℕ → ℕ → Value → Type 0
GivesContent h content p v = v ≡ byte (slice_index content (p % cluster_size h))

-- The guest cluster is mapped to a new host cluster with these bytes. After an error that is no resource error the disk is unchanged.
pub record ReplacesCluster {S : Type 0} (g : Ghosts S) (guest : ℕ) (content : List ℕ) (old : Qcow2 S g) (result : Result Unit Fault)
    (new : Qcow2 S g) : Type 0 where
  pub sets : SetsEntries g (IsWellFormed g old × IsSome old.tables.space) (HadNoResourceError result) guest (guest + 1)
      (GivesContent old.tables.file.header.fields content) old new
  pub mapped : IsWellFormed g old → IsSome old.tables.space → OnOk result ((p : ℕ) → p / cluster_size old.tables.file.header.fields ≡ guest
      → value_in g new.tables p ≡ Some (byte (slice_index content (p % cluster_size old.tables.file.header.fields))))
  pub kept : IsWellFormed g old → IsSome old.tables.space → IfErr result (λ e. IsNotResourceError e → layer_of g new ≡ layer_of g old)
  pub cause : IfErr result (HasCause (storing_causes (IsWellFormed g old × IsSome old.tables.space)
      (LacksPlaceBeside g guest None old.tables new.tables) (g.state old.tables.file.image).faults (g.state new.tables.file.image).faults))

-- The guest cluster in which the disk ends.
abbrev pub last_guest : {S : Type 0} (g : Ghosts S) → Qcow2 S g → ℕ
last_guest g d = let h = d.tables.file.header.fields in (h.size - 1) / cluster_size h

-- The byte reads as 0 once the disk reaches past it, over these layers.
abbrev pub ReadsZero : {S : Type 0} (g : Ghosts S) → List Layer → Qcow2 S g → (p : ℕ) → Type 0
ReadsZero g below d p = let h = d.tables.file.header.fields in
    through (cell_by (blank_of d.mode.backing) (file_of g d.tables) h p (entry (file_of g d.tables) h (p / cluster_size h))) (at below p) ≡ byte 0

-- True if a guest cluster with this source of its data reads as zeroes.
abbrev pub reads_zeroes : Shown → Bool
reads_zeroes shown.Zeroes = true
reads_zeroes shown = false

-- A lookup returns whether the guest cluster stays as it is: it reads as zeroes, and needs no host cluster. Nothing else happens.
pub record TellsZero {S : Type 0} (g : Ghosts S) (guest : ℕ) (old : Qcow2 S g) (result : Result Bool Fault) (new : Qcow2 S g) : Type 0 where
  pub keeps : KeepsImage g old result new
  pub zero : IsWellFormed g old → IfOk result (λ stays. IsTrue stays → shown_of old.mode.backing
      (entry (file_of g old.tables) old.tables.file.header.fields guest) ≡ Some shown.Zeroes)
  pub cause : IfErr result (HasCause (reserving_causes g (λ number. ⊥) old new))

-- The bytes for a new host cluster of the last guest cluster, if the disk ends inside it: each is what the guest reads, or 0 past the end of the
-- disk. `None` means that the bytes past the end read as 0 without that.
abbrev pub IsTailOf : {S B : Type 0} (g : Ghosts S) → GhostsBelow B → Qcow2 S g × B → Option (Vec ℕ Global) → Type 0
IsTailOf g u old None = let h = old.0.tables.file.header.fields in
    IsWellFormed g old.0 → (p : ℕ) → h.size ≤ p → p / cluster_size h < clusters_over (cluster_size h) h.size
    → ReadsZero g (u.layers_below old.1) old.0 p
IsTailOf g u old (Some content) = let h = old.0.tables.file.header.fields in
    (h.size % cluster_size h ≢ 0) × Fills g u (asking (h.size - 1) 1 false) old content.items

-- The bytes for a new host cluster of the last guest cluster are read, if it needs one. The image changes only as in a lookup. Any storage
-- fault, also one of the layers below, sets it to failed.
pub record ReadsTail {S B : Type 0} (g : Ghosts S) (u : GhostsBelow B) (old : Qcow2 S g × B) (result : Result (Option (Vec ℕ Global)) Fault)
    (new : Qcow2 S g × B) : Type 0 where
  pub below : LookupCallBelow u (HadNoResourceError result) old.1 new.1
  pub keeps : KeepsImage g old.0 result new.0
  pub tail : IfOk result (IsTailOf g u old)
  pub cause : IfErr result (λ e. HasCause (reserving_causes g (λ number. ⊥) old.0 new.0) e
      ⊎ RefusesCopy g u (asking (old.0.tables.file.header.fields.size - 1) 1 false) old new.1 e)

-- The last guest cluster is mapped to a new host cluster with these bytes. Without bytes nothing is done.
abbrev pub StoresTail : {S : Type 0} (g : Ghosts S) → Option (Vec ℕ Global) → Qcow2 S g → Result Unit Fault → Qcow2 S g → Type 0
StoresTail g None old result new = (result ≡ Ok tt) × (new ≡ old)
StoresTail g (Some content) old result new = ReplacesCluster g (last_guest g old) content.items old result new

-- The disk gets the size `n`, and its new bytes read as 0 over the layers below. Other bytes read as before. After an error that is no
-- resource error the guest reads the same bytes as before.
pub record GrowsOver {S B : Type 0} (g : Ghosts S) (u : GhostsBelow B) (n : ℕ) (old : Qcow2 S g × B) (result : Result Unit Fault) (new : Qcow2 S g × B)
    : Type 0 where
  pub mode : new.0.mode ≡ old.0.mode
  pub number : new.0.number ≡ old.0.number
  pub unspent : new.0.unspent ≡ old.0.unspent
  pub shape : (g.state new.0.tables.file.image).shape ≡ (g.state old.0.tables.file.image).shape
  pub counts_not_fallen : CountsNotFallen (g.state old.0.tables.file.image) (g.state new.0.tables.file.image)
  pub failed : IsTrue old.0.failed → IsTrue new.0.failed
  pub bits : new.0.tables.file.header.fields.cluster_bits ≡ old.0.tables.file.header.fields.cluster_bits
  pub version : new.0.tables.file.header.fields.version ≡ old.0.tables.file.header.fields.version
  pub faults : HadNoResourceError result → IsFaultless (g.state old.0.tables.file.image) (g.state new.0.tables.file.image)
  pub below : LookupCallBelow u (HadNoResourceError result) old.1 new.1
  pub marked : IfErr result (LeavesMarkedFailed g old.0 new.0)
  pub size : OnOk result (new.0.tables.file.header.fields.size ≡ n)
  pub unsized : OnErr result (new.0.tables.file.header.fields.size ≡ old.0.tables.file.header.fields.size)
  pub crash_images : IsWellFormed g old.0 → u.coherent_below old.1
      → UnrefusedCrashImages (Left (u.layers_below old.1) (layer_of g old.0) (g.state old.0.tables.file.image).bytes is_sound
      (min (layer_of g old.0).size n) (max (layer_of g old.0).size n) GivesNone) (g.state old.0.tables.file.image) (g.state new.0.tables.file.image)
  pub well_formed : IsWellFormed g old.0 → HadNoResourceError result → IsWellFormed g new.0
  pub shown : IsWellFormed g old.0 → u.coherent_below old.1 → HadNoResourceError result → (p : ℕ) → p < (layer_of g old.0).size
      → through ((layer_of g new.0).cell p) (at (u.layers_below old.1) p) ≡ through ((layer_of g old.0).cell p) (at (u.layers_below old.1) p)
  pub zeroed : IsWellFormed g old.0 → u.coherent_below old.1 → OnOk result ((p : ℕ) → (layer_of g old.0).size ≤ p → p < n
      → through ((layer_of g new.0).cell p) (at (u.layers_below old.1) p) ≡ byte 0)
  pub leaks : IsWellFormed g old.0 → HadNoResourceError result → KeepsLeaks g old.0 new.0
  pub cause : IfErr result (λ e. HasCause (reserving_causes g (LacksRoom g old.0 n) old.0 new.0) e
      ⊎ RefusesCopy g u (asking (old.0.tables.file.header.fields.size - 1) 1 false) old new.1 e)

-- The mode allocates clusters for the new bytes.
abbrev pub IsAllocating : PreallocateMode → Type 0
IsAllocating ways.None = ⊥
IsAllocating ways.Zero = ⊥
IsAllocating mode = ⊤

-- A byte in the last guest cluster of the disk reads as this value over these layers.
abbrev pub LastHas : {S : Type 0} (g : Ghosts S) → Qcow2 S g → List Layer → Value → Type 0
LastHas g d below value = let h = d.tables.file.header.fields in (p : ℕ) × (p / cluster_size h ≡ last_guest g d) × (p < h.size)
    × (through ((layer_of g d).cell p) (at below p) ≡ value)

-- The driver's own reasons for not growing a disk. An image with layers below can't allocate the new bytes. Zero clusters need version 3. The
-- size is above 2^63 - 1, or the L1 table or a new cluster can't be allocated. The bytes before the old end are needed, and can't be read.
abbrev pub WhyUngrown : {S : Type 0} (g : Ghosts S) → Qcow2 S g → List Layer → (size : ℕ) → PreallocateMode → Fault → Type 0
WhyUngrown g d below size mode Unsupported = IsAllocating mode × IsTrue d.mode.backing
WhyUngrown g d below size mode VersionLimit = (mode ≡ ways.Zero) × (d.tables.file.header.fields.version ≢ 3)
WhyUngrown g d below size mode (Limit number) = ((2 ^ 63 - 1 < size) × (number ≡ size))
    ⊎ (LacksL1 g d size number ⊎ ((mode ≢ ways.None) × LacksRoom g d size number))
WhyUngrown g d below size mode DamagedTable = (mode ≢ ways.None) × LastHas g d below damaged_place
WhyUngrown g d below size mode Barred = (mode ≢ ways.None) × LastHas g d below barred
WhyUngrown g d below size mode fault = ⊥

-- The image can't grow in this mode: it has layers below, or version 2.
abbrev pub IsUnsupported : Fault → Type 0
IsUnsupported Unsupported = ⊤
IsUnsupported VersionLimit = ⊤
IsUnsupported fault = ⊥

-- A growth is refused before anything else is done: the image is read-only, or for the driver's own reasons.
abbrev pub RefusesGrowth : {S : Type 0} (g : Ghosts S) → Qcow2 S g → (size : ℕ) → PreallocateMode → Fault → Type 0
RefusesGrowth g d size mode fault = ((fault ≡ ReadOnly) × IsFalse d.mode.writable)
    ⊎ (IsTrue d.mode.writable × ((below : List Layer) → WhyUngrown g d below size mode fault))
