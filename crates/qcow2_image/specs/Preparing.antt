-- Specifies how a mapping is prepared for consecutive guest clusters that can't be written in place: they get host clusters, and only a
-- later commit links these.
use Rattle.std.specs.Prelude.{◌≡◌, ◌≢◌, ◌⊎◌, ⊤, ℕ, ◌+◌, ◌-◌, ◌*◌, ◌/◌, ◌%◌, ◌<◌, ◌≤◌, min, Bool, false, List, length, slice_index, Option, Some, None, IsTrue, IfSome, is_some, Result, Err, IfOk, IfErr}
use Rattle.imago_storage.specs.declared.fault.Fault.{Fault}
use Rattle.imago_storage.specs.declared.fault.Fault.TheVariants.{Memory, Storage}
use Rattle.imago_storage.specs.declared.storage.Storage.{Ghosts}
use Rattle.imago_access.specs.Chain.{at}
use Rattle.imago_access.specs.Changes.{Asked, IsCopied}
use Rattle.imago_access.specs.Files.{HadNoResourceError}
use Rattle.imago_access.specs.Going.{LookupCallBelow}
use Rattle.imago_access.specs.declared.driver_model.LayersBelowModel.{Ghosts as GhostsBelow}
use Rattle.imago_access.specs.declared.mapping.PreparedDataMapping.{PreparedDataMapping}
use Rattle.qcow2_types.specs.Entries.{entry}
use Rattle.qcow2_types.specs.Header.{Fields, cluster_size, entries_of_cluster}
use Rattle.qcow2_types.specs.Words.{damaged}
use Rattle.qcow2_metadata.specs.Places.{IsAddressable}
use Rattle.qcow2_alloc.specs.Causes.{HasCause}
use Rattle.qcow2_alloc.specs.Crowding.{space}
use Rattle.qcow2_clusters.specs.Linking.{IsUnder}
use Rattle.qcow2_clusters.specs.Storing.{ReachesEnd}
use Rattle.qcow2_clusters.specs.declared.space.Space.{Space}
use Rattle.qcow2_image.specs.Allocating.{HasKept, HasOwnTable, kept_for, reserving_causes}
use Rattle.qcow2_image.specs.Filling.{IsInFirst, IsLeft, RefusesCopy}
use Rattle.qcow2_image.specs.FreeSpace.{HasNoPlace, IsForCluster}
use Rattle.qcow2_image.specs.Holding.{AreOwnAs, PreparedMappingRun, IsUncopied, place_in}
use Rattle.qcow2_image.specs.Looking.{looking_causes}
use Rattle.qcow2_image.specs.KeepsDisk.{KeepsDisk, KeepsDiskWhere}
use Rattle.qcow2_image.specs.Leaking.{KeepsLeaks, KeepsLeaksBut, reserved_with}
use Rattle.qcow2_image.specs.Rooms.{IsWellFormed, rest_of}
use Rattle.qcow2_image.specs.Seen.{IsCacheCoherent, file_of, layer_of}
use Rattle.qcow2_image.specs.Steps.{KeepsImage}
use Rattle.qcow2_image.specs.Unspent.{covers, prepared_mapping_run, holding_in}
use Rattle.qcow2_image.specs.declared.mappings.Reserved.{Reserved}
use Rattle.qcow2_image.specs.declared.qcow2.PreparedMappingState.{PreparedMappingState}
use Rattle.qcow2_image.specs.declared.qcow2.Qcow2.{Qcow2}
use Rattle.qcow2_image.specs.declared.tables.Tables.{Tables}
use Rattle.qcow2_image.specs.declared.unspent.Unspent.{Unspent}

-- The number of bytes of a range in the first `count` of its guest clusters.
abbrev pub run_in : Fields → (count offset length : ℕ) → ℕ
run_in h count offset n = min n (count * cluster_size h - offset % cluster_size h)

-- The number of bytes of a range in its first guest cluster.
abbrev pub first_run : Fields → (offset length : ℕ) → ℕ
first_run h offset n = min n (cluster_size h - offset % cluster_size h)

-- A storage fault has set the image to failed. If memory ran out, the image has failed or is unchanged.
abbrev pub LeavesMarkedFailed : {S : Type 0} (g : Ghosts S) → Qcow2 S g → Qcow2 S g → Fault → Type 0
LeavesMarkedFailed g old new Storage = IsTrue new.failed
LeavesMarkedFailed g old new Memory = IsTrue new.failed ⊎ KeepsImage {T = Unit} g old (Err Memory) new
LeavesMarkedFailed g old new fault = ⊤

-- Consecutive guest clusters can be linked to host clusters, which are preallocated zero clusters, or reserved with a slot of the free
-- list.
pub record IsReservedFor {S : Type 0} (g : Ghosts S) (guest : ℕ) (r : Reserved) (t : Tables S g) : Type 0 where
  pub space : Space
  pub space_known : t.space ≡ Some space
  pub in_table : (d : ℕ) → d < r.count → IsUnder (rest_of g t space) r.table (guest + d)
  pub own : AreOwnAs r.is_kept r.count (rest_of g t space) guest r.host
  pub host_nonzero : r.host ≢ 0
  pub room : r.is_kept ≡ false → 0 < space.to_free.held

-- The missing parts of a guest cluster can't be allocated, if `kept` is its preallocated zero cluster. Its L1 entry would be after the
-- first 2^22, or no run of a quarter of the space was free.
abbrev pub LacksPlaceBeside : {S : Type 0} (g : Ghosts S) → (guest : ℕ) → (kept : Option ℕ) → (old new : Tables S g) → ℕ → Type 0
LacksPlaceBeside g guest kept old new number = let h = old.file.header.fields in
    HasNoPlace g (IsForCluster g guest kept old) (guest / entries_of_cluster h) (space h / 4) old new number

-- The missing parts of a guest cluster can't be allocated: an L1 entry, an L2 table of its own, or a host cluster.
abbrev pub LacksPlace : {S : Type 0} (g : Ghosts S) → (guest : ℕ) → (old new : Tables S g) → ℕ → Type 0
LacksPlace g guest old new number = LacksPlaceBeside g guest (kept_for g guest old) old new number

-- At most `n` consecutive guest clusters get consecutive host clusters, the first one with this content, and an L2 table that nothing else
-- references. The host cluster is the preallocated zero cluster `kept`, otherwise clusters are allocated. The guest reads the same bytes as
-- before.
pub record Reserves {S : Type 0} (g : Ghosts S) (guest : ℕ) (kept : Option ℕ) (n : ℕ) (content : List ℕ) (old : Qcow2 S g)
    (result : Result Reserved Fault) (new : Qcow2 S g) : Type 0 where
  pub keeps : KeepsDiskWhere g (HasKept g guest kept old) (HadNoResourceError result) old new
  pub leaks : HasKept g guest kept old → HadNoResourceError result → KeepsLeaksBut g (reserved_with result) old new
  pub marked : IfErr result (LeavesMarkedFailed g old new)
  pub many : IfOk result (λ r. (0 < r.count) × (r.count ≤ n))
  pub host_addressable : IfOk result (λ r. IsAddressable old.tables.file.header.fields.cluster_bits (r.host + (r.count - 1)))
  pub which : IfOk result (λ r. (r.is_kept ≡ is_some kept) × IfSome kept (λ host. r.host ≡ host))
  pub reserved : HasKept g guest kept old → IfOk result (λ r. IsReservedFor g guest r new.tables)
  pub own : HasKept g guest kept old → IfOk result (λ r. HasOwnTable g guest new.tables)
  pub reaches : IfOk result (λ r. ReachesEnd g.state r.host r.count old.tables.file new.tables.file)
  pub stored : HasKept g guest kept old → IfOk result (λ r. (i : ℕ) → i < length content
      → file_of g new.tables (r.host * cluster_size old.tables.file.header.fields + i) ≡ slice_index content i)
  pub cause : IfErr result (HasCause (reserving_causes g (LacksPlaceBeside g guest kept old.tables new.tables) old new))

-- The prepared mapping for a run and its clusters.
abbrev pub held_run : {S : Type 0} (g : Ghosts S) → Asked → Reserved → Qcow2 S g → ℕ → (ℕ → Bool) → PreparedMappingRun
held_run g asked r d mapping_id written = let h = d.tables.file.header.fields in record {
  mapping_id = mapping_id;
  offset = asked.offset;
  length = asked.length;
  place = place_in h r.host asked.offset;
  guest = asked.offset / cluster_size h;
  table = r.table;
  host = r.host;
  count = r.count;
  is_kept = r.is_kept;
  overwrite = asked.overwrite;
  copied = file_of g d.tables;
  written = written;
}

-- The clusters are stored as the prepared mapping, with another ID than the last one. Nothing is written to it yet.
pub record KeepsMapping {S : Type 0} (g : Ghosts S) (asked : Asked) (r : Reserved) (old : Qcow2 S g)
    (mapping : PreparedDataMapping PreparedMappingState) (new : Qcow2 S g) : Type 0 where
  pub unspent : Unspent S g
  pub now : new ≡ record old { claims = unspent.mapping_id; unspent = Some unspent }
  pub anew : unspent.mapping_id ≢ old.claims
  pub holds : prepared_mapping_run g unspent ≡ held_run g asked r old unspent.mapping_id (covers unspent.written)
  pub unwritten : (p : ℕ) → covers unspent.written p ≡ false
  pub answer : mapping ≡ record {
    storage = 0;
    offset = place_in old.tables.file.header.fields r.host asked.offset;
    length = asked.length;
    state = Some (record { number = old.number; mapping_id = unspent.mapping_id });
  }

-- The part of a range in its first guest cluster, and in its first `count` guest clusters.
abbrev pub first_part : Fields → Asked → Asked
first_part h asked = record asked { length = first_run h asked.offset asked.length }

abbrev pub run_part : Fields → ℕ → Asked → Asked
run_part h count asked = record asked { length = run_in h count asked.offset asked.length }

-- Every byte of the guest cluster will be overwritten.
pub record IsCovered (h : Fields) (asked : Asked) (guest : ℕ) : Type 0 where
  pub overwrite : IsTrue asked.overwrite
  pub all : (p : ℕ) → p / cluster_size h ≡ guest → (asked.offset ≤ p) × (p < asked.offset + asked.length)

-- The first `n` guest clusters of a range are in one L2 table, and the range covers all but the first completely.
pub record CoversMost (h : Fields) (offset length n : ℕ) : Type 0 where
  pub any : 0 < n
  pub row : offset / cluster_size h % entries_of_cluster h + n ≤ entries_of_cluster h
  pub inside : (offset / cluster_size h + n) * cluster_size h < h.size + cluster_size h
  pub all : (i : ℕ) → 0 < i → i < n → (p : ℕ) → p / cluster_size h ≡ offset / cluster_size h + i → (offset ≤ p) × (p < offset + length)

-- The first `n` guest clusters of a range are in one L2 table, and all but the first will be overwritten completely. If the first can't be
-- written in place, none of them can.
pub record IsRun {S : Type 0} (g : Ghosts S) (asked : Asked) (n : ℕ) (d : Qcow2 S g) : Type 0 where
  pub any : 0 < n
  pub row : let h = d.tables.file.header.fields in asked.offset / cluster_size h % entries_of_cluster h + n ≤ entries_of_cluster h
  pub covered : let h = d.tables.file.header.fields in (i : ℕ) → 0 < i → i < n → IsCovered h asked (asked.offset / cluster_size h + i)
  pub uncopied : IsCacheCoherent g d.tables → let h = d.tables.file.header.fields in let first = asked.offset / cluster_size h in
      IsUncopied (entry (file_of g d.tables) h first) → (i : ℕ) → i < n → IsUncopied (entry (file_of g d.tables) h (first + i))

-- The file reaches at least the end of the host clusters of the prepared mapping, so no link goes past the end.
abbrev pub ReachesHeld : {S : Type 0} (g : Ghosts S) → Qcow2 S g → Type 0
ReachesHeld g d = IfSome (holding_in g d.unspent) (λ held.
    (held.host + held.count) * cluster_size d.tables.file.header.fields ≤ length (g.state d.tables.file.image).bytes)

-- `length` bytes are the part of a range in a run for which `IsRun` holds.
abbrev pub IsPartOfRun : {S : Type 0} (g : Ghosts S) → Asked → ℕ → Qcow2 S g → Type 0
IsPartOfRun g asked length d = (n : ℕ) × IsRun g asked n d × (length ≡ run_in d.tables.file.header.fields n asked.offset asked.length)

-- A lookup finds a run for which `IsRun` holds, and nothing else changes.
pub record FindsRun {S : Type 0} (g : Ghosts S) (asked : Asked) (old : Qcow2 S g) (result : Result ℕ Fault) (new : Qcow2 S g)
    : Type 0 where
  pub keeps : KeepsImage g old result new
  pub one : IsRun g asked 1 old
  pub ok : IfOk result (λ n. IsRun g asked n old)
  pub cause : IfErr result (HasCause (looking_causes ⊤ (g.state old.tables.file.image).faults (g.state new.tables.file.image).faults))
  pub known_cause : IsCacheCoherent g old.tables → let h = old.tables.file.header.fields in
      IfErr result (HasCause (looking_causes (entry (file_of g old.tables) h (asked.offset / cluster_size h) ≡ damaged)
      (g.state old.tables.file.image).faults (g.state new.tables.file.image).faults))

-- The run of a range in at most `n` of its guest clusters is prepared. The host cluster of the first has the data that its guest cluster
-- reads.
pub record HoldsFresh {S B : Type 0} (g : Ghosts S) (u : GhostsBelow B) (asked : Asked) (n : ℕ) (old : Qcow2 S g × B) (middle : Qcow2 S g)
    (mapping : PreparedDataMapping PreparedMappingState) (new : Qcow2 S g) : Type 0 where
  pub clusters : Reserved
  pub any : 0 < clusters.count
  pub count_bounded : clusters.count ≤ n
  pub holds : KeepsMapping g (run_part old.0.tables.file.header.fields clusters.count asked) clusters middle mapping new
  pub host_addressable : IsAddressable old.0.tables.file.header.fields.cluster_bits (clusters.host + (clusters.count - 1))
  pub reaches : ReachesEnd g.state clusters.host clusters.count old.0.tables.file middle.tables.file
  pub reserved : IsWellFormed g old.0
      → IsReservedFor g (asked.offset / cluster_size old.0.tables.file.header.fields) clusters middle.tables
  pub filled : IsWellFormed g old.0 → u.coherent_below old.1 → let h = old.0.tables.file.header.fields in
      (p : ℕ) → IsInFirst h asked p → IsLeft (first_part h asked) p
      → IsCopied (at (u.layers_below old.1)) (layer_of g old.0) p (file_of g middle.tables (place_in h clusters.host p))

-- A mapping is prepared, or the image or a layer below fails. The image `middle` is the one before the mapping is stored: its disk reads as
-- before.
pub record PreparesFresh {S B : Type 0} (g : Ghosts S) (u : GhostsBelow B) (asked : Asked) (n : ℕ) (old : Qcow2 S g × B)
    (result : Result (PreparedDataMapping PreparedMappingState) Fault) (new : Qcow2 S g × B) : Type 0 where
  pub middle : Qcow2 S g
  pub keeps : KeepsDisk g (HadNoResourceError result) old.0 middle
  pub leaks : IsWellFormed g old.0 → old.0.unspent ≡ None → HadNoResourceError result → KeepsLeaks g old.0 new.0
  pub below : LookupCallBelow u (HadNoResourceError result) old.1 new.1
  pub ok : IfOk result (λ mapping. HoldsFresh g u asked n old middle mapping new.0)
  pub err : IfErr result (λ fault. (new.0 ≡ middle) × LeavesMarkedFailed g old.0 middle fault
      × (HasCause (reserving_causes g
      (LacksPlace g (asked.offset / cluster_size old.0.tables.file.header.fields) old.0.tables middle.tables) old.0 middle) fault
      ⊎ RefusesCopy g u (first_part old.0.tables.file.header.fields asked) old new.1 fault))

-- Like `PreparesFresh`, for a run that a lookup finds.
pub record PreparesRun {S B : Type 0} (g : Ghosts S) (u : GhostsBelow B) (asked : Asked) (old : Qcow2 S g × B)
    (result : Result (PreparedDataMapping PreparedMappingState) Fault) (new : Qcow2 S g × B) : Type 0 where
  pub n : ℕ
  pub run : IsRun g asked n old.0
  pub prepares : PreparesFresh g u asked n old result new
