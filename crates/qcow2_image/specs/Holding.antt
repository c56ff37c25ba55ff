-- The prepared mapping of an image (a run that is written and not yet committed) as contracts see it. It has consecutive guest clusters,
-- and the consecutive host clusters that a commit links to them. Those are newly allocated, or preallocated zero clusters. `IsHeld` is the
-- invariant.
use Rattle.std.specs.Prelude.{◌≡◌, ◌≢◌, ⊤, ℕ, ◌+◌, ◌-◌, ◌*◌, ◌/◌, ◌%◌, ◌<◌, ◌≤◌, Bool, true, false, Option, Some, None, if◌then◌else◌, min, ltb, nat_le, ◌&&◌, ◌||◌}
use Rattle.imago_access.specs.Layer.{Held, loose, beside, inside}
use Rattle.qcow2_types.specs.Bytes.{Bytes}
use Rattle.qcow2_types.specs.Entries.{entry}
use Rattle.qcow2_types.specs.Header.{Fields, cluster_size, entries_of_cluster}
use Rattle.qcow2_types.specs.Words.{Mapping, data_at}
use Rattle.qcow2_metadata.specs.Places.{IsAddressable}
use Rattle.qcow2_alloc.specs.GuestView.{Metadata}
use Rattle.qcow2_steps.specs.Data.{IsKeptFor}
use Rattle.qcow2_steps.specs.Words.{IsReserved}
use Rattle.qcow2_clusters.specs.Linking.{IsUnder}

-- The prepared mapping with this ID. `offset` and `length` are its run in bytes, and `place` is the run's offset in the file. `guest` is
-- the first guest cluster, `table` the cluster of the L2 table, and `host` the first of `count` host clusters. `is_kept` says that the host
-- cluster is a preallocated zero cluster. `overwrite` says that the whole run will be written. `copied` is the file when the data had been
-- copied, and `written` what was written since.
pub record PreparedMappingRun : Type 0 where
  pub mapping_id : ℕ
  pub offset : ℕ
  pub length : ℕ
  pub place : ℕ
  pub guest : ℕ
  pub table : ℕ
  pub host : ℕ
  pub count : ℕ
  pub is_kept : Bool
  pub overwrite : Bool
  pub copied : Bytes
  pub written : ℕ → Bool

-- The offset in cluster `c` of the byte at offset `p` of the disk.
abbrev pub place_in : Fields → ℕ → ℕ → ℕ
place_in h c p = c * cluster_size h + p % cluster_size h

-- The offset in the file of a byte of the mapping. The host clusters are in the order of the guest clusters.
abbrev pub held_place : Fields → PreparedMappingRun → ℕ → ℕ
held_place h hold p = place_in h (hold.host + (p / cluster_size h - hold.guest)) p

-- The byte is one of the run.
abbrev pub in_run : PreparedMappingRun → ℕ → Bool
in_run hold p = nat_le hold.offset p && ltb p (hold.offset + hold.length)

-- The guest cluster is one of the mapping.
abbrev pub has_guest : PreparedMappingRun → ℕ → Bool
has_guest hold guest = nat_le hold.guest guest && ltb guest (hold.guest + hold.count)

-- The byte is in a guest cluster of the mapping, and on the disk.
abbrev pub in_clusters : Fields → PreparedMappingRun → ℕ → Bool
in_clusters h hold p = has_guest hold (p / cluster_size h) && ltb p h.size

-- The byte that was copied for a byte of the run, unless the whole run will be written.
abbrev pub copied_to : Fields → PreparedMappingRun → ℕ → Option ℕ
copied_to h hold p = if hold.overwrite then None else Some (hold.copied (held_place h hold p))

-- The byte that was written to a byte of the run, if any.
abbrev pub written_to : Fields → Bytes → PreparedMappingRun → ℕ → Option ℕ
written_to h file hold p = if hold.written p then Some (file (held_place h hold p)) else None

-- The state of a byte with respect to the mapping, with this file.
abbrev pub held_of : Fields → Bytes → PreparedMappingRun → ℕ → Held
held_of h file hold p =
    if in_clusters h hold p
    then (if in_run hold p then inside (copied_to h hold p) (written_to h file hold p) hold.overwrite
    else beside (hold.copied (held_place h hold p)))
    else loose

abbrev pub held_with : Fields → Bytes → Option PreparedMappingRun → ℕ → Held
held_with h file None p = loose
held_with h file (Some hold) p = held_of h file hold p

-- The location where a byte of the run can be written before the commit.
abbrev pub held_writable_location : PreparedMappingRun → ℕ → Option (ℕ × ℕ)
held_writable_location hold p = if in_run hold p then Some (0, hold.place + (p - hold.offset)) else None

-- The location where a byte can be written: the one of its L2 entry, otherwise the one in the run of the prepared mapping.
abbrev pub writable_location_or : Option (ℕ × ℕ) → Option (ℕ × ℕ) → Option (ℕ × ℕ)
writable_location_or (Some home) held = Some home
writable_location_or None held = held

abbrev pub writable_locations_with : Option PreparedMappingRun → (ℕ → Option (ℕ × ℕ)) → ℕ → Option (ℕ × ℕ)
writable_locations_with None home p = home p
writable_locations_with (Some hold) home p = writable_location_or (home p) (held_writable_location hold p)

abbrev pub mapping_id_held : Option PreparedMappingRun → Option ℕ
mapping_id_held None = None
mapping_id_held (Some hold) = Some hold.mapping_id

-- A guest cluster with this mapping can't be written in place.
abbrev pub IsUncopied : Mapping → Type 0
IsUncopied (data_at cluster true) = ⊥
IsUncopied mapping = ⊤

-- The host cluster is the preallocated zero cluster of the guest cluster, or is reserved. The image is flushed.
abbrev pub IsOwnAs : (is_kept : Bool) → Metadata → (guest host : ℕ) → Type 0
IsOwnAs true m guest host = IsKeptFor m guest host
IsOwnAs false m guest host = IsReserved m host

-- `IsOwnAs` holds for `n` consecutive guest clusters and host clusters.
abbrev pub AreOwnAs : (is_kept : Bool) (n : ℕ) → Metadata → (guest host : ℕ) → Type 0
AreOwnAs is_kept n m guest host = (d : ℕ) → d < n → IsOwnAs is_kept m (guest + d) (host + d)

-- The host clusters belong to the guest clusters, and entries can reference them. The guest clusters can't be written in place. The run is
-- in them, and a byte that wasn't written is the byte that was copied. The image is flushed.
pub record IsHeld (m : Metadata) (hold : PreparedMappingRun) : Type 0 where
  pub any : 0 < hold.count
  pub row : hold.guest % entries_of_cluster m.header.fields + hold.count ≤ entries_of_cluster m.header.fields
  pub in_table : (d : ℕ) → d < hold.count → IsUnder m hold.table (hold.guest + d)
  pub own : AreOwnAs hold.is_kept hold.count m hold.guest hold.host
  pub uncopied : (d : ℕ) → d < hold.count → IsUncopied (entry m.file m.header.fields (hold.guest + d))
  pub host_nonzero : hold.host ≢ 0
  pub reach : IsAddressable m.header.fields.cluster_bits (hold.host + (hold.count - 1))
  pub placed : hold.place ≡ held_place m.header.fields hold hold.offset
  pub long : 0 < hold.length
  pub first : hold.guest * cluster_size m.header.fields ≤ hold.offset
  pub last : hold.offset + hold.length ≤ hold.guest * cluster_size m.header.fields + hold.count * cluster_size m.header.fields
  pub on_disk : hold.offset + hold.length ≤ m.header.fields.size
  pub unwritten_is_copied : (p : ℕ) → in_clusters m.header.fields hold p ≡ true → hold.written p ≡ false
      → m.file (held_place m.header.fields hold p) ≡ hold.copied (held_place m.header.fields hold p)
  pub beside : (p : ℕ) → in_clusters m.header.fields hold p ≡ true → in_run hold p ≡ false → hold.written p ≡ false

-- The offset in the file of a byte of the run, and how many bytes of the run follow from there, at most `most`. `None` if it isn't in the
-- run.
abbrev pub HoldsRun : Option PreparedMappingRun → (offset most : ℕ) → Option (ℕ × ℕ) → Type 0
HoldsRun None offset most answer = answer ≡ None
HoldsRun (Some hold) offset most answer =
    answer ≡ (if in_run hold offset
    then Some (hold.place + (offset - hold.offset), min most (hold.length - (offset - hold.offset)))
    else None)

-- A write of `n` bytes at `at` is noted.
abbrev pub Notes : (at n : ℕ) → Option PreparedMappingRun → Option PreparedMappingRun → Type 0
Notes at n None new = new ≡ None
Notes at n (Some hold) new = (written : ℕ → Bool) × (new ≡ Some (record hold { written = written }))
    × ((p : ℕ) → written p ≡ ((nat_le at p && ltb p (at + n)) || hold.written p))
