-- Definitions for bytes that are written to consecutive clusters without a header, table or refcount block: what the write changes, and
-- which guest clusters reference these clusters.
use Rattle.std.specs.Prelude.{◌≡◌, ◌≢◌, ℕ, ◌+◌, ◌*◌, ◌<◌, ◌≤◌, Bool, true, Option, Some}
use Rattle.imago_storage.specs.Disk.{Value, byte}
use Rattle.qcow2_types.specs.Bytes.{Bytes}
use Rattle.qcow2_types.specs.Consistency.{IsConsistent}
use Rattle.qcow2_types.specs.Counts.{count}
use Rattle.qcow2_types.specs.Entries.{entry, l2_table}
use Rattle.qcow2_types.specs.Frames.{Outside}
use Rattle.qcow2_types.specs.Header.{Fields, cluster_size, entries_of_cluster}
use Rattle.qcow2_types.specs.References.{meets, of_copied, refs, structure}
use Rattle.qcow2_types.specs.Slots.{Live, slot}
use Rattle.qcow2_types.specs.Versions.{KeepsSlots, of_either}
use Rattle.qcow2_types.specs.Words.{Mapping, data_at, zeroes}
use Rattle.qcow2_alloc.specs.GuestView.{Metadata, counted, in_memory, referenced_at_all, referenced}

-- x is the file with n bytes replaced at `at`, in clusters c to c + k, which contain no header, table or block.
pub record WritesBeside (m : Metadata) (c k at n : ℕ) (x : Bytes) : Type 0 where
  pub apart : (d : ℕ) → c ≤ d → d ≤ c + k → structure m.file m.header.fields (meets m.header.fields d) ≡ 0
  pub low : c * cluster_size m.header.fields ≤ at
  pub high : at + n ≤ (c + k + 1) * cluster_size m.header.fields
  pub outside : Outside m.file x at n

-- With x as its file, the image has the same mappings, refcounts and references, in the file and in memory.
pub record KeepsEntries (m : Metadata) (x : Bytes) : Type 0 where
  pub consistent : IsConsistent x m.header
  pub file : KeepsSlots m.file x m.header.fields
  pub memory : KeepsSlots (in_memory m) (in_memory (record m { file = x })) m.header.fields
  pub file_entries : (guest : ℕ) → entry x m.header.fields guest ≡ entry m.file m.header.fields guest
  pub memory_entries : (guest : ℕ)
      → entry (in_memory (record m { file = x })) m.header.fields guest ≡ entry (in_memory m) m.header.fields guest
  pub file_counts : (d : ℕ) → count x m.header.fields d ≡ count m.file m.header.fields d
  pub counts : (d : ℕ) → counted (record m { file = x }) d ≡ counted m d
  pub file_references : (d : ℕ) → refs x m.header.fields d ≡ refs m.file m.header.fields d
  pub references : (d : ℕ) → referenced (record m { file = x }) d ≡ referenced m d
  pub names : (d : ℕ) → referenced_at_all (record m { file = x }) d ≡ referenced_at_all m d
  pub apart : (d : ℕ) → structure x m.header.fields (meets m.header.fields d) ≡ structure m.file m.header.fields (meets m.header.fields d)

-- the number of references to cluster c by an entry with this mapping, if it has the COPIED flag
abbrev pub copies_at : Metadata → Mapping → ℕ → ℕ
copies_at m mapping c = of_copied m.header.fields (meets m.header.fields c) mapping

-- No entry of another guest cluster references cluster c, neither in the file nor in memory.
abbrev pub IsReferencedFor : Metadata → ℕ → ℕ → Type 0
IsReferencedFor m guest c = (i j : ℕ) → Live (l2_table m.file m.header.fields) m.header.fields i j
    → i * entries_of_cluster m.header.fields + j ≢ guest
    → of_either m.header.fields (meets m.header.fields c) (slot m.file m.header.fields i j) (slot (in_memory m) m.header.fields i j) ≡ 0

-- Only guest cluster `first + d` may reference cluster c + d, for each d up to k.
abbrev pub AreReferencedFor : Metadata → ℕ → ℕ → ℕ → Type 0
AreReferencedFor m first c k = (d : ℕ) → d ≤ k → IsReferencedFor m (first + d) (c + d)

-- Byte q of the file has the same distance from cluster c as guest byte p from guest cluster `first`.
abbrev pub IsByteOf : Fields → ℕ → ℕ → ℕ → ℕ → Type 0
IsByteOf h first c q p = p + c * cluster_size h ≡ q + first * cluster_size h

-- Guest byte p reads as its byte of x, which is one of the n bytes at `at`.
pub record GivesData (h : Fields) (first c at n : ℕ) (x : Bytes) (p : ℕ) (v : Option Value) : Type 0 where
  pub q : ℕ
  pub from : at ≤ q
  pub to : q < at + n
  pub place : IsByteOf h first c q p
  pub value : v ≡ Some (byte (x q))

-- No guest byte reads cluster c by these entries: it contains no header, table or block, and no entry maps data to it.
pub record IsHidden (raw_entries : Bytes) (h : Fields) (c : ℕ) : Type 0 where
  pub apart : structure raw_entries h (meets h c) ≡ 0
  pub dataless : (guest : ℕ) (copied : Bool) → entry raw_entries h guest ≢ data_at c copied

-- `IsHidden` by the entries of the file, and by those in memory
abbrev pub IsHiddenIn : Metadata → ℕ → Type 0
IsHiddenIn m c = IsHidden m.file m.header.fields c × IsHidden (in_memory m) m.header.fields c

-- Cluster c is the preallocated zero cluster of a guest cluster, with the COPIED flag, in the file and in memory.
pub record IsKeptFor (m : Metadata) (guest c : ℕ) : Type 0 where
  pub file : entry m.file m.header.fields guest ≡ zeroes (Some c) true
  pub memory : entry (in_memory m) m.header.fields guest ≡ zeroes (Some c) true
