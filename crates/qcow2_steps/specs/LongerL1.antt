-- Definitions for switching the header to a longer L1 table at another offset: the image before and after the switch.
use Rattle.std.specs.Prelude.{◌≡◌, ℕ, ◌+◌, ◌*◌, ◌<◌, ◌≤◌, true, Ok}
use Rattle.qcow2_types.specs.Bytes.{Bytes, raw_entry}
use Rattle.qcow2_types.specs.Counts.{count}
use Rattle.qcow2_types.specs.Frames.{Outside}
use Rattle.qcow2_types.specs.Header.{header_of}
use Rattle.qcow2_types.specs.References.{meets}
use Rattle.qcow2_types.specs.Switched.{with_l1_table}
use Rattle.qcow2_alloc.specs.GuestView.{Metadata}
use Rattle.qcow2_steps.specs.Words.{IsReserved}

-- 1 if cluster d has a part of the L1 table, otherwise 0
abbrev pub old_l1 : Metadata → ℕ → ℕ
old_l1 m d = meets m.header.fields d m.header.fields.l1_offset (m.header.fields.l1_entries * 8)

-- 1 if cluster d has a part of an L1 table at this offset with `more` more entries, otherwise 0
abbrev pub new_l1 : Metadata → ℕ → ℕ → ℕ → ℕ
new_l1 m offset more d = meets m.header.fields d offset ((m.header.fields.l1_entries + more) * 8)

-- A longer L1 table is ready at this offset. It has the entries of the old table, followed by zeroes. Its clusters are reserved, and
-- their refcounts are above 0 in the file, too.
pub record IsReadyL1Table (m : Metadata) (offset more : ℕ) : Type 0 where
  pub raw_entries : (i : ℕ) → i < m.header.fields.l1_entries → raw_entry m.file offset i ≡ raw_entry m.file m.header.fields.l1_offset i
  pub zeroes : (i : ℕ) → m.header.fields.l1_entries ≤ i → i < m.header.fields.l1_entries + more → raw_entry m.file offset i ≡ 0
  pub reserved : (d : ℕ) → 0 < new_l1 m offset more d → IsReserved m d × (1 ≤ count m.file m.header.fields d)

-- x is the file with a header that references the longer table. Only the first 64 bytes differ.
pub record NamesL1Table (m : Metadata) (offset more : ℕ) (x : Bytes) : Type 0 where
  pub loads : header_of true x ≡ Ok (with_l1_table m.header offset (m.header.fields.l1_entries + more))
  pub outside : Outside m.file x 0 64

-- the image with file x and the longer L1 table
abbrev pub with_longer_l1 : Metadata → ℕ → ℕ → Bytes → Metadata
with_longer_l1 m offset more x = record m { file = x; header = with_l1_table m.header offset (m.header.fields.l1_entries + more) }
