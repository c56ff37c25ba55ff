-- Specifies how an image before and after a step are related: the values that guest bytes may get, in the file and with the cached
-- metadata, and how references and refcounts change. Two steps in sequence are one step.
use Rattle.std.specs.Prelude.{◌≡◌, ◌⊎◌, ℕ, ◌+◌, ◌/◌, ◌≤◌, Option}
use Rattle.imago_storage.specs.Disk.{Value}
use Rattle.qcow2_types.specs.Bytes.{Bytes}
use Rattle.qcow2_types.specs.Consistency.{IsConsistent}
use Rattle.qcow2_types.specs.Entries.{entry}
use Rattle.qcow2_types.specs.Header.{Header, cluster_size}
use Rattle.qcow2_types.specs.Switched.{with_l1_table, with_refcount_table}
use Rattle.qcow2_alloc.specs.GuestView.{Metadata, IsSound, IsUsed, counted, in_memory, referenced_at_all, referenced, waiting}
use Rattle.qcow2_steps.specs.Values.{file_value, memory_value, own_value}

-- The second header differs from the first only in the offsets and lengths of the L1 table and the refcount table.
abbrev pub KeepsHeader : Header → Header → Type 0
KeepsHeader H H' = (l1 : ℕ) × (entries : ℕ) × (table : ℕ) × (clusters : ℕ)
    × (H' ≡ with_refcount_table (with_l1_table H l1 entries) table clusters)

-- x with header H may be a crash image (the file after a crash) of a call on image m that gives these values to guest bytes. It is
-- consistent, and its header differs only in the offsets and lengths of the L1 table and the refcount table. Each guest byte reads as in
-- the file of m, as in memory, or as the call gives.
pub record MayBeCrashImage (gives : ℕ → Option Value → Type 0) (m : Metadata) (x : Bytes) (H : Header) : Type 0 where
  pub consistent : IsConsistent x H
  pub header : KeepsHeader m.header H
  pub shows : (p : ℕ) → (own_value x x H.fields p ≡ file_value m p)
      ⊎ ((own_value x x H.fields p ≡ memory_value m p) ⊎ gives p (own_value x x H.fields p))

-- The image changed from m to m', which is consistent in the file and in memory. Its header differs only in the offsets and lengths of the
-- L1 table and the refcount table, and its file may be a crash image. In memory each guest byte reads as before or as given, and each
-- mapping is the same unless it was set. Clusters that were in use and weren't taken stay in use, and keep their bytes except for written
-- ones. Their entries on the free list and their references don't increase. The excess refcount grows by `handed` and shrinks by `taken`.
pub record Advances (gives : ℕ → Option Value → Type 0) (written set : ℕ → Type 0) (handed taken : ℕ → ℕ) (m m' : Metadata) : Type 0 where
  pub sound : IsSound m'
  pub header : KeepsHeader m.header m'.header
  pub file : MayBeCrashImage gives m m'.file m'.header
  pub memory : (p : ℕ) → (memory_value m' p ≡ memory_value m p) ⊎ gives p (memory_value m' p)
  pub raw_entries : (guest : ℕ) → (entry (in_memory m') m'.header.fields guest ≡ entry (in_memory m) m.header.fields guest) ⊎ set guest
  pub used : (c : ℕ) → IsUsed m c → taken c ≡ 0 → IsUsed m' c
  pub waits : (c : ℕ) → IsUsed m c → taken c ≡ 0 → waiting m' c ≤ waiting m c
  pub names : (c : ℕ) → IsUsed m c → taken c ≡ 0 → referenced_at_all m' c ≤ referenced_at_all m c
  pub used_bytes_unchanged : (p : ℕ) → IsUsed m (p / cluster_size m.header.fields) → taken (p / cluster_size m.header.fields) ≡ 0
      → written p ⊎ (m'.file p ≡ m.file p)
  pub law : (c : ℕ) → counted m' c + referenced m c + waiting m c + taken c ≡ counted m c + referenced m' c + waiting m' c + handed c
