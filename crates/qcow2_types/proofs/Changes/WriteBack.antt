-- The crash images of a write of one dirty table to a consistent file.
use Rattle.std.proofs.Common.{◌≡◌, ◌≢◌, ℕ, ◌+◌, ◌*◌, ◌/◌, ◌%◌, ◌^◌, ◌<◌, ◌≤◌, arith, sym, subst, List, length, Ok}
use Rattle.std.specs.Prelude.{Bool, true, false, ◌&&◌, ◌==◌, nat_lt, IsTrue, IsFalse, slice_index}
use Rattle.std.proofs.lemmas.Bool.{lt-ltb}
use Rattle.std.proofs.lemmas.Bool.Decides.{nat_tests}
use Rattle.std.proofs.Math.Nat.{pow-le-pow_right, div-add-mod}
use Rattle.qcow2_types.specs.Bytes.{Bytes, raw_entry, splice}
use Rattle.qcow2_types.specs.Words.{bits_at, is_damaged, l1_entry_valid, is_cluster_offset, max_offset, table_offset}
use Rattle.qcow2_types.specs.Header.{Fields, Header, header_of, fields_of, cluster_size, Shaped}
use Rattle.qcow2_types.specs.Entries.{l2_table}
use Rattle.qcow2_types.specs.Counts.{count}
use Rattle.qcow2_types.specs.References.{structure}
use Rattle.qcow2_types.specs.Consistency.{IsConsistent}
use Rattle.qcow2_types.specs.Frames.{Same, touches, Skipped, l1_word, block_word, table, SameStructureOutside}
use Rattle.qcow2_types.specs.Slots.{Live, slot, ValidEntries}
use Rattle.qcow2_types.proofs.Counting.Parts.{touches-once, l2_table-kept, block_at-kept, slot-kept}
use Rattle.qcow2_types.specs.Versions.{SamePlaces, KeepsSlots, BlocksFirst, ReferencedOnce}
use Rattle.qcow2_types.proofs.Changes.Stops.{write-keeps, write-between, write-after-blocks}
use Rattle.qcow2_types.proofs.Fields.HeaderFrame.{header-same, header-fields, header-shaped}
use Rattle.qcow2_types.proofs.Counting.Sound.{sound-words, stop-consistent}

-- a valid offset of a cluster is a multiple of the cluster size, and at most the largest
pub place-whole : (bits offset : ℕ) → IsTrue (is_cluster_offset bits offset) → offset / 2 ^ bits * 2 ^ bits ≡ offset
place-whole bits offset sound = let rest : offset % 2 ^ bits ≡ 0 = grind (arith, nat_tests) in omega (arith, div-add-mod offset (2 ^ bits))

pub place-near : (bits offset : ℕ) → IsTrue (is_cluster_offset bits offset) → offset ≤ max_offset
place-near bits offset sound = grind (arith, nat_tests)

-- the offset of an L2 table is one of a cluster
pub table-place : (f : Bytes) (h : Fields) (i : ℕ) → ValidEntries f h → i < h.l1_entries → IsTrue (is_cluster_offset h.cluster_bits (l2_table f h i))
table-place f h i sound lt =
    let within : nat_lt i h.l1_entries ≡ true = lt-ltb _ _ lt in
    let here : l1_entry_valid h.cluster_bits (raw_entry f h.l1_offset i) ≡ true = sound.l1 i lt in
    rw within (last (bits_at (raw_entry f h.l1_offset i) 0 9 == 0) (bits_at (raw_entry f h.l1_offset i) 56 7 == 0) (is_cluster_offset h.cluster_bits (table_offset (raw_entry f h.l1_offset i))) here)
  where
    last : (a b c : Bool) → (a && b && c) ≡ true → c ≡ true
    last true true c e = e
    last true false c e = absurd cc
    last false b c e = absurd cc

-- A change outside the L2 tables, the L1 table and the refcount table changes no mapping.
pub keeps-slots : (f x : Bytes) (h : Fields) (skip : Skipped) → SameStructureOutside f x h skip → ((i : ℕ) → skip ≢ l1_word i) → ((i : ℕ) → skip ≢ block_word i) → ((i : ℕ) → skip ≢ table i) → KeepsSlots f x h
keeps-slots f x h skip kept l1 blocks tables = record {
  places = record { l1 = λ i. l2_table-kept f x h skip kept i (l1 i); blocks = λ i. block_at-kept f x h skip kept i (blocks i) };
  slots = λ i j live. slot-kept f x h skip kept i j live (l1 i) (tables i);
}

module _ (f g : Bytes) (H : Header) (i : ℕ) (bytes : List ℕ) (was : IsConsistent f H) (lt : i < H.fields.l1_entries) (there : l2_table f H.fields i ≢ 0)
    (all : length bytes ≡ cluster_size H.fields) (cached : (k : ℕ) → k < cluster_size H.fields → slice_index bytes k ≡ g (l2_table f H.fields i + k)) (places : SamePlaces f g H.fields) where
  fields : H.fields ≡ fields_of f
  fields = header-fields true f H was.readable.loads

  pub shaped : Shaped H.fields
  shaped = subst Shaped (sym fields) (header-shaped true f H was.readable.loads)

  -- the write touches one part of the structure
  pub once : structure f H.fields (touches (l2_table f H.fields i) (length bytes)) ≤ 1
  once =
      let c : ℕ = l2_table f H.fields i / cluster_size H.fields in
      let place : l2_table f H.fields i / cluster_size H.fields * cluster_size H.fields ≡ l2_table f H.fields i =
      place-whole H.fields.cluster_bits (l2_table f H.fields i) (table-place f H.fields i (sound-words f H.fields was.readable.tables) lt) in
      touches-once f H.fields (l2_table f H.fields i / cluster_size H.fields) (l2_table f H.fields i) (length bytes) (was.structure_apart _) (omega arith) (omega arith)

  -- the rest of the structure is the same
  pub kept : SameStructureOutside f (splice f (l2_table f H.fields i) bytes) H.fields (table i)
  kept = write-keeps f g H.fields i bytes shaped lt there all cached once places

  -- the header still loads
  pub loads-still : header_of true (splice f (l2_table f H.fields i) bytes) ≡ Ok H
  loads-still =
      let size : 2 ^ 9 ≤ 2 ^ H.fields.cluster_bits = pow-le-pow_right (omega arith) shaped.low in
      let start : Same f (splice f (l2_table f H.fields i) bytes) 0 (cluster_size H.fields) = kept.start (λ e. cc) in
      header-same true f (splice f (l2_table f H.fields i) bytes) H was.readable.loads
      (subst (λ h. Same f (splice f (l2_table f H.fields i) bytes) 0 (cluster_size h)) fields start)
      (subst (λ h. 104 ≤ cluster_size h) fields (omega arith))
