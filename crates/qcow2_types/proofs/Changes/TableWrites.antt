-- A write to a table or a block doesn't change the bytes of a cluster that an L2 entry references.
use Rattle.std.proofs.Common.{◌≡◌, ℕ, ◌+◌, ◌*◌, ◌<◌, ◌≤◌, arith}
use Rattle.std.specs.Prelude.{Bool}
use Rattle.qcow2_types.specs.Bytes.{Bytes}
use Rattle.qcow2_types.specs.Words.{data_at}
use Rattle.qcow2_types.specs.Header.{Fields, cluster_size}
use Rattle.qcow2_types.specs.Entries.{l2_table}
use Rattle.qcow2_types.specs.References.{structure, of_mapping, meets}
use Rattle.qcow2_types.specs.Frames.{Same, Outside}
use Rattle.qcow2_types.proofs.Counting.Slots.{slot-le}
use Rattle.qcow2_types.specs.Slots.{Live, slot, over_slots}
use Rattle.qcow2_types.specs.Versions.{references_in_either, of_either, ReferencedOnce}
use Rattle.qcow2_types.proofs.Changes.DataWrites.{data-apart}

module _ (f g x : Bytes) (h : Fields) (c at n : ℕ) (apart : ReferencedOnce f g h) (metadata : 0 < structure f h (meets h c)) (out : Outside f x at n)
    (low : c * cluster_size h ≤ at) (high : at + n ≤ (c + 1) * cluster_size h) (i j : ℕ) (live : Live (l2_table f h) h i j) where
  -- no L2 entry references the cluster that was written
  not_referenced : of_either h (meets h c) (slot f h i j) (slot g h i j) ≡ 0
  unfolding references_in_either
  not_referenced =
      let one : references_in_either f g h c ≤ 1 = apart c (omega arith) in
      let le : of_either h (meets h c) (slot f h i j) (slot g h i j) ≤ over_slots (l2_table f h) h (λ k m. of_either h (meets h c) (slot f h k m) (slot g h k m)) =
      slot-le (l2_table f h) h (λ k m. of_either h (meets h c) (slot f h k m) (slot g h k m)) i j live in
      omega arith
