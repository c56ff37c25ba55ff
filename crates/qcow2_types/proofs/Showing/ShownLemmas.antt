-- The values of a disk that is a single qcow2 file.
use Rattle.std.proofs.Common.{◌≡◌, ◌≢◌, ℕ, ◌+◌, ◌*◌, ◌/◌, ◌%◌, refl, sym, ◌∙◌, ap, Ok, [], ◌∷◌}
use Rattle.std.specs.Prelude.{Bool, true, false, cond, nat_lt, IsFalse, if◌then◌else◌}
use Rattle.imago_storage.specs.Disk.{byte}
use Rattle.qcow2_types.specs.Bytes.{Bytes}
use Rattle.qcow2_types.specs.Words.{data_at}
use Rattle.qcow2_types.specs.Header.{Header, header_of, cluster_size, entries_of_cluster, has_external_data}
use Rattle.qcow2_types.specs.Entries.{l2_table}
use Rattle.qcow2_types.specs.Slots.{slot, guest_slot}
use Rattle.qcow2_types.specs.Disk.{at, qcow2, shown, shown_by, host_byte, in_qcow2}
use Rattle.qcow2_types.specs.Consistency.{IsConsistent}
use Rattle.qcow2_types.proofs.Counting.Consistent.{header-reading}
use Rattle.qcow2_types.proofs.Showing.Values.{entry-slot}
use Rattle.qcow2_types.proofs.Showing.Shows.{guest-slot-there}

-- the value at an offset, without a layer below
pub disk-value : (f external : Bytes) (H : Header) → header_of false f ≡ Ok H → (p : ℕ) → at (qcow2 f external ∷ []) p ≡ shown f external H.fields p (byte 0)
disk-value f external H loads p =
    ap (λ v. in_qcow2 f external (header_of false f) p v) (nothing-below (nat_lt p 0))
    ∙ ap (λ r. in_qcow2 f external r p (byte 0)) loads
  where
    nothing-below : (b : Bool) → cond b (byte 0) (byte 0) ≡ byte 0
    nothing-below true = refl
    nothing-below false = refl

module _ (f external : Bytes) (H : Header) (was : IsConsistent f H) where
  pub consistent-reading : header_of false f ≡ Ok H
  consistent-reading = header-reading f H was.readable.loads

  -- the value at an offset, by the L2 entry of its guest cluster
  pub guest-value : (p : ℕ) → at (qcow2 f external ∷ []) p ≡ shown_by (guest_slot f H.fields (p / cluster_size H.fields)) (host_byte f external H.fields p) (byte 0)
  guest-value p = disk-value f external H consistent-reading p ∙ ap (λ m. shown_by m (host_byte f external H.fields p) (byte 0)) (entry-slot f H.fields (p / cluster_size H.fields) was.readable.tables)

  -- the data is in the image itself
  inside-byte : (p d : ℕ) → host_byte f external H.fields p d ≡ byte (f (d * cluster_size H.fields + p % cluster_size H.fields))
  inside-byte p d = pick (has_external_data H.fields) was.readable.data_inside
    where
      pick : (b : Bool) → IsFalse b → byte ((if b then external else f) (d * cluster_size H.fields + p % cluster_size H.fields)) ≡ byte (f (d * cluster_size H.fields + p % cluster_size H.fields))
      pick true e = cc
      pick false e = refl

  -- the value of a data entry is the byte in its cluster
  pub data-value : (p d : ℕ) (copied : Bool) → guest_slot f H.fields (p / cluster_size H.fields) ≡ data_at d copied → at (qcow2 f external ∷ []) p ≡ byte (f (d * cluster_size H.fields + p % cluster_size H.fields))
  data-value p d copied is = guest-value p ∙ (ap (λ m. shown_by m (host_byte f external H.fields p) (byte 0)) is ∙ inside-byte p d)

  -- like `data-value`, with the indices of the table and of the entry
  pub slot-value : (p i j d : ℕ) (copied : Bool) → p / cluster_size H.fields / entries_of_cluster H.fields ≡ i → p / cluster_size H.fields % entries_of_cluster H.fields ≡ j → l2_table f H.fields i ≢ 0 → slot f H.fields i j ≡ data_at d copied
      → at (qcow2 f external ∷ []) p ≡ byte (f (d * cluster_size H.fields + p % cluster_size H.fields))
  slot-value p i j d copied row column there is =
      data-value p d copied (guest-slot-there f H.fields (p / cluster_size H.fields) (λ e. there (sym (ap (l2_table f H.fields) row) ∙ e)) ∙ (ap (λ r. slot f H.fields r (p / cluster_size H.fields % entries_of_cluster H.fields)) row ∙ (ap (slot f H.fields i) column ∙ is)))
