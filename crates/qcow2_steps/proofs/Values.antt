-- The values of guest bytes, by mappings and bytes.
use Rattle.std.proofs.Common.{◌≡◌, ℕ, ◌+◌, ◌*◌, ◌%◌, refl, ap, Bool, Some}
use Rattle.imago_storage.specs.Disk.{byte}
use Rattle.qcow2_types.specs.Bytes.{Bytes}
use Rattle.qcow2_types.specs.Consistency.{IsConsistent}
use Rattle.qcow2_types.specs.Header.{Fields, cluster_size}
use Rattle.qcow2_types.specs.Versions.{SamePlaces}
use Rattle.qcow2_types.specs.Words.{Mapping, data_at, zeroes, packed, unmapped, damaged}
use Rattle.qcow2_alloc.specs.GuestView.{Metadata, IsSound, in_memory}
use Rattle.qcow2_alloc.proofs.Memory.MemoryImage.{safe-memory}
use Rattle.qcow2_alloc.proofs.Memory.MemoryWords.{places-in-memory}
use Rattle.qcow2_steps.specs.Values.{own_value_by}

-- The value at an offset is the same if the mapping is, and the byte that it references.
pub value-same : (f x : Bytes) (h : Fields) (p : ℕ) (w : Mapping)
    → ((d : ℕ) (copied : Bool) → w ≡ data_at d copied → x (d * cluster_size h + p % cluster_size h) ≡ f (d * cluster_size h + p % cluster_size h))
    → own_value_by x h p w ≡ own_value_by f h p w
value-same f x h p (data_at d copied) same = ap (λ b. Some (byte b)) (same d copied refl)
value-same f x h p (zeroes d copied) same = refl
value-same f x h p (packed offset n) same = refl
value-same f x h p unmapped same = refl
value-same f x h p damaged same = refl

-- The image in memory is consistent, and has its tables and blocks at the offsets of the file.
module _ (m : Metadata) (sound : IsSound m) where
  pub within : IsConsistent (in_memory m) m.header
  within = safe-memory m.file m.header m.cached m.order sound.well_formed

  pub places-there : SamePlaces m.file (in_memory m) m.header.fields
  places-there = places-in-memory m.file m.header sound.well_formed.consistent m.cached sound.well_formed.tables sound.well_formed.blocks
