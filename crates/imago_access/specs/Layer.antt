-- A layer of a chain (an image without its backing files): what the chain and its contracts see of a driver.
use Rattle.std.specs.Prelude.{◌≡◌, ℕ, max, Bool, Option, Some, None, List, IsTrue}
use Rattle.imago_storage.specs.Disk.{Value, Hold, free, held}
use Rattle.imago_access.specs.declared.format.Format.{Format}

-- A byte of a layer: a value of the layer's own, or nothing, so that it reads through to the layer below.
pub data Cell : Type 0 where
  own : (value : Value) → Cell
  unmapped : Cell

abbrev pub through : Cell → Value → Value
through (own v) below = v
through unmapped below = below

-- The state of a byte in the prepared mapping. `loose`: the byte isn't held. `beside`: it was copied, but isn't in the requested run.
-- `inside`: it is in the run, with the copied byte, the written byte, and whether the caller promised to write the whole run.
pub data Held : Type 0 where
  loose : Held
  beside : (copied : ℕ) → Held
  inside : (copied written : Option ℕ) (announced : Bool) → Held

-- The state of a byte in the prepared mapping, as the disk sees it.
abbrev pub hold_of : Held → Hold
hold_of loose = free
hold_of (beside copied) = free
hold_of (inside copied written announced) = held written announced

-- The meaning of a file by itself, as the image file of a layer: a size in bytes, the byte at each offset, and whether it refers to a layer
-- below (a backing file).
pub record Meaning : Type 0 where
  pub size : ℕ
  pub cell : ℕ → Cell
  pub backed : Bool

-- The properties of a layer that never change.
pub record Fixed : Type 0 where
  pub format : Format
  -- the image was opened for writing
  pub writable : Bool
  -- by what lookups report, bytes of the layers below may be written there in place
  pub lets_through : Bool
  -- its storages keep what is written
  pub keeps : Bool
  -- a file that it needs wasn't handed in
  pub missing : Bool
  -- the number of its open image, which no other image has
  pub number : ℕ
  -- what it has for a byte that it leaves to the layer below (the backing file)
  pub blank : Cell
  -- the greatest alignments of its storages, in bytes
  pub req_align : ℕ
  pub mem_align : ℕ
  -- the alignment of the ranges that it can zero by itself, in bytes
  pub granularity : Option ℕ
  -- the kind of image that its file must be, and the meaning of each file of that kind
  pub kind : ℕ
  pub means : List ℕ → Meaning
  -- the leak of each cluster of such a file: its refcount minus its references, or 0 in a format without refcounts
  pub leaks : List ℕ → ℕ → ℕ
  -- its file states the size of the disk
  pub exact : Bool
  -- after a resource error the image has failed, or nothing has changed
  pub marks_failed : Bool
  -- its lookups report for each byte whether it is allocated, and whether it is zeroed
  pub reports_allocation : Bool
  -- the unit of allocation, in bytes: the bytes from each multiple of it to the next one, or to the end of the disk
  pub unit : ℕ

pub record Layer : Type 0 where
  pub fixed : Fixed
  -- in bytes
  pub size : ℕ
  -- after an earlier failure: the image must be opened again
  pub failed : Bool
  pub cell : ℕ → Cell
  -- the storage and the offset where a byte can be written in place, if it can
  pub writable_location : ℕ → Option (ℕ × ℕ)
  pub held : ℕ → Held
  -- the prepared mapping with state that isn't committed or cancelled yet
  pub unspent : Option ℕ

-- The unit of its requests, in bytes.
abbrev pub unit_of_layer : Layer → ℕ
unit_of_layer layer = max layer.fixed.req_align layer.fixed.mem_align

-- No mapping is prepared.
abbrev pub IsFree : Layer → Type 0
IsFree layer = layer.unspent ≡ None

-- No two bytes have the same writable location.
abbrev pub IsOneAt : Layer → ℕ × ℕ → ℕ → ℕ → Type 0
IsOneAt layer at p q = layer.writable_location p ≡ Some at → layer.writable_location q ≡ Some at → p ≡ q

-- The layer keeps what never changes, its size and its prepared mapping. If it had failed, it still has. Resizes, reloads, and calls that
-- prepare, commit or cancel a mapping don't promise this.
pub record KeepsLayerState (old new : Layer) : Type 0 where
  pub fixed : new.fixed ≡ old.fixed
  pub size : new.size ≡ old.size
  pub unspent : new.unspent ≡ old.unspent
  pub failed : IsTrue old.failed → IsTrue new.failed
