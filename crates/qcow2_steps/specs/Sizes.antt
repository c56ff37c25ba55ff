-- Definitions for setting the header to another disk size, in an image whose caches are empty.
use Rattle.std.specs.Prelude.{◌≡◌, ℕ, true, Ok, List, []}
use Rattle.qcow2_types.specs.Bytes.{Bytes}
use Rattle.qcow2_types.specs.Counts.{count}
use Rattle.qcow2_types.specs.Entries.{entry}
use Rattle.qcow2_types.specs.Frames.{Outside}
use Rattle.qcow2_types.specs.Header.{Header, header_of}
use Rattle.qcow2_types.specs.Pending.{FreeEntry}
use Rattle.qcow2_types.specs.References.{refs}
use Rattle.qcow2_types.specs.Switched.{sized, with_size}
use Rattle.qcow2_metadata.specs.Tables.{TableValue}
use Rattle.qcow2_alloc.specs.declared.cache.CacheDependency.TheVariants.{Unset}
use Rattle.qcow2_alloc.specs.GuestView.{IsSound, Metadata}
use Rattle.qcow2_steps.specs.Values.{own_value}

-- an image with nothing cached
abbrev pub rested : Bytes → Header → TableValue → List FreeEntry → Metadata
rested f H table pending = record {
  file = f;
  header = H;
  cached = record { tables = []; blocks = [] };
  order = Unset;
  table = table;
  pending = pending;
}

-- x is the file with a header of this disk size. Only the first 64 bytes differ.
pub record WritesHeaderSize (f : Bytes) (H : Header) (n : ℕ) (x : Bytes) : Type 0 where
  pub loads : header_of true x ≡ Ok (with_size H n)
  pub outside : Outside f x 0 64

-- The image with file x is consistent in the file and in memory. Each guest byte, mapping, refcount and reference is the same.
pub record KeepsAllButSize (f : Bytes) (H : Header) (n : ℕ) (x : Bytes) (table : TableValue) (pending : List FreeEntry) : Type 0 where
  pub sound : IsSound (rested x (with_size H n) table pending)
  pub values : (p : ℕ) → own_value x x (sized H.fields n) p ≡ own_value f f H.fields p
  pub raw_entries : (guest : ℕ) → entry x (sized H.fields n) guest ≡ entry f H.fields guest
  pub counts : (c : ℕ) → count x (sized H.fields n) c ≡ count f H.fields c
  pub names : (c : ℕ) → refs x (sized H.fields n) c ≡ refs f H.fields c
