-- A lemma on what a layer reads by the mapping of a cluster, in the definitions of the format.
use Rattle.std.proofs.Common.{◌≡◌, ◌∙◌, ℕ, ◌<◌, ◌/◌, ap, refl, false, List, Result, Ok, Err}
use Rattle.std.proofs.lemmas.Bool.{lt-ltb}
use Rattle.imago_storage.specs.Disk.{Value}
use Rattle.imago_storage.specs.declared.fault.Fault.{Fault}
use Rattle.imago_access.specs.Layer.{Cell, through}
use Rattle.qcow2_types.specs.Bytes.{Bytes, bytes_of}
use Rattle.qcow2_types.specs.Disk.{in_qcow2, shown_by, host_byte, size_in_header}
use Rattle.qcow2_types.specs.Entries.{entry}
use Rattle.qcow2_types.specs.Header.{Fields, Header, cluster_size, has_external_data, header_of}
use Rattle.qcow2_types.specs.Words.{Mapping, data_at, zeroes, packed, damaged}
use Rattle.qcow2_types.specs.Words as mappings
use Rattle.qcow2_image.specs.ImageLayer.{cell_by, cells, meaning_of, qcow2_meaning}

by-mapping : (blank : Cell) (f e : Bytes) (h : Fields) (p : ℕ) (below : Value) (m : Mapping) → has_external_data h ≡ false
    → through (cell_by blank f h p m) below ≡ shown_by m (host_byte f e h p) (through blank below)
by-mapping blank f e h p below (data_at cluster mark) inside = rw inside refl
by-mapping blank f e h p below (zeroes cluster mark) inside = refl
by-mapping blank f e h p below (packed offset n) inside = refl
by-mapping blank f e h p below mappings.unmapped inside = refl
by-mapping blank f e h p below damaged inside = refl

shown-in : (blank : Cell) (f e : Bytes) (H : Header) (p : ℕ) (below : Value) → has_external_data H.fields ≡ false → p < H.fields.size
    → through (cells blank f f H.fields p) below ≡ in_qcow2 f e (Ok H) p (through blank below)
shown-in blank f e H p below inside within =
    rw (lt-ltb p H.fields.size within) (by-mapping blank f e H.fields p below (entry f H.fields (p / cluster_size H.fields)) inside)

pub shows-the-file : (blank : Cell) (file : List ℕ) (e : Bytes) (H : Header) (p : ℕ) (below : Value) → header_of false (bytes_of file) ≡ Ok H
    → has_external_data H.fields ≡ false → p < H.fields.size
    → through ((qcow2_meaning blank file).cell p) below ≡ in_qcow2 (bytes_of file) e (Ok H) p (through blank below)
shows-the-file blank file e H p below loads inside within =
    ap (λ r. through ((meaning_of blank (bytes_of file) r).cell p) below) loads ∙ shown-in blank (bytes_of file) e H p below inside within

pub size-of-file : (blank : Cell) (file : List ℕ) → (qcow2_meaning blank file).size ≡ size_in_header (header_of false (bytes_of file))
size-of-file blank file = from (header_of false (bytes_of file)) where
  from : (r : Result Header Fault) → (meaning_of blank (bytes_of file) r).size ≡ size_in_header r
  from (Ok H) = refl
  from (Err fault) = refl
