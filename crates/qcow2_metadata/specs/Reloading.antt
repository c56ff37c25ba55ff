-- The conditions under which a header that was written to a file can be loaded from it.
use Rattle.std.specs.Prelude.{◌≡◌, ◌≢◌, ◌⊎◌, ℕ, ◌<◌, ◌^◌, Bool, true, ◌&&◌, not, ◌==◌, nat_lt, nat_le, IsTrue, List, [], length, Option, Some, None}
use Rattle.std.specs.List.{list_all}
use Rattle.std.specs.Str.{is_utf8}
use Rattle.qcow2_types.specs.Header.{Feature, Fields, Header as HeaderRecord, first_fault, rules_of_shape, rules_of_size, rules_of_writing}
use Rattle.qcow2_types.specs.HeaderBytes.{written_fields, fits_first_cluster}
use Rattle.qcow2_types.specs.HeaderSwitch.{FirstFieldsFit}
use Rattle.qcow2_metadata.specs.Features.{in_order}

-- The text, if any, is UTF-8.
abbrev pub is_text : Option (List ℕ) → Bool
is_text None = true
is_text (Some text) = is_utf8 text

-- A name of a known kind: UTF-8, of at most 46 bytes, without a byte 0.
abbrev pub is_plain_name : Feature → Bool
is_plain_name x = nat_lt x.kind 3 && is_utf8 x.name && nat_le (length x.name) 46 && list_all (λ b. not (b == 0)) x.name

-- Each number after byte 63 fits its field.
pub record LaterFieldsFit (h : Fields) : Type 0 where
  pub snapshots_offset : h.snapshots_offset < 2 ^ 64
  pub incompatible : h.incompatible < 2 ^ 64
  pub compatible : h.compatible < 2 ^ 64
  pub autoclear : h.autoclear < 2 ^ 64
  pub refcount_order : h.refcount_order < 2 ^ 32

-- The header has nothing that version 2 can't store: no feature bits, no extensions, refcounts of 16 bits.
pub record HasNothingNewer (h : HeaderRecord) : Type 0 where
  pub incompatible : h.fields.incompatible ≡ 0
  pub compatible : h.fields.compatible ≡ 0
  pub autoclear : h.fields.autoclear ≡ 0
  pub refcount_order : h.fields.refcount_order ≡ 4
  pub backing_format : h.backing_format ≡ None
  pub data_file_name : h.data_file_name ≡ None
  pub features : h.features ≡ []

-- The header fits its cluster, and keeps the rules under which it loads again, for reading or for writing.
pub record IsReloadable (writing : Bool) (h : HeaderRecord) : Type 0 where
  pub version : (h.fields.version ≡ 2) ⊎ (h.fields.version ≡ 3)
  pub older : h.fields.version ≡ 2 → HasNothingNewer h
  pub first : FirstFieldsFit (written_fields h)
  pub later : LaterFieldsFit h.fields
  pub shape : first_fault (rules_of_shape (written_fields h)) ≡ None
  pub sizes : first_fault (rules_of_size (written_fields h)) ≡ None
  pub allowed : first_fault (rules_of_writing writing (written_fields h)) ≡ None
  pub fits : IsTrue (fits_first_cluster h)
  -- an empty name would load as none
  pub named : h.backing_name ≢ Some []
  pub backing_name : IsTrue (is_text h.backing_name)
  pub backing_format : IsTrue (is_text h.backing_format)
  pub data_file_name : IsTrue (is_text h.data_file_name)
  pub names : IsTrue (list_all is_plain_name h.features)
  pub ordered : IsTrue (in_order h.features)
