-- The fields of a header that may change while its image is open.
use Rattle.std.specs.Prelude.{◌≡◌}
use Rattle.qcow2_types.specs.Header.{Header as HeaderRecord}

-- The header `h` with the size and with the offsets and lengths of the tables of `other`.
abbrev pub with_places_of : HeaderRecord → HeaderRecord → HeaderRecord
with_places_of other h = record h {
  fields = record h.fields {
    size = other.fields.size;
    l1_entries = other.fields.l1_entries;
    l1_offset = other.fields.l1_offset;
    refcount_table_offset = other.fields.refcount_table_offset;
    refcount_table_clusters = other.fields.refcount_table_clusters;
  };
}

-- Both headers have the same texts.
pub record SameTexts (a b : HeaderRecord) : Type 0 where
  pub backing_name : a.backing_name ≡ b.backing_name
  pub backing_format : a.backing_format ≡ b.backing_format
  pub data_file_name : a.data_file_name ≡ b.data_file_name
  pub features : a.features ≡ b.features
