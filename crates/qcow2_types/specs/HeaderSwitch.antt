-- A write of the first 64 bytes of a header, which can change the disk's size, and the offsets and lengths of the tables.
use Rattle.std.specs.Prelude.{◌≡◌, ◌<◌, ◌≤◌, ◌^◌, true}
use Rattle.qcow2_types.specs.Header.{Fields, Header, has_backing_name}

-- the fields h, with the size and the tables of `other`
abbrev pub with_tables_of : Fields → Fields → Fields
with_tables_of other h = record h {
  size = other.size;
  l1_entries = other.l1_entries;
  l1_offset = other.l1_offset;
  refcount_table_offset = other.refcount_table_offset;
  refcount_table_clusters = other.refcount_table_clusters;
}

-- the header H, with the size and the tables of `other`
abbrev pub with_places : Fields → Header → Header
with_places other H = record H { fields = with_tables_of other H.fields }

-- The new header differs from the old one only in the size and the tables.
pub record OnlyPlaces (old new : Header) : Type 0 where
  pub same : new ≡ with_places new.fields old

-- each number in bytes 0 to 63 fits in its field
pub record FirstFieldsFit (h : Fields) : Type 0 where
  pub version : h.version < 2 ^ 32
  pub backing_offset : h.backing_offset < 2 ^ 64
  pub backing_length : h.backing_length < 2 ^ 32
  pub cluster_bits : h.cluster_bits < 2 ^ 32
  pub size : h.size < 2 ^ 64
  pub crypt_method : h.crypt_method < 2 ^ 32
  pub l1_entries : h.l1_entries < 2 ^ 32
  pub l1_offset : h.l1_offset < 2 ^ 64
  pub refcount_table_offset : h.refcount_table_offset < 2 ^ 64
  pub refcount_table_clusters : h.refcount_table_clusters < 2 ^ 32
  pub snapshots : h.snapshots < 2 ^ 32

-- The backing file's name, if any, starts after bytes 0 to 63. Otherwise a write of these bytes would change the name.
abbrev pub IsNameAfterFields : Fields → Type 0
IsNameAfterFields h = has_backing_name h ≡ true → 64 ≤ h.backing_offset
