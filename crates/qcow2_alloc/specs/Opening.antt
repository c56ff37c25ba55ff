-- The state of an image right after it is opened: its metadata is loaded, and nothing is cached yet.
use Rattle.std.specs.Prelude.{◌≡◌, IsTrue, []}
use Rattle.qcow2_types.specs.Bytes.{Bytes}
use Rattle.qcow2_types.specs.Header.{Fields, Header, layout_of}
use Rattle.qcow2_types.specs.Entries.{l1_table_sound}
use Rattle.qcow2_metadata.specs.Tables.{TableValue, raw_entries_in}
use Rattle.qcow2_alloc.specs.declared.cache.CacheDependency.TheVariants.{Unset}
use Rattle.qcow2_alloc.specs.GuestView.{Metadata}

-- The image has the header and the refcount table that were loaded. Nothing is cached, no write order is set, and the free list is empty.
abbrev pub opened : Bytes → Header → TableValue → Metadata
opened f H table = record { file = f; header = H; cached = record { tables = []; blocks = [] }; order = Unset; table = table; pending = [] }

-- The L1 table in memory has the entries of the file's, and each is valid.
pub record IsL1Of (f : Bytes) (h : Fields) (table : TableValue) : Type 0 where
  pub layout : table.layout ≡ layout_of h
  pub raw_entries : table.raw_entries ≡ raw_entries_in f h.l1_offset h.l1_entries
  pub sound : IsTrue (l1_table_sound f h)
