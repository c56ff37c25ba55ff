-- The value that contracts use for a header in memory, and its invariant.
use Rattle.std.specs.Prelude.{ℕ, List, Option, String, map, IsTrue}
use Rattle.std.specs.Option.{option_map}
use Rattle.std.specs.String.{string_bytes}
use Rattle.std.specs.declared.alloc.Global.{Global}
use Rattle.qcow2_types.specs.Header.{Header as HeaderRecord}
use Rattle.qcow2_metadata.specs.FieldsView.{seen_fields, IsHeader}
use Rattle.qcow2_metadata.specs.Features.{seen_name, in_order}
use Rattle.qcow2_metadata.specs.declared.header.Header.TheInside.{Inside}

-- The bytes of a text, if any.
abbrev pub seen_text : Option (String Global) → Option (List ℕ)
seen_text text = option_map string_bytes text

-- A header as contracts see it.
abbrev pub seen_header : Inside → HeaderRecord
seen_header h = record {
  fields = seen_fields h.v2 h.v3;
  backing_name = seen_text h.backing_filename;
  backing_format = seen_text h.backing_format;
  data_file_name = seen_text h.external_data_filename;
  features = map seen_name h.feature_names.items;
}

-- The invariant of every header.
pub record HeaderInvariant (h : Inside) : Type 0 where
  pub parts : IsHeader h.v2 h.v3
  pub ordered : IsTrue (in_order (map seen_name h.feature_names.items))
