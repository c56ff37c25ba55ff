-- The value that contracts use for a `TableLayout`: the header values that the meaning of an entry depends on.
use Rattle.std.specs.Prelude.{◌≤◌}
use Rattle.qcow2_types.specs.Words.{Layout}
use Rattle.qcow2_metadata.specs.declared.layout.TableLayout.TheInside.{Inside}

abbrev pub seen_layout : Inside → Layout
seen_layout l = record { cluster_bits = l.cluster_bits; version = l.version; external_data = l.external_data }

abbrev pub layout_inside : Layout → Inside
layout_inside l = record { cluster_bits = l.cluster_bits; version = l.version; external_data = l.external_data }

abbrev pub IsLayout : Inside → Type 0
IsLayout l = (9 ≤ l.cluster_bits) × (l.cluster_bits ≤ 21)
