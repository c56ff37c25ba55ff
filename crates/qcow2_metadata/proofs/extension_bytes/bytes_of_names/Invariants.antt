use Rattle.std.proofs.Common.{◌≡◌, map, take}
use Rattle.std.specs.Prelude.{flat_map}
use Rattle.qcow2_types.specs.HeaderBytes.{feature_bytes}
use Rattle.qcow2_metadata.specs.Features.{seen_name}
use Rattle.qcow2_metadata.proofs.extension_bytes.bytes_of_names.Given as goal

-- The names before this one are written.
abbrev pub invariant-loop-name : goal.invariant-loop-name
invariant-loop-name l = l.bytes.items ≡ flat_map feature_bytes (map seen_name (take l.name-index l.names))
