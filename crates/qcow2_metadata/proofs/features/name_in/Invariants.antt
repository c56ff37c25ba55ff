use Rattle.std.proofs.Common.{◌≡◌, drop}
use Rattle.std.specs.Prelude.{map}
use Rattle.qcow2_types.specs.Features.{kind_of}
use Rattle.qcow2_metadata.specs.Features.{seen_name, name_of}
use Rattle.qcow2_metadata.proofs.features.name_in.Given as goal

-- The name isn't among the names before.
abbrev pub invariant-loop-known : goal.invariant-loop-known
invariant-loop-known l = name_of (kind_of l.kind) l.bit (map seen_name (drop l.known-index l.names)) ≡ name_of (kind_of l.kind) l.bit (map seen_name l.names)
