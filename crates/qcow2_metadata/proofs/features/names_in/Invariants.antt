use Rattle.std.proofs.Common.{◌≡◌, ◌-◌, ◌*◌, ◌/◌, map, length, [], drop}
use Rattle.qcow2_types.specs.Header.{with_names, features_of}
use Rattle.qcow2_metadata.specs.Features.{seen_name}
use Rattle.qcow2_metadata.proofs.features.names_in.Given as goal

-- The names that were read and the unread ones are all names.
abbrev pub invariant-loop-i : goal.invariant-loop-i
invariant-loop-i l = with_names (map seen_name l.names.items) (features_of (length l.bytes / 48 - l.i) (drop (l.i * 48) l.bytes)) ≡ with_names [] (features_of (length l.bytes / 48) l.bytes)
