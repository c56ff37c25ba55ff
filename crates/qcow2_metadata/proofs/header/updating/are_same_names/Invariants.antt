use Rattle.std.proofs.Common.{◌≡◌, ◌↔◌, map, length, drop}
use Rattle.qcow2_metadata.specs.Features.{seen_name}
use Rattle.qcow2_metadata.proofs.header.updating.are_same_names.Given as goal

-- The lists are equal exactly if the remaining parts are.
abbrev pub invariant-loop-i : goal.invariant-loop-i
invariant-loop-i l = ((map seen_name l.some ≡ map seen_name l.others) ↔ (map seen_name (drop l.i l.some) ≡ map seen_name (drop l.i l.others))) × (length l.some ≡ length l.others)
