use Rattle.std.proofs.Common.{◌≡◌, [], drop, get_or}
use Rattle.std.specs.Prelude.{map}
use Rattle.std.specs.String.{string_bytes}
use Rattle.imago_formats.specs.VmdkLayer.{file_names}
use Rattle.imago_formats.proofs.vmdk.opening.name_of.Given as goal

abbrev pub invariant-loop-extent : goal.invariant-loop-extent
invariant-loop-extent l =
    get_or (map (λ name. string_bytes name) (file_names l.extents)) l.before []
    ≡ get_or (map (λ name. string_bytes name) (file_names (drop l.extent-index l.extents))) l.left []
