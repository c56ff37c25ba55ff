use Rattle.std.proofs.Common.{◌≡◌, ◌-◌, ◌/◌, ◌<◌, ◌^◌, length}
use Rattle.qcow2_types.specs.Bytes.{bytes_of}
use Rattle.qcow2_types.specs.Header.{extensions_at}
use Rattle.qcow2_metadata.specs.Extensions.{known_of}
use Rattle.std.specs.Option.{option_copied}
use Rattle.qcow2_metadata.proofs.ExtensionLemmas.{with_rest}
use Rattle.qcow2_metadata.proofs.extensions.known_extensions.Given as goal

-- The known extensions and the unread ones are all extensions.
abbrev pub invariant-loop : goal.invariant-loop
invariant-loop l =
    (with_rest (record { backing_format = option_copied l.backing_format; data_file_name = option_copied l.external_data_filename; feature_names = option_copied l.feature_names }) (extensions_at (length l.bytes / 8 - l.counter) (bytes_of l.bytes) l.area_end l.at) ≡ known_of (extensions_at (length l.bytes / 8) (bytes_of l.bytes) l.area_end l.start))
    × (l.at < 2 ^ 33)
