use Rattle.qcow2_types.proofs.Worked.Disk.{shown_bytes, below, packed_barred, packed_entry}
use Rattle.qcow2_types.proofs.worked_image.shown_bytes.Goals as goal

pub returns : goal.returns
returns c = record { alone = shown_bytes; over_raw = below; compressed = packed_barred; compressed_entry = packed_entry }
