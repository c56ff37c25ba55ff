use Rattle.std.proofs.Common.{◌∙◌}
use Rattle.qcow2_types.specs.Bytes.{bytes_of}
use Rattle.qcow2_metadata.proofs.BigEndian.{eight_bytes}
use Rattle.qcow2_metadata.proofs.words.raw_entry_at.Goals as goal

pub returns-then-at-bytes : goal.returns-then-at-bytes
returns-then-at-bytes c = c.from_be_bytes.ensures ∙ eight_bytes (bytes_of c.args.bytes.now) c.args.at
