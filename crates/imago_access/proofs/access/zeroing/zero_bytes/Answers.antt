use Rattle.std.proofs.lemmas.List.{take-replicate}
use Rattle.imago_access.proofs.access.zeroing.zero_bytes.Goals as goal

pub returns : goal.returns
returns c = take-replicate c.args.length 65536 0 c.requires
