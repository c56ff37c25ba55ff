use Rattle.std.proofs.lemmas.Nat.Bits.{and_high}
use Rattle.qcow2_metadata.proofs.words.offset_in.Goals as goal

pub returns : goal.returns
returns c = and_high c.args.raw_entry 47 9
