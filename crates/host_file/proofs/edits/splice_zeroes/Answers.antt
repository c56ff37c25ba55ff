use Rattle.std.proofs.Common.{arith}
use Rattle.imago_storage.proofs.Replay.{splice_is}
use Rattle.imago_storage.proofs.Zeroes.{length_of_zeroes}
use Rattle.host_file.proofs.edits.splice_zeroes.Goals as goal

pub returns-clause-spliced : goal.returns-clause-spliced
returns-clause-spliced c = splice_is _ _ _ _ c.overwrite_zeroes.ensures.spliced (omega (arith, c.overwrite_zeroes.ensures.len, length_of_zeroes c.args.n))
