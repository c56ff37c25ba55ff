use Rattle.imago_storage.proofs.Replay.{splice_is}
use Rattle.host_file.proofs.edits.splice.Goals as goal

pub returns-clause-spliced : goal.returns-clause-spliced
returns-clause-spliced c = splice_is _ _ _ _ c.overwrite.ensures.spliced c.overwrite.ensures.len
