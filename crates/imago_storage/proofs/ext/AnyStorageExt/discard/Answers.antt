use Rattle.imago_storage.proofs.GivingUp.{discard-stops, discard-long}
use Rattle.imago_storage.proofs.ext.AnyStorageExt.discard.Goals as goal

pub returns-clause-crash_images : goal.returns-clause-crash_images
returns-clause-crash_images g c = discard-stops _ _ _ _ c.discard_whole.result c.discard_whole.ensures.ok c.discard_whole.ensures.err

pub returns-clause-as_long : goal.returns-clause-as_long
returns-clause-as_long g c = discard-long _ _ _ _ c.discard_whole.result c.discard_whole.ensures.ok c.discard_whole.ensures.err
