use Rattle.imago_storage.proofs.Composing.{kept_same}
use Rattle.imago_storage.proofs.Handing.{not-ok, err-logged}
use Rattle.imago_storage.proofs.log.copy_of_bytes.Goals as goal

pub returns-in_err-copy-clause-ok : goal.returns-in_err-copy-clause-ok
returns-in_err-copy-clause-ok g c = not-ok c.from_residual.result _ _ c.from_residual.ensures.1

pub returns-in_err-copy-clause-same : goal.returns-in_err-copy-clause-same
returns-in_err-copy-clause-same g c = not-ok c.from_residual.result _ _ c.from_residual.ensures.1

pub returns-in_err-copy-clause-err : goal.returns-in_err-copy-clause-err
returns-in_err-copy-clause-err g c = err-logged _ c.from_residual.ensures.1

pub returns-in-Ok-clause-same : goal.returns-in-Ok-clause-same
returns-in-Ok-clause-same g c = kept_same _ _ c.in-Ok.ensures.unchanged_but_faults c.in-Ok.ensures.faults
