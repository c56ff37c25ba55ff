use Rattle.qcow2_image.proofs.Leaks.{leaks-both}
use Rattle.qcow2_image.proofs.LeaksWithNothingPending.{leaks-alike, none-pending, opened-pending}
use Rattle.qcow2_image.proofs.SameLeaks.{leaks-listed}
use Rattle.qcow2_image.proofs.laws.leaks_add_up.Goals as goal

pub returns-clause-both : goal.returns-clause-both
returns-clause-both g c = leaks-both g.S.Storage

pub returns-clause-alike : goal.returns-clause-alike
returns-clause-alike g c = leaks-alike g.S.Storage

pub returns-clause-listed : goal.returns-clause-listed
returns-clause-listed g c = leaks-listed g.S.Storage

pub returns-clause-opened : goal.returns-clause-opened
returns-clause-opened g c = opened-pending g.S.Storage

pub returns-clause-none : goal.returns-clause-none
returns-clause-none g c = none-pending g.S.Storage
