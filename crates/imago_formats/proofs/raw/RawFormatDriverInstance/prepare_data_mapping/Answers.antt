use Rattle.std.specs.Prelude.{⊤}
use Rattle.imago_access.specs.Files.{HadNoResourceError}
use Rattle.imago_access.proofs.Looking.{looked_under_same}
use Rattle.imago_formats.proofs.raw.RawFormatDriverInstance.prepare_data_mapping.Goals as goal

pub returns-then-length-eq0-clause-below : goal.returns-then-length-eq0-clause-below
returns-then-length-eq0-clause-below g c = looked_under_same g.B.LayersBelowModel ⊤ c.args._below.now

pub returns-clause-below : goal.returns-clause-below
returns-clause-below g c = looked_under_same g.B.LayersBelowModel ⊤ c.args._below.now

pub returns-in_err-check_change-clause-below : goal.returns-in_err-check_change-clause-below
returns-in_err-check_change-clause-below g c = looked_under_same g.B.LayersBelowModel (HadNoResourceError c.from_residual.result) c.args._below.now
