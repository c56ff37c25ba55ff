use Rattle.std.specs.Prelude.{⊤}
use Rattle.imago_access.specs.Files.{HadNoResourceError}
use Rattle.imago_access.proofs.Looking.{looked_under_same}
use Rattle.access_cases.proofs.clusters.OneClusterFormatDriverInstance.resize_grow.Goals as goal

pub returns-in_err-ready-clause-below : goal.returns-in_err-ready-clause-below
returns-in_err-ready-clause-below g c = looked_under_same g.B.LayersBelowModel (HadNoResourceError c.from_residual.result) c.args._below.now

pub returns-then-size-self-clause-below : goal.returns-then-size-self-clause-below
returns-then-size-self-clause-below g c = looked_under_same g.B.LayersBelowModel (⊤) c.args._below.now

pub returns-then-not-self-clause-below : goal.returns-then-not-self-clause-below
returns-then-not-self-clause-below g c = looked_under_same g.B.LayersBelowModel (⊤) c.args._below.now

pub returns-clause-below : goal.returns-clause-below
returns-clause-below g c = looked_under_same g.B.LayersBelowModel (⊤) c.args._below.now
