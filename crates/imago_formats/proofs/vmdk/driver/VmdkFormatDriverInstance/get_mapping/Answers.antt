use Rattle.std.specs.Prelude.{⊤}
use Rattle.imago_access.specs.Files.{HadNoResourceError}
use Rattle.imago_access.proofs.Looking.{looked_same}
use Rattle.imago_formats.proofs.vmdk.driver.VmdkFormatDriverInstance.get_mapping.Goals as goal

pub returns-clause-lookup_call : goal.returns-clause-lookup_call
returns-clause-lookup_call g c = looked_same _ ⊤ c.args.self.now

pub returns-in_err-ready-clause-lookup_call : goal.returns-in_err-ready-clause-lookup_call
returns-in_err-ready-clause-lookup_call g c = looked_same _ (HadNoResourceError c.from_residual.result) c.args.self.now
