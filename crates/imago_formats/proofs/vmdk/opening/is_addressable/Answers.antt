use Rattle.std.proofs.Common.{arith}
use Rattle.imago_storage.proofs.Rounding.{le_round_up}
use Rattle.imago_formats.specs.VmdkLayer.{end_in_file}
use Rattle.imago_formats.proofs.vmdk.opening.is_addressable.Goals as goal

pub returns-in-None-clause-no : goal.returns-in-None-clause-no
returns-in-None-clause-no c = λ is.
    let x = c.args.extent.now in
    omega (arith, c.in-None.ensures.none, le_round_up c.args.unit (end_in_file x.access x.source x.sectors) c.requires)
