use Rattle.std.proofs.Common.{Some, subst}
use Rattle.std.specs.Box.{with_value}
use Rattle.imago_access.specs.Layers.{chain, layers}
use Rattle.imago_access.specs.Files.{Pairs, HadNoResourceError, files_of}
use Rattle.imago_access.specs.Going.{LookupCall}
use Rattle.imago_access.proofs.Reading.{looked_under, read_near}
use Rattle.imago_access.proofs.access.reading.OptionBoxFormatAccessReadBelow.read.Goals as goal
use Rattle.imago_access.specs.Chain.{at, Each, unit_of_chain}
use Rattle.imago_access.specs.Refusals.{ReadCause}
use Rattle.std.specs.Prelude.{IfErr, map, length}
use Rattle.imago_access.proofs.Units.{unit_aligned}

pub returns-in-Some-clause-lookup_call : goal.returns-in-Some-clause-lookup_call
returns-in-Some-clause-lookup_call g c = let d = g.D.DriverModel in
    let looked = subst (λ v. Pairs (LookupCall d (HadNoResourceError c.read.result)) (chain v) (chain c.read.new.self)) c.deref_mut.ensures.value c.read.ensures.lookup_call in
    rw c.in-Some.is (looked_under layers d (HadNoResourceError c.read.result) (Some c.in-Some.layer) (Some (with_value c.in-Some.layer c.read.new.self)) looked)

pub returns-in-Some-clause-no_range_overflow : goal.returns-in-Some-clause-no_range_overflow
returns-in-Some-clause-no_range_overflow g c = let d = g.D.DriverModel in
    let told = subst (λ v. Each d.coherent (chain v) → IfErr c.read.result (ReadCause (map d.layer (chain v)) (at (map d.layer (chain v))) (unit_of_chain (map d.layer (chain v))) c.args.offset (length c.args.buf.now) (files_of d (chain v)) (files_of d (chain c.read.new.self))))
    c.deref_mut.ensures.value c.read.ensures.cause in
    let under = layers (Some c.in-Some.layer) in
    rw c.in-Some.is (λ see low. read_near c.read.result (map d.layer under) (at (map d.layer under)) (unit_of_chain (map d.layer under)) c.args.offset (length c.args.buf.now) (files_of d under) (files_of d (chain c.read.new.self))
    (unit_aligned d.layer g.met.D.FormatDriverInstance.aligned under) low (told see))
