use Rattle.std.proofs.Common.{◌≡◌, length, map}
use Rattle.std.proofs.lemmas.Result.{IfErr-weaker}
use Rattle.imago_access.specs.FileReads.{FileReadCause}
use Rattle.imago_access.specs.Files.{OverflowsIn, HadNoResourceError}
use Rattle.imago_access.specs.Refusals.{ReadMappedCause}
use Rattle.imago_access.proofs.Looking.{looked_same}
use Rattle.imago_formats.specs.VmdkFiles.{states}
use Rattle.imago_formats.specs.VmdkLayer.{vmdk_layer}
use Rattle.imago_formats.proofs.StorageLemmas.{mapped_cause, overflow_all}
use Rattle.imago_formats.proofs.Quiet.{at_once_runs, quiet_looked}
use Rattle.imago_formats.proofs.vmdk.driver.VmdkFormatDriverInstance.read_mapped.Goals as goal

pub returns-clause-lookup_call : goal.returns-clause-lookup_call
returns-clause-lookup_call g c =
    quiet_looked _ (HadNoResourceError c.read.result) c.args.self.now c.read.new.self c.read.ensures.keeps
    c.read.ensures.whole

pub returns-clause-early_outcome : goal.returns-clause-early_outcome
returns-clause-early_outcome g c =
    at_once_runs _ (length c.args.buf.now ≡ 0) c.read.result c.args.self.now c.read.new.self c.in_ok-ready.ensures.ok c.read.ensures.empty

pub returns-in_err-ready-clause-lookup_call : goal.returns-in_err-ready-clause-lookup_call
returns-in_err-ready-clause-lookup_call g c = looked_same _ (HadNoResourceError c.from_residual.result) c.args.self.now

pub returns-clause-cause : goal.returns-clause-cause
returns-clause-cause g c =
    let state = g.S.Storage.state in
    let old = c.args.self.now in let new = c.read.new.self in let n = length c.args.buf.now in
    let olds = states state old.image old.files.items in let news = states state new.image new.files.items in
    let layer = vmdk_layer old.disk.extents.items (state old.image) (map state old.files.items) in
    let overflows = OverflowsIn olds c.args.storage c.args.place n in
    IfErr-weaker c.read.result (FileReadCause overflows olds news) (ReadMappedCause layer c.args.place n olds news)
    (λ e. mapped_cause layer overflows olds news c.args.place n e
    (overflow_all state g.met.S.Storage.aligned old.image old.files.items c.args.storage c.args.place n)) c.read.ensures.cause
