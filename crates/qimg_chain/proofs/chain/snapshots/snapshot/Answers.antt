use Rattle.std.proofs.Common.{rules, ◌∙◌, ap, arith, subst, sym}
use Rattle.std.specs.Prelude.{⊤}
use Rattle.imago_storage.proofs.Parts.{passed}
use Rattle.imago_access.specs.FileReads.{FilesRead, files_at}
use Rattle.imago_access.specs.Files.{IsNotResourceError, Pairs, HadNoResourceError, files_of}
use Rattle.imago_access.specs.Going.{LookupCall}
use Rattle.imago_access.specs.Layers.{chain as drivers}
use Rattle.imago_access.proofs.FilePairs.{faultless_all_same}
use Rattle.imago_access.proofs.FileReads.{all_read_both, all_read_looked, all_read_same, bytes_at_kept}
use Rattle.imago_access.proofs.Looking.{all_looked_same}
use Rattle.imago_storage.specs.MemStorage.{mem_state}
use Rattle.qimg_chain.specs.FileMeanings.{files_bytes}
use Rattle.qimg_chain.specs.Snapshots.{said_names, WhyNotCopied}
use Rattle.qimg_chain.proofs.Snapshots.{no_change_refused, cause_behind, files_more, filled_kept, passed_mildly, wanting}
use Rattle.qimg_chain.proofs.chain.snapshots.snapshot.Goals as goal

pub returns-in_err-layers-clause-read : goal.returns-in_err-layers-clause-read
returns-in_err-layers-clause-read g c = all_read_same g.D.DriverModel (HadNoResourceError c.from_residual.result) (drivers c.args.chain.now)

pub returns-in_err-layers-clause-lookup_call : goal.returns-in_err-layers-clause-lookup_call
returns-in_err-layers-clause-lookup_call g c = all_looked_same g.D.DriverModel (HadNoResourceError c.from_residual.result) (drivers c.args.chain.now)

pub loop-layer-init : goal.loop-layer-init
loop-layer-init g c = record {
  so_far = ap (λ items. files_bytes mem_state items) c.new-files.ensures.items;
  read = all_read_same g.D.DriverModel ⊤ (drivers c.args.chain.now);
}

pub loop-layer-preserved : goal.loop-layer-preserved
loop-layer-preserved g c =
    let d = g.D.DriverModel in
    let old = drivers c.args.chain.now in let now = drivers c.loop-layer.chain in
    let i = c.loop-layer.layer in
    let layers = c.in_ok-layers.layers in
    let copied = c.in_ok-file.ensures.ok
    ∙ filled_kept (said_names c.index.result.now) (files_at d old i) (files_at d now i) (λ n. bytes_at_kept d ⊤ old now i n c.loop-layer.invariant.read) in
    record {
      so_far = ap (λ items. files_bytes mem_state items) c.in_ok-push.ensures.items
          ∙ files_more d g.D.NamesFiles.names old layers.items i c.index.result.now c.loop-layer.files.items c.in_ok-file.file c.loop-layer.invariant.so_far c.in_ok-layers.ensures.ok
          (omega (arith, c.loop-layer-test.true, c.len-layer-end.ensures, layers.ok.0)) c.index.ensures copied;
      read = all_read_both d ⊤ old now (drivers c.copy_layer.new.chain) c.loop-layer.invariant.read c.in_ok-file.ensures.read;
    }

pub returns-in_err-push-clause-read : goal.returns-in_err-push-clause-read
returns-in_err-push-clause-read g c =
    let d = g.D.DriverModel in
    let old = drivers c.args.chain.now in let now = drivers c.loop-layer.chain in let new = drivers c.copy_layer.new.chain in
    let whole = HadNoResourceError c.from_residual-in_err-push.result in
    all_read_both d whole old new new (all_read_both d ⊤ old now new c.loop-layer.invariant.read c.in_ok-file.ensures.read) (all_read_same d whole new)

pub returns-in_err-push-clause-lookup_call : goal.returns-in_err-push-clause-lookup_call
returns-in_err-push-clause-lookup_call g c =
    let d = g.D.DriverModel in
    let old = drivers c.args.chain.now in let now = drivers c.loop-layer.chain in let new = drivers c.copy_layer.new.chain in
    let whole = HadNoResourceError c.from_residual-in_err-push.result in
    all_read_looked d whole old new
    (all_read_both d whole old new new (all_read_both d ⊤ old now new c.loop-layer.invariant.read c.in_ok-file.ensures.read) (all_read_same d whole new))

pub returns-in_err-file-clause-read : goal.returns-in_err-file-clause-read
returns-in_err-file-clause-read g c =
    let old = drivers c.args.chain.now in let now = drivers c.loop-layer.chain in let new = drivers c.copy_layer.new.chain in
    passed_mildly c.from_residual-in_err-file.result c.in_err-file.field-0.0 c.from_residual-in_err-file.ensures.1
    (λ whole. Pairs (FilesRead g.D.DriverModel whole) old new)
    (all_read_both g.D.DriverModel (IsNotResourceError c.in_err-file.field-0.0) old now new c.loop-layer.invariant.read c.in_err-file.ensures.read)

pub returns-in_err-file-clause-lookup_call : goal.returns-in_err-file-clause-lookup_call
returns-in_err-file-clause-lookup_call g c =
    let d = g.D.DriverModel in
    let old = drivers c.args.chain.now in let now = drivers c.loop-layer.chain in let new = drivers c.copy_layer.new.chain in
    let whole = IsNotResourceError c.in_err-file.field-0.0 in
    passed_mildly c.from_residual-in_err-file.result c.in_err-file.field-0.0 c.from_residual-in_err-file.ensures.1
    (λ whole. Pairs (LookupCall d whole) old new)
    (all_read_looked d whole old new (all_read_both d whole old now new c.loop-layer.invariant.read c.in_err-file.ensures.read))

pub returns-in_err-file-clause-cause : goal.returns-in_err-file-clause-cause
returns-in_err-file-clause-cause g c =
    let old = drivers c.args.chain.now in let now = drivers c.loop-layer.chain in let new = drivers c.copy_layer.new.chain in
    passed c.from_residual-in_err-file.result _ c.in_err-file.field-0.0 c.from_residual-in_err-file.ensures.1
    (cause_behind g.D.DriverModel old now new c.in_err-file.field-0.0 c.loop-layer.invariant.read c.in_err-file.ensures.cause)

pub returns-clause-lookup_call : goal.returns-clause-lookup_call
returns-clause-lookup_call g c =
    all_read_looked g.D.DriverModel ⊤ (drivers c.args.chain.now) (drivers c.loop-layer.chain) c.loop-layer.invariant.read

pub returns-in_err-layers-clause-cause : goal.returns-in_err-layers-clause-cause
returns-in_err-layers-clause-cause g c =
    let ss = files_of g.D.DriverModel (drivers c.args.chain.now) in
    passed c.from_residual.result _ c.in_err-layers.field-0.0 c.from_residual.ensures.1
    (subst (WhyNotCopied ss ss) (sym c.in_err-layers.ensures.err) (faultless_all_same ss))

pub returns-in_err-push-clause-cause : goal.returns-in_err-push-clause-cause
returns-in_err-push-clause-cause g c =
    let d = g.D.DriverModel in
    let old = drivers c.args.chain.now in let now = drivers c.loop-layer.chain in let new = drivers c.copy_layer.new.chain in
    wanting c.from_residual-in_err-push.result (WhyNotCopied (files_of d old) (files_of d new))
    (no_change_refused d old new (all_read_both d ⊤ old now new c.loop-layer.invariant.read c.in_ok-file.ensures.read)) (search rules)
