use Rattle.std.proofs.Common.{rules, ◌∙◌, ◌+◌, ap, arith, map}
use Rattle.std.specs.Prelude.{⊤}
use Rattle.imago_storage.proofs.Parts.{passed}
use Rattle.imago_access.specs.FileReads.{FilesRead, files_at}
use Rattle.imago_access.specs.Files.{IsNotResourceError, Pairs, HadNoResourceError, files_of}
use Rattle.imago_access.specs.Layers.{chain as drivers}
use Rattle.imago_access.proofs.FileReads.{all_read_both, all_read_same, bytes_at_kept}
use Rattle.imago_storage.specs.MemStorage.{mem_state}
use Rattle.qimg_chain.specs.FileMeanings.{extra_bytes}
use Rattle.qimg_chain.specs.Snapshots.{WhyNotCopied}
use Rattle.qimg_chain.proofs.Snapshots.{no_change_refused, cause_behind, copied_more, passed_mildly, wanting}
use Rattle.qimg_chain.proofs.chain.snapshots.copy_layer.Goals as goal

pub loop-index-preserved : goal.loop-index-preserved
loop-index-preserved g c =
    let d = g.D.DriverModel in
    let old = drivers c.args.chain.now in let now = drivers c.loop-index.chain in
    let i = c.loop-index.index in
    let names = c.args.names.now.names in
    let bytes = c.in_ok-file.ensures.ok ∙ bytes_at_kept d ⊤ old now c.args.layer (i + 1) c.loop-index.invariant.read in
    record {
      so_far = ap (λ items. map (extra_bytes mem_state) items) c.in_ok-push.ensures.items
          ∙ copied_more c.loop-index.extras.items _ names.items (files_at d old c.args.layer) i c.index.result.now c.loop-index.invariant.so_far
          (omega (arith, c.loop-index-test.true, c.len-index-end.ensures, names.ok.0)) c.index.ensures (λ j. (c.in_ok-clone.ensures.cases j, bytes j));
      read = all_read_both d ⊤ old now (drivers c.copy_file-in-loop-index.new.chain) c.loop-index.invariant.read c.in_ok-file.ensures.read;
    }

pub returns-in_err-clone-clause-read : goal.returns-in_err-clone-clause-read
returns-in_err-clone-clause-read g c =
    let d = g.D.DriverModel in
    let old = drivers c.args.chain.now in let now = drivers c.loop-index.chain in let new = drivers c.copy_file-in-loop-index.new.chain in
    let whole = HadNoResourceError c.from_residual-in_err-clone.result in
    all_read_both d whole old new new (all_read_both d ⊤ old now new c.loop-index.invariant.read c.in_ok-file.ensures.read) (all_read_same d whole new)

pub returns-in_err-push-clause-read : goal.returns-in_err-push-clause-read
returns-in_err-push-clause-read g c =
    let d = g.D.DriverModel in
    let old = drivers c.args.chain.now in let now = drivers c.loop-index.chain in let new = drivers c.copy_file-in-loop-index.new.chain in
    let whole = HadNoResourceError c.from_residual-in_err-push.result in
    all_read_both d whole old new new (all_read_both d ⊤ old now new c.loop-index.invariant.read c.in_ok-file.ensures.read) (all_read_same d whole new)

pub returns-in_err-file-clause-read : goal.returns-in_err-file-clause-read
returns-in_err-file-clause-read g c =
    let old = drivers c.args.chain.now in let now = drivers c.loop-index.chain in let new = drivers c.copy_file-in-loop-index.new.chain in
    passed_mildly c.from_residual-in_err-file.result c.in_err-file.field-0.0 c.from_residual-in_err-file.ensures.1
    (λ whole. Pairs (FilesRead g.D.DriverModel whole) old new)
    (all_read_both g.D.DriverModel (IsNotResourceError c.in_err-file.field-0.0) old now new c.loop-index.invariant.read c.in_err-file.ensures.read)

pub returns-in_err-file-clause-cause : goal.returns-in_err-file-clause-cause
returns-in_err-file-clause-cause g c =
    let old = drivers c.args.chain.now in let now = drivers c.loop-index.chain in let new = drivers c.copy_file-in-loop-index.new.chain in
    passed c.from_residual-in_err-file.result _ c.in_err-file.field-0.0 c.from_residual-in_err-file.ensures.1
    (cause_behind g.D.DriverModel old now new c.in_err-file.field-0.0 c.loop-index.invariant.read c.in_err-file.ensures.cause)

pub returns-in_err-clone-clause-cause : goal.returns-in_err-clone-clause-cause
returns-in_err-clone-clause-cause g c =
    let d = g.D.DriverModel in
    let old = drivers c.args.chain.now in let now = drivers c.loop-index.chain in let new = drivers c.copy_file-in-loop-index.new.chain in
    wanting c.from_residual-in_err-clone.result (WhyNotCopied (files_of d old) (files_of d new))
    (no_change_refused d old new (all_read_both d ⊤ old now new c.loop-index.invariant.read c.in_ok-file.ensures.read)) (search rules)

pub returns-in_err-push-clause-cause : goal.returns-in_err-push-clause-cause
returns-in_err-push-clause-cause g c =
    let d = g.D.DriverModel in
    let old = drivers c.args.chain.now in let now = drivers c.loop-index.chain in let new = drivers c.copy_file-in-loop-index.new.chain in
    wanting c.from_residual-in_err-push.result (WhyNotCopied (files_of d old) (files_of d new))
    (no_change_refused d old new (all_read_both d ⊤ old now new c.loop-index.invariant.read c.in_ok-file.ensures.read)) (search rules)
