use Rattle.imago_storage.specs.State.{StorageState}
use Rattle.imago_formats.proofs.StorageLemmas.{greatest_more}
use Rattle.imago_formats.proofs.vmdk.storages.greatest_mem_align.Goals as goal

pub loop-file-preserved : goal.loop-file-preserved
loop-file-preserved g c =
    let state = g.S.Storage.state in
    let more = greatest_more state (λ (s : StorageState). s.shape.mem_align) (state c.args.image.now) c.args.files.now c.loop-file.file-index c.file-item.result
    c.loop-file-test.true c.file-item.is in record {
      value = cc (c.larger_alignment-most.ensures.value, c.loop-file.invariant.value, c.mem_align.ensures.value, more);
      alignment = c.larger_alignment-most.ensures.alignment;
    }
