use Rattle.std.proofs.Common.{◌≡◌, ◌*◌, ◌^◌, ◌∙◌, ap, false, Some}
use Rattle.qcow2_types.specs.Header.{cluster_size}
use Rattle.qcow2_metadata.specs.Blocks.{block_of}
use Rattle.qcow2_metadata.proofs.Packed.{counters-read}
use Rattle.qcow2_metadata.proofs.refblock.RefBlock.load.Goals as goal

pub returns-clause-ok : goal.returns-clause-ok
returns-clause-ok g c =
    let h = c.args.header.now.fields in
    let place : c.offset-2.inside.0 ≡ c.args.cluster * cluster_size h = c.offset-2.view_is ∙ (c.offset.ensures ∙ ap (λ b. c.args.cluster * 2 ^ b) c.cluster_bits.ensures.value) in
    let counters = counters-read (g.S.Storage.state c.args.image.now).bytes c.in_ok-bytes.bytes.items h (c.args.cluster * cluster_size h) c.of_bytes.ensures.shaped (c.in_ok-bytes.ensures.whole ∙ c.cluster_size.ensures.value) c.of_bytes.ensures.fit (rw place at c.in_ok-bytes.ensures.read) in
    c.of_bytes.ensures.value ∙ ap (λ cs. block_of h.cluster_bits h.refcount_order cs (Some c.args.cluster) false) counters
