use Rattle.std.proofs.Common.{◌≡◌, ℕ, ◌∙◌, ap, get_or, length, true, None}
use Rattle.imago_storage.proofs.Zeroes.{zero_at}
use Rattle.std.proofs.lemmas.List.{length-replicate}
use Rattle.qcow2_metadata.specs.Blocks.{block_of}
use Rattle.qcow2_metadata.proofs.Packed.{zero-counters}
use Rattle.qcow2_metadata.proofs.refblock.RefBlock.new_cleared.Goals as goal

pub returns-in-Ok-clause-ok : goal.returns-in-Ok-clause-ok
returns-in-Ok-clause-ok c =
    let h = c.args.header.now.fields in
    let zero : (k : ℕ) → get_or c.in-Ok.bytes.items k 0 ≡ 0 = λ k. ap (λ xs. get_or xs k 0) c.in-Ok.ensures ∙ zero_at c.cluster_size.result k in
    let long = ap length c.in-Ok.ensures ∙ (length-replicate c.cluster_size.result 0 ∙ c.cluster_size.ensures.value) in
    c.of_bytes.ensures.value ∙ ap (λ cs. block_of h.cluster_bits h.refcount_order cs None true) (zero-counters h.refcount_order h.cluster_bits c.in-Ok.bytes.items c.of_bytes.ensures.shaped.order c.of_bytes.ensures.shaped.low long zero)
