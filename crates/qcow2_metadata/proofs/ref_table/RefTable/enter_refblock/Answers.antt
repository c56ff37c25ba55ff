use Rattle.std.proofs.Common.{◌≡◌, ◌∙◌, ap}
use Rattle.qcow2_metadata.specs.Places.{place_of}
use Rattle.qcow2_metadata.proofs.TableSteps.{block_word_named}
use Rattle.qcow2_metadata.proofs.ref_table.RefTable.enter_refblock.Goals as goal

pub set_entry-requires-clause-sound : goal.set_entry-requires-clause-sound
set_entry-requires-clause-sound c =
    let bits = c.args.self.now.layout.cluster_bits in
    let b = c.args.block.now in
    let raw_entry : c.naming.result ≡ place_of bits b.cluster = c.naming.ensures ∙ (c.first_byte_of-place.ensures ∙ (ap (λ k. place_of c.cluster_bits.result k) c.get_cluster.ensures ∙ ap (λ n. place_of n b.cluster) c.cluster_bits.ensures.value)) in
    rw raw_entry (block_word_named bits b.cluster c.cluster_bits.ensures.table.low c.requires.can_be_referenced.placed)
