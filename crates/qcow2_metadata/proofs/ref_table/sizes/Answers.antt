use Rattle.qcow2_metadata.proofs.GrowthLemmas.{cluster_words_bounds}
use Rattle.qcow2_metadata.proofs.ref_table.sizes.Goals as goal

pub returns-clause-word_bounds : goal.returns-clause-word_bounds
returns-clause-word_bounds c = rw c.l2_entries.ensures (cluster_words_bounds c.args.header.now.fields c.of_header-layout.ensures.shaped)
