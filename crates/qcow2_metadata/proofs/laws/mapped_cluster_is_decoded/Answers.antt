use Rattle.qcow2_types.specs.Header.{layout_of}
use Rattle.qcow2_metadata.proofs.Conservation.{mapped_means}
use Rattle.qcow2_metadata.proofs.laws.mapped_cluster_is_decoded.Goals as goal

pub returns : goal.returns
returns c = mapped_means (layout_of c.args.header.now.fields) c.args.cluster c.of_header-layout.ensures.shaped.low c.requires.reach c.requires.cluster_nonzero
