use Rattle.qcow2_metadata.proofs.Extending.{zeroes-taken, pushed-last}
use Rattle.qcow2_metadata.proofs.extension_bytes.push_zeroes.Goals as goal

pub returns : goal.returns
returns c = pushed-last c.extend_from_slice.result _ _ _ _ c.extend_from_slice.ensures.items (zeroes-taken c.args.count c.requires)
