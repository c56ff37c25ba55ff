use Rattle.qcow2_types.proofs.Fields.HeaderLimits.{header-magic, least-cluster, greatest-cluster, least-width, greatest-width, header-limited}
use Rattle.qcow2_types.proofs.laws.loaded_header_is_within_limits.Goals as goal

pub returns : goal.returns
returns c = record { magic = header-magic; least_cluster = least-cluster; greatest_cluster = greatest-cluster; least_width = least-width; greatest_width = greatest-width; limited = header-limited }
