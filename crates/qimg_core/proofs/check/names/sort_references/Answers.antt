use Rattle.std.proofs.Common.{refl}
use Rattle.qimg_core.proofs.Names.Clusters.{sorted-same, sorted-spares, sorted-rising}
use Rattle.qimg_core.proofs.check.names.sort_references.Goals as goal

pub returns-clause-same : goal.returns-clause-same
returns-clause-same c = sorted-same c.args.names.now _ refl c.sort_unstable.ensures.permutation c.sort_unstable-2.ensures.permutation c.sort_unstable-3.ensures.permutation

pub returns-clause-spares : goal.returns-clause-spares
returns-clause-spares c = sorted-spares c.args.names.now _ refl c.sort_unstable.ensures.permutation c.sort_unstable-2.ensures.permutation c.sort_unstable-3.ensures.permutation

pub returns-clause-rising : goal.returns-clause-rising
returns-clause-rising c = record { structure = sorted-rising _ c.sort_unstable.ensures.sorted; mapped = sorted-rising _ c.sort_unstable-2.ensures.sorted; copied = sorted-rising _ c.sort_unstable-3.ensures.sorted }
