use Rattle.qcow2_types.specs.TableBytes.{table_bytes}
use Rattle.qcow2_clusters.specs.Lengthening.{clusters_for}
use Rattle.qcow2_clusters.specs.Flushed.{clusters_state}
use Rattle.qcow2_clusters.proofs.L1Growth.{stands-still, words-fit}
use Rattle.qcow2_clusters.proofs.lengthening.store_l1.Goals as goal
use Rattle.std.proofs.Common.{length}

pub returns-clause-stores : goal.returns-clause-stores
returns-clause-stores g c =
    let h = c.args.file.now.header.fields in
    let ws = c.args.table.now.raw_entries in
    c.write_back_stored.ensures.stores (clusters_for h (length ws)) (table_bytes ws) (clusters_state c.args.file.now c.args.caches.now c.args.space.now) (words-fit h ws) c.allocate_and_write-stored.ensures.stores

pub returns-clause-stands : goal.returns-clause-stands
returns-clause-stands g c =
    stands-still c.args.file.now.header.fields c.args.table.now c.allocate_and_write-stored.result c.write_back_stored.result c.allocate_and_write-stored.new.table
    c.write_back_stored.ensures.same c.allocate_and_write-stored.ensures.stands

pub returns-clause-untouched_unless_begun : goal.returns-clause-untouched_unless_begun
returns-clause-untouched_unless_begun g c =
    c.write_back_stored.ensures.untouched_unless_begun c.args.begun.now c.allocate_and_write-stored.new.begun
    (clusters_state c.args.file.now c.args.caches.now c.args.space.now) c.allocate_and_write-stored.ensures.untouched_unless_begun
