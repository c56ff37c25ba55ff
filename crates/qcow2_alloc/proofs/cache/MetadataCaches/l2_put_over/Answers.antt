use Rattle.std.proofs.Common.{Ok, Err, ap}
use Rattle.qcow2_alloc.proofs.Caching.EntryPuts.{put-behind, put-halted}
use Rattle.qcow2_alloc.proofs.Caching.TableSide.{table-laws, blocks-first}
use Rattle.qcow2_alloc.specs.CachedKinds.{table_entries, by_tables}
use Rattle.qcow2_alloc.proofs.cache.MetadataCaches.l2_put_over.Goals as goal
use Rattle.qcow2_alloc.proofs.Faults.{handed-on}

pub returns-in_ok-insert-in-Ok : goal.returns-in_ok-insert-in-Ok
returns-in_ok-insert-in-Ok g c =
    let state = g.S.Storage.state in
    let flushed = c.before_tables-flushed in
    let done = c.in-Ok.ensures in
    let first = blocks-first state c.args.self.now c.args.file.now (Ok tt) flushed.new.self flushed.new.file done.writes_back_cached done.written_value_unchanged done.ready done.idle done.others done.room done.cause done.faults done.written in
    (put-behind (table_entries state) (table-laws state) c.args.cluster c.args.table (by_tables c.args.self.now) c.args.file.now c.requires flushed.new.file (by_tables flushed.new.self) first
    (Ok c.in_ok-insert-in-Ok.field-0) c.insert.new.device (by_tables (record flushed.new.self { l2 = c.insert.new.self })) (ap (λ l. record (by_tables flushed.new.self) { own = l }) c.insert.ensures.others) c.in_ok-insert-in-Ok.ensures.inserted)

pub returns-in_err-insert-in-Ok : goal.returns-in_err-insert-in-Ok
returns-in_err-insert-in-Ok g c =
    let state = g.S.Storage.state in
    let flushed = c.before_tables-flushed in
    let done = c.in-Ok.ensures in
    let first = blocks-first state c.args.self.now c.args.file.now (Ok tt) flushed.new.self flushed.new.file done.writes_back_cached done.written_value_unchanged done.ready done.idle done.others done.room done.cause done.faults done.written in
    rw (handed-on _ _ c.from_residual.ensures.1) ((put-behind (table_entries state) (table-laws state) c.args.cluster c.args.table (by_tables c.args.self.now) c.args.file.now c.requires flushed.new.file (by_tables flushed.new.self) first
    (Err c.in_err-insert-in-Ok.field-0.0) c.insert.new.device (by_tables (record flushed.new.self { l2 = c.insert.new.self })) (ap (λ l. record (by_tables flushed.new.self) { own = l }) c.insert.ensures.others) c.in_err-insert-in-Ok.ensures.inserted))

pub returns-in-Err : goal.returns-in-Err
returns-in-Err g c =
    let state = g.S.Storage.state in
    let flushed = c.before_tables-flushed in
    let done = c.in-Err.ensures in
    let first = blocks-first state c.args.self.now c.args.file.now (Err c.in-Err.fault) flushed.new.self flushed.new.file done.writes_back_cached done.written_value_unchanged done.ready done.idle done.others done.room done.cause done.faults done.written in
    (put-halted (table_entries state) (table-laws state) c.args.cluster c.args.table (by_tables c.args.self.now) c.args.file.now c.requires flushed.new.file (by_tables flushed.new.self) c.in-Err.fault first)
