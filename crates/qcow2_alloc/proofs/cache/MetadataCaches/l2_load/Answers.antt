use Rattle.std.proofs.Common.{Ok, Err, ap}
use Rattle.qcow2_alloc.proofs.Caching.EntrySearches.{found-full, found-halted}
use Rattle.qcow2_alloc.proofs.Caching.TableSide.{table-laws, blocks-first}
use Rattle.qcow2_alloc.specs.CachedKinds.{table_entries, by_tables}
use Rattle.qcow2_alloc.proofs.Faults.{handed-on}
use Rattle.qcow2_alloc.proofs.cache.MetadataCaches.l2_load.Goals as goal

pub returns : goal.returns
returns g c =
    let state = g.S.Storage.state in
    let mid = c.before_tables.new.self in
    let done = c.in_ok-before_tables.ensures in
    let first = blocks-first state c.args.self.now c.args.file.now (Ok tt) mid c.before_tables.new.file done.writes_back_cached done.written_value_unchanged done.ready done.idle done.others done.room done.cause done.faults done.written in
    (found-full (table_entries state) (table-laws state) c.args.cluster (by_tables c.args.self.now) c.args.file.now c.requires.absent c.requires.full c.before_tables.new.file (by_tables mid) first
    (Ok c.in_ok-ready.field-0) c.ready.new.device (by_tables (record mid { l2 = c.ready.new.self })) (ap (λ l. record (by_tables mid) { own = l }) c.ready.ensures.others) c.in_ok-ready.ensures.readied)

pub returns-in_err-ready : goal.returns-in_err-ready
returns-in_err-ready g c = rw (handed-on _ _ c.from_residual-in_err-ready.ensures.1) (
    let state = g.S.Storage.state in
    let mid = c.before_tables.new.self in
    let done = c.in_ok-before_tables.ensures in
    let first = blocks-first state c.args.self.now c.args.file.now (Ok tt) mid c.before_tables.new.file done.writes_back_cached done.written_value_unchanged done.ready done.idle done.others done.room done.cause done.faults done.written in
    (found-full (table_entries state) (table-laws state) c.args.cluster (by_tables c.args.self.now) c.args.file.now c.requires.absent c.requires.full c.before_tables.new.file (by_tables mid) first
    (Err c.in_err-ready.field-0.0) c.ready.new.device (by_tables (record mid { l2 = c.ready.new.self })) (ap (λ l. record (by_tables mid) { own = l }) c.ready.ensures.others) c.in_err-ready.ensures.readied))

pub returns-in_err-before_tables : goal.returns-in_err-before_tables
returns-in_err-before_tables g c = rw (handed-on _ _ c.from_residual.ensures.1) (
    let state = g.S.Storage.state in
    let mid = c.before_tables.new.self in
    let done = c.in_err-before_tables.ensures in
    let fault = c.in_err-before_tables.field-0.0 in
    let first = blocks-first state c.args.self.now c.args.file.now (Err fault) mid c.before_tables.new.file done.writes_back_cached done.written_value_unchanged done.ready done.idle done.others done.room done.cause done.faults done.written in
    (found-halted (table_entries state) (table-laws state) c.args.cluster (by_tables c.args.self.now) c.args.file.now c.requires.absent c.requires.full c.before_tables.new.file (by_tables mid) fault first))
