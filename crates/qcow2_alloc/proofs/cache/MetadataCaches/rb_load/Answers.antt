use Rattle.std.proofs.Common.{Ok, Err, ap}
use Rattle.qcow2_alloc.proofs.Caching.EntrySearches.{found-full, found-halted}
use Rattle.qcow2_alloc.proofs.Caching.BlockSide.{block-laws, tables-first}
use Rattle.qcow2_alloc.specs.CachedKinds.{block_entries, by_blocks}
use Rattle.qcow2_alloc.proofs.Faults.{handed-on}
use Rattle.qcow2_alloc.proofs.cache.MetadataCaches.rb_load.Goals as goal

pub returns : goal.returns
returns g c =
    let state = g.S.Storage.state in
    let mid = c.before_blocks.new.self in
    let done = c.in_ok-before_blocks.ensures in
    let first = tables-first state c.args.self.now c.args.file.now (Ok tt) mid c.before_blocks.new.file done.writes_back_cached done.written_value_unchanged done.ready done.idle done.others done.room done.cause done.faults done.written in
    (found-full (block_entries state) (block-laws state) c.args.cluster (by_blocks c.args.self.now) c.args.file.now c.requires.absent c.requires.full c.before_blocks.new.file (by_blocks mid) first
    (Ok c.in_ok-ready.field-0) c.ready.new.device (by_blocks (record mid { rb = c.ready.new.self })) (ap (λ l. record (by_blocks mid) { own = l }) c.ready.ensures.others) c.in_ok-ready.ensures.readied)

pub returns-in_err-ready : goal.returns-in_err-ready
returns-in_err-ready g c = rw (handed-on _ _ c.from_residual-in_err-ready.ensures.1) (
    let state = g.S.Storage.state in
    let mid = c.before_blocks.new.self in
    let done = c.in_ok-before_blocks.ensures in
    let first = tables-first state c.args.self.now c.args.file.now (Ok tt) mid c.before_blocks.new.file done.writes_back_cached done.written_value_unchanged done.ready done.idle done.others done.room done.cause done.faults done.written in
    (found-full (block_entries state) (block-laws state) c.args.cluster (by_blocks c.args.self.now) c.args.file.now c.requires.absent c.requires.full c.before_blocks.new.file (by_blocks mid) first
    (Err c.in_err-ready.field-0.0) c.ready.new.device (by_blocks (record mid { rb = c.ready.new.self })) (ap (λ l. record (by_blocks mid) { own = l }) c.ready.ensures.others) c.in_err-ready.ensures.readied))

pub returns-in_err-before_blocks : goal.returns-in_err-before_blocks
returns-in_err-before_blocks g c = rw (handed-on _ _ c.from_residual.ensures.1) (
    let state = g.S.Storage.state in
    let mid = c.before_blocks.new.self in
    let done = c.in_err-before_blocks.ensures in
    let fault = c.in_err-before_blocks.field-0.0 in
    let first = tables-first state c.args.self.now c.args.file.now (Err fault) mid c.before_blocks.new.file done.writes_back_cached done.written_value_unchanged done.ready done.idle done.others done.room done.cause done.faults done.written in
    (found-halted (block_entries state) (block-laws state) c.args.cluster (by_blocks c.args.self.now) c.args.file.now c.requires.absent c.requires.full c.before_blocks.new.file (by_blocks mid) fault first))
