use Rattle.std.proofs.Common.{ap, ◌∙◌}
use Rattle.qcow2_alloc.specs.Caches.{cached_in, order_of}
use Rattle.qcow2_alloc.specs.Memory.{Cached}
use Rattle.qcow2_alloc.proofs.Caching.FileLengths.{all-long}
use Rattle.qcow2_clusters.specs.WritingBack.{without_tables}
use Rattle.qcow2_clusters.proofs.Settlement.{blocks-dropped, done_so, flushed-still, loose-flushed, refused_so, settled-refused, settled-whole, tables-kept, without-tables-empty}
use Rattle.qcow2_clusters.proofs.writing_back.write_back_keeping_tables.Goals as goal

pub drop_cached-requires : goal.drop_cached-requires
drop_cached-requires g c = record { unpinned = loose-flushed c.args.caches.now c.flush_all.new.self c.in-Err.ensures.written_value_unchanged c.requires.unpinned }

pub returns-in-Ok-clause-settles : goal.returns-in-Ok-clause-settles
returns-in-Ok-clause-settles g c =
    let state = g.S.Storage.state in
    let file = c.args.file.now in
    let old = c.args.caches.now in
    let flushed = c.flush_all.new in
    let done = c.in-Ok.ensures in
    let blocks = c.invalidate_rb-blocks.ensures in
    let new = c.invalidate_rb-blocks.new.self in
    settled-whole state done_so file old (without_tables new)
    (without-tables-empty new (blocks-dropped flushed.self new (loose-flushed old flushed.self done.written_value_unchanged c.requires.unpinned) blocks.dropped.keeps_pinned))
    (record { tables = blocks.room.tables ∙ done.room.tables; blocks = blocks.room.blocks ∙ done.room.blocks }) tt
    flushed.file (cached_in flushed.self) done.others.1
    (all-long (order_of old) (state file.image) (cached_in old) done_so (state flushed.file.image) (cached_in flushed.self) done.blocks_first done.tables_first)
    (flushed-still (order_of old) (state file.image) (state flushed.file.image) (cached_in old) (cached_in flushed.self) done_so done.blocks_first done.tables_first)
    done.writes_back_cached done.cause done.tables done.blocks (done.faults tt)

pub returns-in-Ok-clause-keeps_tables : goal.returns-in-Ok-clause-keeps_tables
returns-in-Ok-clause-keeps_tables g c =
    let done = c.in-Ok.ensures in
    tables-kept g.S.Storage.state c.args.file.now c.args.caches.now c.flush_all.new.file c.invalidate_rb-blocks.new.self c.flush_all.new.self done.others.1
    c.requires.unpinned (ap (λ (w : Cached). w.tables) done.written_value_unchanged) (ap (λ t. t.slots.entries) c.invalidate_rb-blocks.ensures.others.0) done.tables done.writes_back_cached

pub returns-in-Err-clause-settles : goal.returns-in-Err-clause-settles
returns-in-Err-clause-settles g c =
    let state = g.S.Storage.state in
    let file = c.args.file.now in
    let old = c.args.caches.now in
    let flushed = c.flush_all.new in
    let done = c.in-Err.ensures in
    let dropped = c.drop_cached.ensures in
    let new = c.drop_cached.new.caches in
    let fault = c.in-Err.fault in
    settled-refused state done_so file old (without_tables new)
    (without-tables-empty new (ap (λ (k : Cached). k.blocks) dropped.empty))
    (record { tables = dropped.room.tables ∙ done.room.tables; blocks = dropped.room.blocks ∙ done.room.blocks }) tt
    flushed.file (cached_in flushed.self) done.others.1
    (all-long (order_of old) (state file.image) (cached_in old) (refused_so fault) (state flushed.file.image) (cached_in flushed.self) done.blocks_first done.tables_first)
    (flushed-still (order_of old) (state file.image) (state flushed.file.image) (cached_in old) (cached_in flushed.self) (refused_so fault) done.blocks_first done.tables_first)
    fault done.writes_back_cached done.cause done.faults
