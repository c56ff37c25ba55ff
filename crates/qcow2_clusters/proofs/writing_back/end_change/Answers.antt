use Rattle.std.proofs.Common.{ap, ◌∙◌}
use Rattle.qcow2_alloc.specs.Caches.{HasRoomOf, cached_in, order_of}
use Rattle.qcow2_alloc.specs.Memory.{Cached}
use Rattle.qcow2_alloc.proofs.Caching.FileLengths.{all-long}
use Rattle.qcow2_clusters.proofs.Settlement.{flushed-still, settled-flushed, unpinned-blocks, unpinned-tables}
use Rattle.qcow2_clusters.proofs.writing_back.end_change.Goals as goal

pub drop_cached-requires-2 : goal.drop_cached-requires-2
drop_cached-requires-2 g c =
    let kept = c.flush_all-flushed.ensures.written_value_unchanged in
    record {
      unpinned = record {
        tables = unpinned-tables _ _ (ap (λ (w : Cached). w.tables) kept) c.requires.unpinned.tables;
        blocks = unpinned-blocks _ _ (ap (λ (w : Cached). w.blocks) kept) c.requires.unpinned.blocks;
      };
    }

pub returns : goal.returns
returns g c =
    let state = g.S.Storage.state in
    let old = c.args.caches.now in
    let new = c.drop_cached-2.new.caches in
    let answer = c.flush_all-flushed.result in
    let flushed = c.flush_all-flushed.new in
    let done = c.flush_all-flushed.ensures in
    let room : HasRoomOf old new = record {
      tables = c.drop_cached-2.ensures.room.tables ∙ done.room.tables;
      blocks = c.drop_cached-2.ensures.room.blocks ∙ done.room.blocks;
    } in
    let long = all-long (order_of old) (state c.args.file.now.image) (cached_in old) answer (state flushed.file.image) (cached_in flushed.self)
    done.blocks_first done.tables_first in
    let has_no_dirty_data = flushed-still (order_of old) (state c.args.file.now.image) (state flushed.file.image) (cached_in old) (cached_in flushed.self)
    answer done.blocks_first done.tables_first in
    settled-flushed state c.args.given.now c.args.file.now old new c.drop_cached-2.ensures.empty room c.if-not-had_no_resource_error.ensures flushed.file
    (cached_in flushed.self) done.others.1 long has_no_dirty_data answer done.writes_back_cached done.cause done.tables done.blocks done.faults
