use Rattle.std.proofs.Common.{◌≡◌, ℕ, ◌+◌, ◌*◌, ◌<◌, ◌≤◌, ◌∙◌, ap, sym, arith, length, true}
use Rattle.qcow2_types.specs.Words.{block_offset}
use Rattle.qcow2_types.specs.Header.{Limited, refcount_table_entries}
use Rattle.qcow2_types.specs.Counts.{block_at}
use Rattle.qcow2_types.proofs.Fields.HeaderLimits.{header-limited}
use Rattle.qcow2_metadata.specs.Loading.{file}
use Rattle.qimg_core.proofs.Tables.BlockPlaces.{blocks-place, block-loaded, blocks-finding, blocks-sound-by-first, blocks-more, blocks-all}
use Rattle.qimg_core.proofs.Tables.FewerWords.{cluster-at, loaded-count, loaded-word}
use Rattle.qimg_core.proofs.Tables.Places.{some-place, none-place}
use Rattle.qimg_core.proofs.check.tables.block_places.Goals as goal
use Rattle.qimg_core.proofs.check.tables.block_places.Goals.{in-Some, in-None}

pub entries_before-count-requires : goal.entries_before-count-requires
entries_before-count-requires g c = let limited : Limited c.args.header.now.fields = header-limited true _ _ c.requires.loads.1 in omega (arith, limited.refcount_entries, c.reftable_entries.ensures)

pub load-requires-clause-reach : goal.load-requires-clause-reach
load-requires-clause-reach g c = (blocks-place (file (g.S.Storage.state c.args.image.now)) (record c.args.header.now { features = c.requires.loads.0 }) c.requires.loads.1 c.cluster-cluster.result (cluster-at c.cluster-cluster.result _ _ _ _ c.cluster-cluster.ensures c.reftable_offset-offset.ensures c.cluster_bits.ensures.value)).1

pub returns-in-Err-clause-err : goal.returns-in-Err-clause-err
returns-in-Err-clause-err g c =
    let old = g.S.Storage.state c.args.image.now in
    let new = g.S.Storage.state c.load.new.image in
    let at = cluster-at c.cluster-cluster.result _ _ _ _ c.cluster-cluster.ensures c.reftable_offset-offset.ensures c.cluster_bits.ensures.value in
    let few : c.entries_before-count.result ≤ refcount_table_entries c.args.header.now.fields = omega (arith, c.entries_before-count.ensures.count_bounded, c.reftable_entries.ensures) in
    rw c.load_fault.ensures (blocks-finding old new (record c.args.header.now { features = c.requires.loads.0 }) c.requires.loads.1 c.cluster-cluster.result c.entries_before-count.result at few c.in-Err.fault c.in-Err.ensures.err)

pub returns-clause-sound : goal.returns-clause-sound
returns-clause-sound g c =
    let old = g.S.Storage.state c.args.image.now in
    let at = cluster-at c.cluster-cluster.result _ _ _ _ c.cluster-cluster.ensures c.reftable_offset-offset.ensures c.cluster_bits.ensures.value in
    blocks-sound-by-first old.bytes (record c.args.header.now { features = c.requires.loads.0 }) c.requires.loads.1 c.cluster-cluster.result c.entries_before-count.result at c.in-Ok.ensures.sound
    (λ i past lt. let rest = c.entries_before-count.ensures.later_past_end i past (omega (arith, lt, c.reftable_entries.ensures)) in omega (arith, rest, c.size.ensures.value, c.reftable_offset-offset.ensures))

pub loop-index-preserved : goal.loop-index-preserved
loop-index-preserved g c =
    let f = file (g.S.Storage.state c.args.image.now) in
    let at = cluster-at c.cluster-cluster.result _ _ _ _ c.cluster-cluster.ensures c.reftable_offset-offset.ensures c.cluster_bits.ensures.value in
    let few : c.entries_before-count.result ≤ refcount_table_entries c.args.header.now.fields = omega (arith, c.entries_before-count.ensures.count_bounded, c.reftable_entries.ensures) in
    let all : c.entries-index-end.result ≡ c.entries_before-count.result = loaded-count f c.args.header.now.fields c.cluster-cluster.result c.entries_before-count.result c.entries-index-end.result c.in-Ok.table c.in-Ok.ensures.ok c.entries-index-end.ensures.value in
    let inside : c.loop-index.index < c.entries_before-count.result = omega (arith, all, c.loop-index-test.true) in
    let word' = loaded-word f c.args.header.now.fields c.cluster-cluster.result c.entries_before-count.result c.loop-index.index c.get.result c.in-Ok.table c.in-Ok.ensures.ok c.get.ensures in
    let named : block_at f c.args.header.now.fields c.loop-index.index ≡ block_offset c.get.result = block-loaded f (record c.args.header.now { features = c.requires.loads.0 }) c.requires.loads.1 c.cluster-cluster.result at c.entries_before-count.result c.loop-index.index few inside ∙ ap block_offset word' in
    let place' : c.match-refblock_offset.place ≡ block_offset c.get.result = elim c.match-refblock_offset.branch [
      | in-Some w ↦
          let there = some-place (block_offset c.get.result) w.in-Some.place (sym w.in-Some.is ∙ c.refblock_offset.ensures) in
          let same : w.place.inside.0 ≡ w.in-Some.place = cc (w.place.view_is) in
          w.place-is ∙ (same ∙ there.0)
      | in-None w ↦ w.place-is ∙ sym (none-place (block_offset c.get.result) (sym w.in-None.is ∙ c.refblock_offset.ensures))
    ] in
    blocks-more f c.args.header.now.fields c.loop-index.index c.match-refblock_offset.place c.loop-index.places.items c.push.new.self.items c.loop-index.invariant c.in_ok-push.ensures.items (named ∙ sym place')

pub returns-clause-ok : goal.returns-clause-ok
returns-clause-ok g c =
    let old = g.S.Storage.state c.args.image.now in
    let at = cluster-at c.cluster-cluster.result _ _ _ _ c.cluster-cluster.ensures c.reftable_offset-offset.ensures c.cluster_bits.ensures.value in
    let past = λ (i : ℕ) (le : c.entries_before-count.result ≤ i) (lt : i < refcount_table_entries c.args.header.now.fields).
    let rest = c.entries_before-count.ensures.later_past_end i le (omega (arith, lt, c.reftable_entries.ensures)) in
    let beyond : length (g.S.Storage.state c.args.image.now).bytes ≤ c.args.header.now.fields.refcount_table_offset + 8 * i = omega (arith, rest, c.size.ensures.value, c.reftable_offset-offset.ensures) in
    beyond
    in
    let sound = blocks-sound-by-first old.bytes (record c.args.header.now { features = c.requires.loads.0 }) c.requires.loads.1 c.cluster-cluster.result c.entries_before-count.result at c.in-Ok.ensures.sound past in
    let all : c.entries-index-end.result ≡ c.entries_before-count.result = loaded-count (file (g.S.Storage.state c.args.image.now)) c.args.header.now.fields c.cluster-cluster.result c.entries_before-count.result c.entries-index-end.result c.in-Ok.table c.in-Ok.ensures.ok c.entries-index-end.ensures.value in
    let whole : c.loop-index.index ≡ c.entries_before-count.result = omega (arith, all, c.loop-index-test.false, c.loop-index.auto.index-end) in
    blocks-all old.bytes c.args.header.now.fields c.loop-index.index c.loop-index.places.items (omega (arith, whole, c.entries_before-count.ensures.count_bounded, c.reftable_entries.ensures)) sound
    (λ i le lt. past i (omega (arith, whole, le)) lt) c.loop-index.invariant
