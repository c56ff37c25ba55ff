use Rattle.std.proofs.Common.{◌≡◌, ◌<◌, ◌≤◌, ◌∙◌, ap, sym, arith, [], ◌∷◌, ◌++◌, true}
use Rattle.qcow2_types.specs.Words.{table_offset}
use Rattle.qcow2_types.specs.Header.{Limited}
use Rattle.qcow2_types.specs.Entries.{l2_table}
use Rattle.qcow2_types.proofs.Counting.Consistent.{header-reading}
use Rattle.qcow2_types.proofs.Fields.HeaderLimits.{header-limited}
use Rattle.qcow2_metadata.specs.Loading.{file}
use Rattle.qimg_core.proofs.Tables.FewerWords.{cluster-at, loaded-count, loaded-word, l1-finding, l1-sound-by-first}
use Rattle.qimg_core.proofs.Tables.Places.{l1-place, some-place, none-place}
use Rattle.qimg_core.proofs.check.tables.table_places.Goals as goal
use Rattle.qimg_core.proofs.check.tables.table_places.Goals.{in-Some+in_ok-push, in_default}
use Rattle.qimg_core.proofs.Tables.TablePlaces.{tables-pushed, tables-skip, tables-all, l2-loaded}

pub entries_before-count-requires : goal.entries_before-count-requires
entries_before-count-requires g c = let limited : Limited c.args.header.now.fields = header-limited true _ _ c.requires.loads.1 in omega (arith, limited.l1_entries, c.l1_table_entries.ensures)

pub load-requires-clause-reach : goal.load-requires-clause-reach
load-requires-clause-reach g c = (l1-place (file (g.S.Storage.state c.args.image.now)) (record c.args.header.now { features = c.requires.loads.0 }) (header-reading (file (g.S.Storage.state c.args.image.now)) (record c.args.header.now { features = c.requires.loads.0 }) c.requires.loads.1) c.cluster-cluster.result (cluster-at c.cluster-cluster.result _ _ _ _ c.cluster-cluster.ensures c.l1_table_offset-offset.ensures c.cluster_bits.ensures.value)).1

pub returns-in-Err-clause-err : goal.returns-in-Err-clause-err
returns-in-Err-clause-err g c =
    let old = g.S.Storage.state c.args.image.now in
    let new = g.S.Storage.state c.load.new.image in
    let loads = header-reading (file (g.S.Storage.state c.args.image.now)) (record c.args.header.now { features = c.requires.loads.0 }) c.requires.loads.1 in
    let at = cluster-at c.cluster-cluster.result _ _ _ _ c.cluster-cluster.ensures c.l1_table_offset-offset.ensures c.cluster_bits.ensures.value in
    let few : c.entries_before-count.result ≤ c.args.header.now.fields.l1_entries = omega (arith, c.entries_before-count.ensures.count_bounded, c.l1_table_entries.ensures) in
    rw c.load_fault.ensures (l1-finding old new (record c.args.header.now { features = c.requires.loads.0 }) loads c.cluster-cluster.result c.entries_before-count.result at few c.in-Err.fault c.in-Err.ensures.err)

pub returns-clause-sound : goal.returns-clause-sound
returns-clause-sound g c =
    let old = g.S.Storage.state c.args.image.now in
    let loads = header-reading (file (g.S.Storage.state c.args.image.now)) (record c.args.header.now { features = c.requires.loads.0 }) c.requires.loads.1 in
    let at = cluster-at c.cluster-cluster.result _ _ _ _ c.cluster-cluster.ensures c.l1_table_offset-offset.ensures c.cluster_bits.ensures.value in
    l1-sound-by-first old.bytes (record c.args.header.now { features = c.requires.loads.0 }) loads c.cluster-cluster.result c.entries_before-count.result at c.in-Ok.ensures.sound
    (λ i past lt. let rest = c.entries_before-count.ensures.later_past_end i past (omega (arith, lt, c.l1_table_entries.ensures)) in omega (arith, rest, c.size.ensures.value, c.l1_table_offset-offset.ensures))

pub loop-index-preserved : goal.loop-index-preserved
loop-index-preserved g c =
    let f = file (g.S.Storage.state c.args.image.now) in
    let loads = header-reading (file (g.S.Storage.state c.args.image.now)) (record c.args.header.now { features = c.requires.loads.0 }) c.requires.loads.1 in
    let at = cluster-at c.cluster-cluster.result _ _ _ _ c.cluster-cluster.ensures c.l1_table_offset-offset.ensures c.cluster_bits.ensures.value in
    let few : c.entries_before-count.result ≤ c.args.header.now.fields.l1_entries = omega (arith, c.entries_before-count.ensures.count_bounded, c.l1_table_entries.ensures) in
    let all : c.entries-index-end.result ≡ c.entries_before-count.result = loaded-count f c.args.header.now.fields c.cluster-cluster.result c.entries_before-count.result c.entries-index-end.result c.in-Ok.table c.in-Ok.ensures.ok c.entries-index-end.ensures.value in
    let inside : c.loop-index.index < c.entries_before-count.result = omega (arith, all, c.loop-index-test.true) in
    let word' = loaded-word f c.args.header.now.fields c.cluster-cluster.result c.entries_before-count.result c.loop-index.index c.get.result c.in-Ok.table c.in-Ok.ensures.ok c.get.ensures in
    let named : l2_table f c.args.header.now.fields c.loop-index.index ≡ table_offset c.get.result = l2-loaded f (record c.args.header.now { features = c.requires.loads.0 }) loads c.cluster-cluster.result c.entries_before-count.result c.loop-index.index at few inside ∙ ap table_offset word' in
    elim c.match-l2_offset.branch [
      | in-Some+in_ok-push w ↦
          let there = some-place (table_offset c.get.result) w.in-Some.place (sym w.in-Some.is ∙ c.l2_offset.ensures) in
          let pushed : c.match-l2_offset.places.items ≡ c.loop-index.places.items ++ w.place.inside.0 ∷ [] = ap (λ v. v.items) w.places-is ∙ w.in_ok-push.ensures.items in
          let same : w.place.inside.0 ≡ w.in-Some.place = cc (w.place.view_is) in
          let here : w.place.inside.0 ≡ table_offset c.get.result = same ∙ there.0 in
          tables-pushed f c.args.header.now.fields c.loop-index.index w.place.inside.0 c.loop-index.places.items c.match-l2_offset.places.items c.loop-index.invariant pushed (named ∙ sym here) (λ zeroth. there.1 (sym here ∙ zeroth))
      | in_default w ↦
          let none = none-place (table_offset c.get.result) (sym w.in_default.is ∙ c.l2_offset.ensures) in
          ap (λ v. v.items) w.places-is ∙ c.loop-index.invariant ∙ sym (tables-skip f c.args.header.now.fields c.loop-index.index (named ∙ none))
    ]

pub returns-clause-ok : goal.returns-clause-ok
returns-clause-ok g c =
    let f = file (g.S.Storage.state c.args.image.now) in
    let all : c.entries-index-end.result ≡ c.entries_before-count.result = loaded-count f c.args.header.now.fields c.cluster-cluster.result c.entries_before-count.result c.entries-index-end.result c.in-Ok.table c.in-Ok.ensures.ok c.entries-index-end.ensures.value in
    let whole : c.loop-index.index ≡ c.entries_before-count.result = omega (arith, all, c.loop-index-test.false, c.loop-index.auto.index-end) in
    tables-all (g.S.Storage.state c.args.image.now).bytes c.args.header.now.fields c.loop-index.index c.loop-index.places.items
    (omega (arith, whole, c.entries_before-count.ensures.count_bounded, c.l1_table_entries.ensures))
    (λ i past lt. let rest = c.entries_before-count.ensures.later_past_end i (omega (arith, whole, past)) (omega (arith, lt, c.l1_table_entries.ensures)) in omega (arith, rest, c.size.ensures.value, c.l1_table_offset-offset.ensures))
    c.loop-index.invariant
