use Rattle.std.proofs.Common.{◌≤◌, arith, false}
use Rattle.qcow2_types.proofs.Fields.HeaderLimits.{header-limited}
use Rattle.qcow2_metadata.specs.Loading.{file}
use Rattle.qimg_core.proofs.Tables.Places.{l1-place}
use Rattle.qimg_core.proofs.Tables.FewerWords.{cluster-at, l1-sound, l1-refused}
use Rattle.qimg_core.proofs.Tables.TablePlaces.{first-words}
use Rattle.qimg_core.proofs.plain.load_l1.Goals as goal

pub entries_before-count-requires : goal.entries_before-count-requires
entries_before-count-requires g c = let limited = header-limited false _ _ c.requires in omega (arith, limited.l1_entries, c.l1_table_entries.ensures)

pub load-requires-clause-reach : goal.load-requires-clause-reach
load-requires-clause-reach g c = (l1-place (file (g.S.Storage.state c.args.image.now)) c.args.header.now c.requires c.cluster-cluster.result (cluster-at c.cluster-cluster.result _ _ _ _ c.cluster-cluster.ensures c.l1_table_offset-offset.ensures c.cluster_bits.ensures.value)).1

pub returns-clause-raw_entries : goal.returns-clause-raw_entries
returns-clause-raw_entries g c =
    let old = g.S.Storage.state c.args.image.now in
    let at = cluster-at c.cluster-cluster.result _ _ _ _ c.cluster-cluster.ensures c.l1_table_offset-offset.ensures c.cluster_bits.ensures.value in
    let few : c.entries_before-count.result ≤ c.args.header.now.fields.l1_entries = omega (arith, c.entries_before-count.ensures.count_bounded, c.l1_table_entries.ensures) in
    first-words c.load.result old.bytes c.args.header.now c.requires c.cluster-cluster.result c.entries_before-count.result at few
    (λ i past lt. let rest = c.entries_before-count.ensures.later_past_end i past (omega (arith, lt, c.l1_table_entries.ensures)) in omega (arith, rest, c.size.ensures.value, c.l1_table_offset-offset.ensures))
    c.load.ensures.ok

pub returns-clause-sound : goal.returns-clause-sound
returns-clause-sound g c =
    let old = g.S.Storage.state c.args.image.now in
    let at = cluster-at c.cluster-cluster.result _ _ _ _ c.cluster-cluster.ensures c.l1_table_offset-offset.ensures c.cluster_bits.ensures.value in
    l1-sound c.load.result old.bytes c.args.header.now c.requires c.cluster-cluster.result c.entries_before-count.result at c.load.ensures.sound
    (λ i past lt. let rest = c.entries_before-count.ensures.later_past_end i past (omega (arith, lt, c.l1_table_entries.ensures)) in omega (arith, rest, c.size.ensures.value, c.l1_table_offset-offset.ensures))

pub returns-clause-err : goal.returns-clause-err
returns-clause-err g c =
    let at = cluster-at c.cluster-cluster.result _ _ _ _ c.cluster-cluster.ensures c.l1_table_offset-offset.ensures c.cluster_bits.ensures.value in
    let few : c.entries_before-count.result ≤ c.args.header.now.fields.l1_entries = omega (arith, c.entries_before-count.ensures.count_bounded, c.l1_table_entries.ensures) in
    l1-refused c.load.result (g.S.Storage.state c.args.image.now) (g.S.Storage.state c.load.new.image) c.args.header.now c.requires c.cluster-cluster.result c.entries_before-count.result at few c.load.ensures.err
