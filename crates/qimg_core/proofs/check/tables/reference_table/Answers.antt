use Rattle.std.proofs.Common.{refl, arith}
use Rattle.std.proofs.lemmas.Result.{on_ok_weaker}
use Rattle.qcow2_metadata.specs.Loading.{file}
use Rattle.qimg_core.proofs.Tables.FewerWords.{cluster-at}
use Rattle.qimg_core.proofs.Tables.L2Words.{l2-sound}
use Rattle.qimg_core.proofs.Contents.L2Table.{adds-table, adds-past, past-sound, l2-begin, l2-words, l2-finding}
use Rattle.qimg_core.proofs.check.tables.reference_table.Goals as goal

pub returns-then-size-place-clause-ok : goal.returns-then-size-place-clause-ok
returns-then-size-place-clause-ok g c = adds-past (g.S.Storage.state c.args.image.now).bytes c.args.header.now.fields c.args.place (omega (arith, c.size.ensures.value, c.if-size-place.true)) c.args.times c.args.names.now

pub returns-then-size-place-clause-sound : goal.returns-then-size-place-clause-sound
returns-then-size-place-clause-sound g c = past-sound (g.S.Storage.state c.args.image.now).bytes c.args.header.now.fields c.args.place (omega (arith, c.size.ensures.value, c.if-size-place.true))

pub returns-in-Ok-clause-ok : goal.returns-in-Ok-clause-ok
returns-in-Ok-clause-ok g c =
    let f = file (g.S.Storage.state c.args.image.now) in
    let h = c.args.header.now.fields in
    let at = cluster-at c.cluster-cluster.result c.args.place _ _ _ c.cluster-cluster.ensures refl c.cluster_bits.ensures.value in
    on_ok_weaker c.reference_entries.result
    (adds-table f h c.args.times c.args.names.now c.reference_entries.new.names c.args.place c.in-Ok.table.raw_entries (l2-words f h c.args.place c.cluster-cluster.result c.requires.place at c.in-Ok.table.raw_entries c.in-Ok.ensures.raw_entries))
    c.reference_entries.ensures.ok

pub returns-in-Ok-clause-sound : goal.returns-in-Ok-clause-sound
returns-in-Ok-clause-sound g c =
    let f = file (g.S.Storage.state c.args.image.now) in
    let at = cluster-at c.cluster-cluster.result c.args.place _ _ _ c.cluster-cluster.ensures refl c.cluster_bits.ensures.value in
    on_ok_weaker c.reference_entries.result (λ named. l2-sound f c.args.header.now.fields c.args.place c.cluster-cluster.result (l2-begin f c.args.header.now.fields c.args.place c.cluster-cluster.result c.requires.place at) c.in-Ok.ensures.sound) c.reference_entries.ensures.ok

pub returns-in-Err-clause-err : goal.returns-in-Err-clause-err
returns-in-Err-clause-err g c =
    let old = g.S.Storage.state c.args.image.now in
    let new = g.S.Storage.state c.load.new.image in
    let at = cluster-at c.cluster-cluster.result c.args.place _ _ _ c.cluster-cluster.ensures refl c.cluster_bits.ensures.value in
    rw c.load_fault.ensures (l2-finding old new c.args.header.now.fields c.args.place c.cluster-cluster.result c.requires.place at c.cluster_bits.ensures.shaped.high c.in-Err.fault c.in-Err.ensures.err)
