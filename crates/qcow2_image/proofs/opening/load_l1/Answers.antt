use Rattle.std.proofs.Common.{◌≡◌, ◌/◌, sym, false}
use Rattle.std.proofs.lemmas.Result.{IfErr-weaker}
use Rattle.qcow2_metadata.specs.Loading.{file}
use Rattle.qcow2_types.specs.Header.{cluster_size}
use Rattle.qcow2_image.proofs.OpenRefusals.{table-in-reach, table-loaded, table-not-loaded}
use Rattle.qcow2_image.proofs.opening.load_l1.Goals as goal

pub load-requires-clause-reach : goal.load-requires-clause-reach
load-requires-clause-reach g c =
    let h = c.args.header.now.fields in
    let f = file (g.S.Storage.state c.args.image.now) in
    let at : c.cluster-cluster.result ≡ h.l1_offset / cluster_size h = rw (sym c.l1_table_offset.ensures, sym c.cluster_bits.ensures.value) c.cluster-cluster.ensures in
    table-in-reach false f c.args.header.now c.requires.loads c.requires.inside c.cluster-cluster.result at

pub returns-clause-ok : goal.returns-clause-ok
returns-clause-ok g c =
    let h = c.args.header.now.fields in
    let f = file (g.S.Storage.state c.args.image.now) in
    let at : c.cluster-cluster.result ≡ h.l1_offset / cluster_size h = rw (sym c.l1_table_offset.ensures, sym c.cluster_bits.ensures.value) c.cluster-cluster.ensures in
    table-loaded false f c.args.header.now c.requires.loads c.requires.inside c.cluster-cluster.result at c.load.result
    (rw c.l1_table_entries.ensures at c.load.ensures.ok) (rw c.l1_table_entries.ensures at c.load.ensures.sound)

pub returns-clause-err : goal.returns-clause-err
returns-clause-err g c = λ writable loads.
    let h = c.args.header.now.fields in
    let f = file (g.S.Storage.state c.args.image.now) in
    let at : c.cluster-cluster.result ≡ h.l1_offset / cluster_size h = rw (sym c.l1_table_offset.ensures, sym c.cluster_bits.ensures.value) c.cluster-cluster.ensures in
    IfErr-weaker c.load.result _ _
    (table-not-loaded writable f c.args.header.now loads c.requires.inside c.cluster-cluster.result at (g.S.Storage.state c.args.image.now)
    (g.S.Storage.state c.load.new.image)) (rw c.l1_table_entries.ensures at c.load.ensures.err)
