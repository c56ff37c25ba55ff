use Rattle.std.proofs.Common.{◌≡◌, ℕ, ◌*◌, ◌/◌, ◌^◌, length, List, sym, ap, ◌∙◌, arith}
use Rattle.std.specs.Prelude.{Option, slice_index}
use Rattle.imago_access.proofs.Answers.{handed_on}
use Rattle.qcow2_types.specs.Words.{table_offset}
use Rattle.qcow2_types.specs.Entries.{l2_entries}
use Rattle.qcow2_metadata.specs.Tables.{offset_or_none}
use Rattle.qcow2_metadata.specs.Loading.{file}
use Rattle.qimg_core.specs.Plain.{image_value, table_value}
use Rattle.qimg_core.proofs.Calls.{kept-file}
use Rattle.qimg_core.proofs.PlainReads.Tables.{none-shown, table-place, loaded-values, table-refused, shown-as, unshown-as}
use Rattle.qimg_core.proofs.plain.pieces.read_table.Goals as goal

-- The L1 index, as the code computes it.
its-index : (index at bits bits' : ℕ) → index ≡ at / 2 ^ bits / l2_entries bits → bits ≡ bits' → index ≡ at / 2 ^ bits' / l2_entries bits'
its-index index at bits bits' is same = is ∙ ap (λ b. at / 2 ^ b / l2_entries b) same

its-place : (found : Option ℕ) (raw_entry index : ℕ) (raw_entries : List ℕ) → found ≡ offset_or_none (table_offset raw_entry) → raw_entry ≡ slice_index raw_entries index → found ≡ offset_or_none (table_offset (slice_index raw_entries index))
its-place found raw_entry index raw_entries is same = is ∙ ap (λ w. offset_or_none (table_offset w)) same

its-cluster : (cluster place bits bits' : ℕ) → cluster ≡ place / 2 ^ bits → bits ≡ bits' → cluster ≡ place / 2 ^ bits'
its-cluster cluster place bits bits' is same = is ∙ ap (λ b. place / 2 ^ b) same

pub returns-in_default-clause-ok : goal.returns-in_default-clause-ok
returns-in_default-clause-ok g c =
    let f = file (g.S.Storage.state c.args.image.now) in
    let h = c.args.header.now.fields in
    let bits = c.cluster_bits-bits.ensures.value in
    let found = its-place c.l2_offset.result c.get.result c.l1_index.result c.args.l1.now.raw_entries c.l2_offset.ensures c.get.ensures in
    none-shown f h c.requires.sound c.requires.data_inside c.args.l1.now.raw_entries c.requires.raw_entries c.args.at (length c.args.buf.now) c.l1_index.result
    (its-index c.l1_index.result c.args.at c.cluster_bits-bits.result h.cluster_bits c.l1_index.ensures bits) c.requires.one_table
    (sym c.in_default.is ∙ found) c.blank.new.buf (omega (arith, c.blank.auto.buf)) c.blank.ensures

pub load-requires-clause-reach : goal.load-requires-clause-reach
load-requires-clause-reach g c =
    let f = file (g.S.Storage.state c.args.image.now) in
    let h = c.args.header.now.fields in
    let bits = c.cluster_bits-bits.ensures.value in
    let found = its-place c.l2_offset.result c.get.result c.l1_index.result c.args.l1.now.raw_entries c.l2_offset.ensures c.get.ensures in
    let whole = table-place f h c.requires.sound c.requires.data_inside c.args.l1.now.raw_entries c.requires.raw_entries c.args.at (length c.args.buf.now) c.l1_index.result
    (its-index c.l1_index.result c.args.at c.cluster_bits-bits.result h.cluster_bits c.l1_index.ensures bits) c.requires.one_table c.in-Some.place (sym c.in-Some.is ∙ found) in
    let cluster : c.cluster-cluster.result ≡ c.in-Some.place / 2 ^ h.cluster_bits = its-cluster c.cluster-cluster.result c.in-Some.place c.cluster_bits-bits.result h.cluster_bits c.cluster-cluster.ensures bits in
    let same : c.cluster-cluster.result * 2 ^ h.cluster_bits ≡ c.in-Some.place = ap (λ n. n * 2 ^ h.cluster_bits) cluster ∙ whole.0 in
    omega (arith, same, whole.1)

pub returns-clause-ok : goal.returns-clause-ok
returns-clause-ok g c =
    let old = g.S.Storage.state c.args.image.now in
    let now = g.S.Storage.state c.load.new.image in
    let h = c.args.header.now.fields in
    let bits = c.cluster_bits-bits.ensures.value in
    let found = its-place c.l2_offset.result c.get.result c.l1_index.result c.args.l1.now.raw_entries c.l2_offset.ensures c.get.ensures in
    shown-as c.read_clusters.result (image_value (file old) h) (table_value (file now) c.in_ok-table.table) c.args.at c.read_clusters.new.buf
    (λ i lt. loaded-values (file old) h c.requires.sound c.requires.data_inside c.args.l1.now.raw_entries c.requires.raw_entries c.args.at (length c.args.buf.now) c.l1_index.result
    (its-index c.l1_index.result c.args.at c.cluster_bits-bits.result h.cluster_bits c.l1_index.ensures bits) c.requires.one_table c.in-Some.place c.cluster-cluster.result (sym c.in-Some.is ∙ found)
    (its-cluster c.cluster-cluster.result c.in-Some.place c.cluster_bits-bits.result h.cluster_bits c.cluster-cluster.ensures bits)
    c.cluster_bits-bits.ensures.shaped.low (file now) c.in_ok-table.table (kept-file old now c.load.ensures.unchanged_but_faults) (rw c.l2_entries.ensures at c.in_ok-table.ensures.ok) (rw c.l2_entries.ensures at c.in_ok-table.ensures.sound)
    i (omega (arith, c.read_clusters.auto.buf)))
    c.read_clusters.ensures.ok

pub returns-clause-err : goal.returns-clause-err
returns-clause-err g c =
    let old = g.S.Storage.state c.args.image.now in
    let now = g.S.Storage.state c.load.new.image in
    let new = g.S.Storage.state c.read_clusters.new.image in
    let h = c.args.header.now.fields in
    let bits = c.cluster_bits-bits.ensures.value in
    let found = its-place c.l2_offset.result c.get.result c.l1_index.result c.args.l1.now.raw_entries c.l2_offset.ensures c.get.ensures in
    unshown-as c.read_clusters.result (image_value (file old) h) (table_value (file now) c.in_ok-table.table) old now new c.args.at (length c.args.buf.now) c.load.ensures.unchanged_but_faults c.in_ok-table.ensures.faults
    (λ i lt. loaded-values (file old) h c.requires.sound c.requires.data_inside c.args.l1.now.raw_entries c.requires.raw_entries c.args.at (length c.args.buf.now) c.l1_index.result
    (its-index c.l1_index.result c.args.at c.cluster_bits-bits.result h.cluster_bits c.l1_index.ensures bits) c.requires.one_table c.in-Some.place c.cluster-cluster.result (sym c.in-Some.is ∙ found)
    (its-cluster c.cluster-cluster.result c.in-Some.place c.cluster_bits-bits.result h.cluster_bits c.cluster-cluster.ensures bits)
    c.cluster_bits-bits.ensures.shaped.low (file now) c.in_ok-table.table (kept-file old now c.load.ensures.unchanged_but_faults) (rw c.l2_entries.ensures at c.in_ok-table.ensures.ok) (rw c.l2_entries.ensures at c.in_ok-table.ensures.sound) i lt)
    c.read_clusters.ensures.err

pub returns-in_err-table-clause-err : goal.returns-in_err-table-clause-err
returns-in_err-table-clause-err g c =
    let old = g.S.Storage.state c.args.image.now in
    let new = g.S.Storage.state c.load.new.image in
    let h = c.args.header.now.fields in
    let bits = c.cluster_bits-bits.ensures.value in
    let found = its-place c.l2_offset.result c.get.result c.l1_index.result c.args.l1.now.raw_entries c.l2_offset.ensures c.get.ensures in
    rw (handed_on _ _ c.from_residual.ensures.1) (table-refused (file old) h c.requires.sound c.requires.data_inside c.args.l1.now.raw_entries c.requires.raw_entries c.args.at (length c.args.buf.now) c.l1_index.result
    (its-index c.l1_index.result c.args.at c.cluster_bits-bits.result h.cluster_bits c.l1_index.ensures bits) c.requires.one_table c.in-Some.place c.cluster-cluster.result (sym c.in-Some.is ∙ found)
    (its-cluster c.cluster-cluster.result c.in-Some.place c.cluster_bits-bits.result h.cluster_bits c.cluster-cluster.ensures bits)
    old new c.cluster_bits-bits.ensures.shaped.high c.requires.nonempty c.in_err-table.field-0.0 (rw c.l2_entries.ensures at c.in_err-table.ensures.err))
