use Rattle.std.proofs.Common.{◌≡◌, ℕ, ◌+◌, ◌-◌, ◌/◌, ◌%◌, ◌<◌, ◌≤◌, ◌^◌, length, refl, arith, subst, take, drop, length-take, length-drop, ap, sym, ◌∙◌}
use Rattle.qcow2_types.specs.Bytes.{Bytes}
use Rattle.qcow2_types.specs.Entries.{l2_entries}
use Rattle.qcow2_types.specs.Words.{Mapping, mapping_of}
use Rattle.std.specs.Prelude.{slice_index}
use Rattle.imago_access.proofs.Answers.{handed_on}
use Rattle.qcow2_metadata.specs.MappingView.{mapping_seen}
use Rattle.qcow2_metadata.specs.Tables.{TableValue}
use Rattle.qcow2_metadata.specs.Loading.{file}
use Rattle.qimg_core.specs.Plain.{NotShown, mapped_value, table_value}
use Rattle.qimg_core.proofs.Calls.{kept-file}
use Rattle.qimg_core.proofs.PlainReads.Pieces.{shown-more, shown-short, div-near}
use Rattle.qimg_core.proofs.plain.pieces.read_clusters.Goals as goal

-- All bytes of one guest cluster have the same mapping.
one-mapping : (f g : Bytes) (table : TableValue) (m : Mapping) (bits at n : ℕ) → g ≡ f → bits ≡ table.layout.cluster_bits → m ≡ mapping_of table.layout (slice_index table.raw_entries (at / 2 ^ bits % l2_entries bits))
    → at % 2 ^ bits + n ≤ 2 ^ bits → (i : ℕ) → i < n → table_value f table (at + i) ≡ mapped_value g bits m (at + i)
one-mapping f g table m bits at n same is means fits i lt =
    let near : (at + i) / 2 ^ bits ≡ at / 2 ^ bits = div-near at i (2 ^ bits) (omega arith) in
    ap (λ b. mapped_value f b (mapping_of table.layout (slice_index table.raw_entries ((at + i) / 2 ^ b % l2_entries b))) (at + i)) (sym is)
    ∙ (ap (λ n. mapped_value f bits (mapping_of table.layout (slice_index table.raw_entries (n % l2_entries bits))) (at + i)) near
    ∙ (ap (λ x. mapped_value f bits x (at + i)) (sym means) ∙ ap (λ (x : Bytes). mapped_value x bits m (at + i)) (sym same)))

-- The mapping of the guest cluster of an offset.
its-mapping : (table : TableValue) (m : Mapping) (cluster bits place : ℕ) → m ≡ mapping_of table.layout (slice_index table.raw_entries (cluster % l2_entries table.layout.cluster_bits)) → cluster ≡ place / 2 ^ bits → bits ≡ table.layout.cluster_bits
    → m ≡ mapping_of table.layout (slice_index table.raw_entries (place / 2 ^ bits % l2_entries bits))
its-mapping table m cluster bits place means at is =
    means
    ∙ (ap (λ n. mapping_of table.layout (slice_index table.raw_entries (n % l2_entries table.layout.cluster_bits))) at
    ∙ ap (λ b. mapping_of table.layout (slice_index table.raw_entries (place / 2 ^ bits % l2_entries b))) (sym is))

pub loop-done-preserved : goal.loop-done-preserved
loop-done-preserved g c =
    let old = g.S.Storage.state c.args.image.now in
    let now = g.S.Storage.state c.loop-done.image in
    let new = g.S.Storage.state c.read_mapping.new.image in
    let bits : ℕ = c.cluster_bits-bits.result in
    let mapping : Mapping = mapping_seen c.get_mapping-mapping.result in
    let place : ℕ = c.args.at + c.loop-done.done in
    let means = its-mapping c.args.table.now mapping c.cluster.result bits place c.get_mapping-mapping.ensures.means c.cluster.ensures c.cluster_bits-bits.ensures.value in
    let n : c.loop-done.done + c.in_cluster-n.result - c.loop-done.done ≡ c.in_cluster-n.result = omega arith in
    let long : length c.read_mapping.new.buf ≡ c.in_cluster-n.result = omega (arith, c.read_mapping.auto.buf) in
    let most : c.loop-done.done + c.in_cluster-n.result ≤ length c.loop-done.buf = omega (arith, c.in_cluster-n.ensures.most) in
    shown-more (table_value (file old) c.args.table.now) (mapped_value (file now) bits mapping) old now new c.args.at c.loop-done.done c.in_cluster-n.result place _ c.loop-done.buf c.read_mapping.new.buf c.loop-done.invariant n long most refl
    (one-mapping (file old) (file now) c.args.table.now mapping bits place c.in_cluster-n.result (kept-file old now c.loop-done.invariant.kept) c.cluster_bits-bits.ensures.value means c.in_cluster-n.ensures.one_cluster)
    c.in_ok-read_mapping.ensures.ok c.read_mapping.ensures.unchanged_but_faults c.in_ok-read_mapping.ensures.faults

pub returns-in_err-read_mapping-clause-err : goal.returns-in_err-read_mapping-clause-err
returns-in_err-read_mapping-clause-err g c =
    let old = g.S.Storage.state c.args.image.now in
    let now = g.S.Storage.state c.loop-done.image in
    let new = g.S.Storage.state c.read_mapping.new.image in
    let bits : ℕ = c.cluster_bits-bits.result in
    let mapping : Mapping = mapping_seen c.get_mapping-mapping.result in
    let place : ℕ = c.args.at + c.loop-done.done in
    let means = its-mapping c.args.table.now mapping c.cluster.result bits place c.get_mapping-mapping.ensures.means c.cluster.ensures c.cluster_bits-bits.ensures.value in
    let n : c.loop-done.done + c.in_cluster-n.result - c.loop-done.done ≡ c.in_cluster-n.result = omega arith in
    let most : c.loop-done.done + c.in_cluster-n.result ≤ length c.args.buf.now = omega (arith, c.in_cluster-n.ensures.most, c.loop-done.auto.buf) in
    let long : length (take (c.loop-done.done + c.in_cluster-n.result - c.loop-done.done) (drop c.loop-done.done c.loop-done.buf)) ≡ c.in_cluster-n.result =
    omega (arith, length-take (c.loop-done.done + c.in_cluster-n.result - c.loop-done.done) (drop c.loop-done.done c.loop-done.buf), length-drop c.loop-done.done c.loop-done.buf, c.in_cluster-n.ensures.most) in
    rw (handed_on _ _ c.from_residual.ensures.1) (shown-short (table_value (file old) c.args.table.now) (mapped_value (file now) bits mapping) old now new c.args.at c.loop-done.done c.in_cluster-n.result place (length c.args.buf.now) c.loop-done.buf c.in_err-read_mapping.field-0.0 c.loop-done.invariant most refl
    (one-mapping (file old) (file now) c.args.table.now mapping bits place c.in_cluster-n.result (kept-file old now c.loop-done.invariant.kept) c.cluster_bits-bits.ensures.value means c.in_cluster-n.ensures.one_cluster)
    (subst (λ k. NotShown (mapped_value (file now) bits mapping) now new place k c.in_err-read_mapping.field-0.0) long c.in_err-read_mapping.ensures.err))
