use Rattle.std.proofs.Common.{◌≡◌, ◌∙◌, ◌/◌, ap, ℕ, Ok}
use Rattle.qcow2_types.specs.Entries.{l2_entries}
use Rattle.qcow2_types.specs.Header.{entries_of_cluster}
use Rattle.qcow2_image.proofs.CallStarts.{begins-err, begins-then}
use Rattle.qcow2_image.proofs.ClusterSteps.{table-behind-word, table-wordless}
use Rattle.qcow2_alloc.proofs.Faults.{handed-on}
use Rattle.qcow2_image.proofs.qcow2.Qcow2.ensure_table.Goals as goal

pub returns-clause-table : goal.returns-clause-table
returns-clause-table g c =
    let index : c.l1_index-index.result ≡ c.args.guest / entries_of_cluster c.args.self.now.tables.file.header.fields =
    c.l1_index-index.ensures ∙ ap (λ b. c.args.guest / l2_entries b) c.cluster_bits.ensures.value in
    table-behind-word g.S.Storage c.args.guest c.l1_index-index.result c.args.self.now c.ensure_entry.new.self c.own_table.new.self index
    c.in_ok-ensure_entry.ensures.raw_entry
    c.own_table.result c.own_table.ensures.table

pub returns-in_err-ensure_entry-clause-table : goal.returns-in_err-ensure_entry-clause-table
returns-in_err-ensure_entry-clause-table g c = rw (handed-on _ _ c.from_residual.ensures.1) (
    let index : c.l1_index-index.result ≡ c.args.guest / entries_of_cluster c.args.self.now.tables.file.header.fields =
    c.l1_index-index.ensures ∙ ap (λ b. c.args.guest / l2_entries b) c.cluster_bits.ensures.value in
    table-wordless g.S.Storage c.args.guest c.l1_index-index.result c.args.self.now c.ensure_entry.new.self index
    c.in_err-ensure_entry.field-0.0 c.in_err-ensure_entry.ensures.raw_entry)

pub returns-clause-begins : goal.returns-clause-begins
returns-clause-begins g c =
    begins-then g.S.Storage {T = Unit} {U = ℕ} c.args.begun.now c.ensure_entry.new.begun c.own_table.new.begun c.args.self.now c.ensure_entry.new.self
    c.own_table.new.self (Ok tt) c.own_table.result tt c.in_ok-ensure_entry.ensures.begins c.own_table.ensures.begins

pub returns-in_err-ensure_entry-clause-begins : goal.returns-in_err-ensure_entry-clause-begins
returns-in_err-ensure_entry-clause-begins g c = rw (handed-on _ _ c.from_residual.ensures.1) (
    begins-err g.S.Storage {T = Unit} {U = ℕ} c.args.begun.now c.ensure_entry.new.begun c.args.self.now c.ensure_entry.new.self
    c.in_err-ensure_entry.field-0.0 c.in_err-ensure_entry.ensures.begins)
