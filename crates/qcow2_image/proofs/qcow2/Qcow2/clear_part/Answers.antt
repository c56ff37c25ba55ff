use Rattle.std.proofs.Common.{ℕ, ◌+◌, ◌%◌, ◌≤◌, ap, sym, subst, ◌∙◌, inl, refl}
use Rattle.qcow2_types.specs.Entries.{l2_entries}
use Rattle.qcow2_clusters.specs.Clearing.{IsPossible}
use Rattle.qcow2_image.specs.Looking.{place_of_table}
use Rattle.qcow2_image.proofs.Clearings.PartClears.{part-cleared, part-tableless, part-unloaded}
use Rattle.qcow2_alloc.proofs.Faults.{handed-on}
use Rattle.qcow2_image.proofs.qcow2.Qcow2.clear_part.Goals as goal

pub returns-then-is_unmapped : goal.returns-then-is_unmapped
returns-then-is_unmapped g c =
    let bits = c.cluster_bits-cluster_bits.ensures.value in
    let is = c.is_unmapped.ensures c.if-is_unmapped.true in
    inl (record {
      unmaps = is.0;
      none = ap (λ (b : ℕ). place_of_table c.args.self.now.tables.l1.raw_entries b c.args.guest) (sym bits) ∙ is.1;
      ok = refl;
      same = refl;
    })

pub clear_clusters-requires-clause-possible : goal.clear_clusters-requires-clause-possible
clear_clusters-requires-clause-possible g c =
    subst (IsPossible c.args.clearing) (sym (c.in_ok-table.ensures.table.keeps.version ∙ c.in_ok-load_space.ensures.keeps.version)) c.requires.possible

pub clear_clusters-requires-clause-row : goal.clear_clusters-requires-clause-row
clear_clusters-requires-clause-row g c =
    subst (λ (b : ℕ). c.args.guest % l2_entries b + c.args.count ≤ l2_entries b)
    (sym (c.in_ok-table.ensures.table.keeps.bits ∙ c.in_ok-load_space.ensures.keeps.bits)) c.requires.row

pub returns-in_err-load_space : goal.returns-in_err-load_space
returns-in_err-load_space g c = rw (handed-on _ _ c.from_residual.ensures.1)
    (part-unloaded g.S.Storage c.args.clearing c.args.guest c.args.count c.args.self.now c.load_space.new.self
    c.in_err-load_space.field-0.0 c.in_err-load_space.ensures)

pub returns-in_err-table : goal.returns-in_err-table
returns-in_err-table g c = rw (handed-on _ _ c.from_residual-in_err-table.ensures.1)
    (part-tableless g.S.Storage c.args.clearing c.args.guest c.args.count c.args.self.now c.load_space.new.self c.ensure_table.new.self
    c.in_err-table.field-0.0 c.in_ok-load_space.ensures c.in_err-table.ensures.table
    c.is_none-begun.result c.ensure_table.new.begun c.is_none-begun.ensures c.in_err-table.ensures.begins)

pub returns : goal.returns
returns g c = part-cleared g.S.Storage c.args.clearing c.args.guest c.args.count c.in_ok-table.table c.args.self.now c.load_space.new.self
    c.ensure_table.new.self c.clear_clusters.new.self c.clear_clusters.result
    c.in_ok-load_space.ensures c.in_ok-table.ensures.table c.clear_clusters.ensures.clears
    c.is_none-begun.result c.ensure_table.new.begun c.clear_clusters.new.begun c.is_none-begun.ensures c.in_ok-table.ensures.begins
    c.clear_clusters.ensures.begins
