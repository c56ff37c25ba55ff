use Rattle.std.proofs.Common.{◌*◌, ap, ◌∙◌}
use Rattle.std.proofs.lemmas.Result.{on_ok_weaker}
use Rattle.qimg_core.proofs.Contents.Places.{adds_start}
use Rattle.qimg_core.proofs.check.tables.reference_start.Goals as goal

pub returns-clause-ok : goal.returns-clause-ok
returns-clause-ok c =
    let h = c.args.header.now.fields in
    on_ok_weaker c.reference_range-3.result
    (λ last. adds_start h c.args.names.now c.reference_range.new.names c.reference_range-2.new.names c.reference_range-3.new.names _ _ _ _ _
    c.cluster_size-size.ensures.value
    (c.l1_offset.view_is ∙ c.l1_table_offset.ensures)
    (ap (λ n. n * 8) c.l1_table_entries.ensures)
    (c.reftable_offset-2.view_is ∙ c.reftable_offset.ensures)
    (ap (λ n. n * c.cluster_size-size.result) (c.reftable_size.view_is ∙ c.reftable_clusters.ensures) ∙ ap (λ n. h.refcount_table_clusters * n) c.cluster_size-size.ensures.value)
    c.in_ok-reference_range.ensures.ok c.in_ok-reference_range-2.ensures.ok last)
    c.reference_range-3.ensures.ok
