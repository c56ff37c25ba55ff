-- First come the references by the structure, and then those of the L2 tables.
use Rattle.std.proofs.Common.{arith, ap, sym, subst, ◌∙◌}
use Rattle.std.specs.Prelude.{IsTrue, All}
use Rattle.std.proofs.lemmas.Result.{err_from_is_err_and}
use Rattle.qcow2_types.specs.Entries.{l2_table_sound}
use Rattle.qcow2_metadata.specs.Loading.{file}
use Rattle.qimg_core.specs.CheckParts.{AreTables, IsBlocksEnd, counted_clusters}
use Rattle.qcow2_types.proofs.Changes.WriteBack.{place-near}
use Rattle.qimg_core.proofs.Contents.TableList.{tables-placed, places-bounded, table-bytes, sound-by-list, damaged-finding}
use Rattle.qimg_core.proofs.Contents.Image.{given-tells}
use Rattle.qimg_core.proofs.Names.Clusters.{adds-since}
use Rattle.qimg_core.proofs.check.names_of.Goals as goal

pub reference_structure-requires-clause-l1 : goal.reference_structure-requires-clause-l1
reference_structure-requires-clause-l1 g c =
    omega (arith, c.requires.limited.l1_entries, place-near c.args.header.now.fields.cluster_bits c.args.header.now.fields.l1_offset c.requires.limited.l1_place)

pub reference_structure-requires-clause-refcounts : goal.reference_structure-requires-clause-refcounts
reference_structure-requires-clause-refcounts g c =
    omega (arith, c.requires.limited.refcount_entries, table-bytes c.args.header.now.fields c.requires.shaped, place-near c.args.header.now.fields.cluster_bits c.args.header.now.fields.refcount_table_offset c.requires.limited.refcount_place)

pub reference_structure-requires-clause-tables : goal.reference_structure-requires-clause-tables
reference_structure-requires-clause-tables g c = places-bounded _ _ c.args.header.now.fields.cluster_bits c.requires.places.in_order (tables-placed (file (g.S.Storage.state c.args.image.now)) c.args.header.now.fields c.requires.places.l1_sound)

pub reference_contents-requires : goal.reference_contents-requires
reference_contents-requires g c = subst (AreTables c.args.header.now.fields.cluster_bits) (sym c.requires.places.in_order) (tables-placed (file (g.S.Storage.state c.args.image.now)) c.args.header.now.fields c.requires.places.l1_sound)

pub returns-in_err-reference_contents-clause-err : goal.returns-in_err-reference_contents-clause-err
returns-in_err-reference_contents-clause-err g c =
    let p = err_from_is_err_and c.from_residual-in_err-reference_contents.result c.from_residual-in_err-reference_contents.ensures.1 in
    rw (p.1, p.2) (damaged-finding (g.S.Storage.state c.args.image.now) (g.S.Storage.state c.reference_contents.new.image) c.args.header.now.fields c.args.places.tables.items c.requires.places.in_order c.in_err-reference_contents.field-0.0 c.in_err-reference_contents.ensures.err)

pub returns-clause-told : goal.returns-clause-told
returns-clause-told g c = given-tells _ c.args.header.now _ _ c.requires.places c.in_ok-names.names _ c.sort_references.new.names c.in_ok-names.ensures.ok c.in_ok-reference_structure.ensures.ok (adds-since _ _ c.reference_contents.new.names _ _ _ _ c.sort_references.ensures.same c.sort_references.ensures.cells c.sort_references.ensures.spares c.in_ok-reference_contents.ensures.ok)

pub returns-clause-spares : goal.returns-clause-spares
returns-clause-spares g c = c.sort_references.ensures.spares (c.in_ok-reference_contents.ensures.ok.spares (c.in_ok-reference_structure.ensures.ok.spares c.in_ok-names.ensures.spares))

pub returns-clause-cells : goal.returns-clause-cells
returns-clause-cells g c = (c.blocks_end.result, subst (λ l. IsBlocksEnd l c.blocks_end.result) c.deref.ensures.value c.blocks_end.ensures, c.sort_references.ensures.cells ∙ c.in_ok-reference_contents.ensures.ok.cells ∙ c.in_ok-reference_structure.ensures.ok.cells ∙ c.in_ok-names.ensures.cells ∙ c.cell_count-count.ensures ∙ ap (λ n. counted_clusters c.args.header.now.fields n c.blocks_end.result) c.size.ensures.value)

pub returns-clause-sound : goal.returns-clause-sound
returns-clause-sound g c = sound-by-list (file (g.S.Storage.state c.args.image.now)) c.args.header.now.fields c.requires.places.l1_sound c.requires.places.refcounts_sound (subst (All (λ place. IsTrue (l2_table_sound (file (g.S.Storage.state c.args.image.now)) c.args.header.now.fields place))) c.requires.places.in_order c.in_ok-reference_contents.ensures.sound)
