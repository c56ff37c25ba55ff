use Rattle.std.proofs.Common.{◌*◌, ◌^◌, ◌≤◌, arith, ap, sym, subst, ◌∙◌, OnOk}
use Rattle.qcow2_types.specs.Words.{max_offset}
use Rattle.qcow2_metadata.specs.MappingView.{IsHostAddressable, mapping_seen}
use Rattle.qcow2_metadata.specs.declared.mapping.L2Mapping.TheVariants.{Zero}
use Rattle.qimg_core.specs.Entering.{AddsMapping}
use Rattle.qimg_core.proofs.Names.Ranges.{named-small}
use Rattle.qimg_core.proofs.check.tables.reference_mapping.Goals as goal

pub reference_data-requires : goal.reference_data-requires
reference_data-requires c =
    let named : c.in-DataFile.host_cluster * 2 ^ c.args.header.now.fields.cluster_bits ≤ max_offset = subst (IsHostAddressable c.args.header.now.fields.cluster_bits) c.in-DataFile.is c.requires.named in
    named-small _ c.args.header.now.fields.cluster_bits c.requires.wide (omega arith)

pub reference_data-requires-in-Some : goal.reference_data-requires-in-Some
reference_data-requires-in-Some c =
    let named : c.in-Some.cluster * 2 ^ c.args.header.now.fields.cluster_bits ≤ max_offset = subst (IsHostAddressable c.args.header.now.fields.cluster_bits) (c.in-Zero.is ∙ ap (λ kept. Zero kept c.in-Zero.copied) c.in-Some.is) c.requires.named in
    named-small _ c.args.header.now.fields.cluster_bits c.requires.wide (omega arith)

pub returns-in-Some-clause-ok : goal.returns-in-Some-clause-ok
returns-in-Some-clause-ok c =
    subst (λ m. OnOk c.reference_data-in-Some.result (AddsMapping c.args.header.now.fields c.args.times c.args.names.now c.reference_data-in-Some.new.names (mapping_seen m)))
    (sym (c.in-Zero.is ∙ ap (λ kept. Zero kept c.in-Zero.copied) c.in-Some.is))
    (c.reference_data-in-Some.ensures.ok c.args.header.now.fields)
