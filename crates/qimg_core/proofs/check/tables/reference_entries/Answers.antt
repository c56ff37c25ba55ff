use Rattle.std.proofs.Common.{◌<◌, arith, length}
use Rattle.qcow2_types.specs.Header.{entries_of_cluster}
use Rattle.qcow2_metadata.specs.MappingView.{mapping_seen}
use Rattle.qimg_core.proofs.Contents.Words.{adds-word, adds-no-words, word-meant, adds-all-words}
use Rattle.qimg_core.proofs.check.tables.reference_entries.Goals as goal

pub loop-index-init : goal.loop-index-init
loop-index-init c = adds-no-words c.args.header.now.fields c.args.times c.args.names.now c.args.table.now.raw_entries

pub loop-index-preserved : goal.loop-index-preserved
loop-index-preserved c =
    let inside : c.loop-index.index < length c.args.table.now.raw_entries = omega (arith, c.entries-index-end.ensures.value, c.loop-index-test.true) in
    let below : c.loop-index.index < entries_of_cluster c.args.header.now.fields = omega (arith, c.requires.whole, inside) in
    let means = word-meant c.args.header.now.fields c.args.table.now.layout c.args.table.now.raw_entries c.loop-index.index (mapping_seen c.get_mapping-mapping.result) c.requires.layout below c.get_mapping-mapping.ensures.means in
    adds-word c.args.header.now.fields c.args.times c.args.names.now c.loop-index.names c.reference_mapping.new.names c.args.table.now.raw_entries c.loop-index.index (mapping_seen c.get_mapping-mapping.result) inside means c.loop-index.invariant c.in_ok-reference_mapping.ensures.ok

pub returns-clause-ok : goal.returns-clause-ok
returns-clause-ok c = adds-all-words c.args.header.now.fields c.args.times c.args.names.now c.loop-index.names c.args.table.now.raw_entries c.loop-index.index (omega (arith, c.entries-index-end.ensures.value, c.loop-index-test.false, c.loop-index.auto.index-end)) c.loop-index.invariant
