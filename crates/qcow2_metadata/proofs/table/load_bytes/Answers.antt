use Rattle.std.proofs.Common.{◌≡◌, ◌*◌, ◌^◌, ◌∙◌, ap}
use Rattle.qcow2_types.specs.Header.{cluster_size}
use Rattle.qcow2_metadata.proofs.TableFacts.{words_read_if}
use Rattle.qcow2_metadata.proofs.table.load_bytes.Goals as goal

pub returns-clause-raw_entries : goal.returns-clause-raw_entries
returns-clause-raw_entries g c =
    let h = c.args.header.now.fields in
    let place : c.place.inside.0 ≡ c.args.cluster * cluster_size h = c.place.view_is ∙ (c.offset.ensures ∙ ap (λ b. c.args.cluster * 2 ^ b) c.cluster_bits.ensures.value) in
    words_read_if (λ b. b.items) c.read_cluster.result (g.S.Storage.state c.args.image.now).bytes (c.args.cluster * cluster_size h) c.args.entries (rw place at c.read_cluster.ensures.read) c.read_cluster.ensures.whole
