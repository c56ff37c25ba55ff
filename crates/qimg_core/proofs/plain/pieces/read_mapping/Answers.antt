use Rattle.std.proofs.Common.{◌≡◌, ◌+◌, ◌*◌, ◌%◌, ◌^◌, ◌≤◌, length, subst, sym, arith}
use Rattle.std.specs.Prelude.{OnOk}
use Rattle.imago_storage.specs.Disk.{Shows}
use Rattle.qcow2_metadata.specs.MappingView.{mapping_seen}
use Rattle.qcow2_metadata.specs.Loading.{file}
use Rattle.qimg_core.specs.Plain.{mapped_value}
use Rattle.qimg_core.proofs.PlainReads.Pieces.{data-shown, counts-unshown}
use Rattle.qimg_core.proofs.plain.pieces.read_mapping.Goals as goal

pub returns-in-DataFile-clause-ok : goal.returns-in-DataFile-clause-ok
returns-in-DataFile-clause-ok g c =
    let place : c.place.inside.0 ≡ c.in-DataFile.host_cluster * 2 ^ c.args.cluster_bits + c.args.at % 2 ^ c.args.cluster_bits = omega (arith, c.relative_offset.ensures, c.place.view_is) in
    let fits : c.args.at % 2 ^ c.args.cluster_bits + length c.read_at.new.buf ≤ 2 ^ c.args.cluster_bits = omega (arith, c.requires.one_cluster, c.read_at.auto.buf) in
    subst (λ m. OnOk c.read_at.result (Shows (mapped_value (file (g.S.Storage.state c.args.image.now)) c.args.cluster_bits (mapping_seen m)) c.args.at c.read_at.new.buf)) (sym c.in-DataFile.is)
    (data-shown c.read_at.result (g.S.Storage.state c.args.image.now).bytes c.args.cluster_bits c.in-DataFile.host_cluster c.place.inside.0 c.args.at c.in-DataFile.copied c.read_at.new.buf place fits c.read_at.ensures.read)

pub returns-in-DataFile-clause-err : goal.returns-in-DataFile-clause-err
returns-in-DataFile-clause-err g c =
    counts-unshown c.read_at.result (mapped_value (file (g.S.Storage.state c.args.image.now)) c.args.cluster_bits (mapping_seen c.args.mapping)) (g.S.Storage.state c.args.image.now) (g.S.Storage.state c.read_at.new.image) c.args.at (length c.args.buf.now) c.read_at.ensures.faults
