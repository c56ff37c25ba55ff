use Rattle.std.proofs.Common.{rules}
use Rattle.std.specs.Prelude.{false, map}
use Rattle.imago_storage.proofs.Parts.{passed}
use Rattle.qcow2_types.specs.Bytes.{bytes_of}
use Rattle.qcow2_types.specs.Header.{header_of}
use Rattle.qimg_chain.specs.FileMeanings.{extra_bytes}
use Rattle.qimg_chain.specs.FilesByName.{qcow2_through, sized}
use Rattle.qimg_chain.proofs.FilesShown.{qcow2_shown}
use Rattle.qimg_chain.proofs.Refusing.{qcow2_refused}
use Rattle.qimg_chain.proofs.chain.opening.open_qcow2.Goals as goal

pub returns-clause-means : goal.returns-clause-means
returns-clause-means g c = qcow2_shown g.row.S g.S.Storage g.S.Storage-dict g.S.Destruct-dict c.args.writable c.args.number (g.S.Storage.state c.args.image) (map (extra_bytes g.S.Storage.state) c.args.extras.now.files.items) c.in_ok-qcow2.qcow2 (search rules)

pub returns-clause-named : goal.returns-clause-named
returns-clause-named g c =
    let d = c.in_ok-qcow2.qcow2 in
    let bytes = (g.S.Storage.state d.tables.file.image).bytes in
    record { size = sized d.mode.backing (bytes_of bytes) (header_of false (bytes_of bytes)); cell = qcow2_through d.mode.backing bytes }

pub returns-in_err-qcow2-clause-err : goal.returns-in_err-qcow2-clause-err
returns-in_err-qcow2-clause-err g c =
    let why = rw (c.write-builder.ensures.made, c.number.ensures, c.builder.ensures.base) at c.in_err-qcow2.ensures.err in
    passed c.from_residual.result _ c.in_err-qcow2.field-0.0 c.from_residual.ensures.1
    (qcow2_refused g.S.Storage.state c.args.writable (g.S.Storage.state c.args.image) c.args.extras.now.files.items c.in_err-qcow2.field-0.0 why)
