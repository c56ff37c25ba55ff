use Rattle.std.proofs.Common.{sym, ◌∙◌}
use Rattle.qcow2_metadata.specs.Loading.{file}
use Rattle.qcow2_image.proofs.OpenRefusals.{header-refused, before-table, external-refused}
use Rattle.qcow2_alloc.proofs.Faults.{handed-on}
use Rattle.qcow2_image.proofs.opening.load_header.Goals as goal

pub returns-in_err-header-clause-err : goal.returns-in_err-header-clause-err
returns-in_err-header-clause-err g c = rw (handed-on _ _ c.from_residual.ensures.1) (
    let old = g.S.Storage.state c.args.image.now in
    header-refused c.args.writable (file old) old (g.S.Storage.state c.load.new.image) c.in_err-header.field-0.0
    c.in_err-header.ensures.err)

pub returns-in_err-header-clause-first : goal.returns-in_err-header-clause-first
returns-in_err-header-clause-first g c = rw (handed-on _ _ c.from_residual.ensures.1) (
    let old = g.S.Storage.state c.args.image.now in
    before-table c.args.writable (file old) old (g.S.Storage.state c.load.new.image) c.in_err-header.field-0.0 c.in_err-header.ensures.err)

pub returns-then-external_data_file-clause-err : goal.returns-then-external_data_file-clause-err
returns-then-external_data_file-clause-err g c =
    let external = sym c.external_data_file.ensures ∙ c.if-external_data_file.true in (
      external-refused c.args.writable (file (g.S.Storage.state c.args.image.now)) c.in_ok-header.header c.in_ok-header.ensures.ok external,
      c.in_ok-header.ensures.faults,
    )
