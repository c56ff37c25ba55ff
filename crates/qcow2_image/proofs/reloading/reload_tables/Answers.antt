use Rattle.std.proofs.Common.{◌≡◌, subst, sym, false, Ok}
use Rattle.imago_storage.specs.State.{StorageState}
use Rattle.qcow2_types.specs.Header.{header_of}
use Rattle.qcow2_metadata.specs.Loading.{file, NotLoaded}
use Rattle.qcow2_image.specs.Opening.{header_for}
use Rattle.qcow2_image.proofs.Anew.{header-why, first-why}
use Rattle.qcow2_alloc.proofs.Faults.{handed-on}
use Rattle.qcow2_image.proofs.reloading.reload_tables.Goals as goal

pub returns-in_err-header-clause-err : goal.returns-in_err-header-clause-err
returns-in_err-header-clause-err g c = rw (handed-on _ _ c.from_residual.ensures.1) (λ w.
    let old = g.S.Storage.state c.args.image.now in
    header-why w (file old) c.args.opened.now old (g.S.Storage.state c.reload_header.new.image) c.in_err-header.field-0.0
    c.in_err-header.ensures.err c.in_err-header.ensures.first)

pub returns-in-Err-clause-err : goal.returns-in-Err-clause-err
returns-in-Err-clause-err g c = λ w.
    let old = g.S.Storage.state c.args.image.now in
    let new = g.S.Storage.state c.load_l1.new.image in
    let why = subst (λ (s : StorageState). NotLoaded (header_for false (file s)) s new c.in-Err.fault) c.in_ok-header.ensures.same
    (c.in-Err.ensures.err false (subst (λ (s : StorageState). header_of false (file s) ≡ Ok c.in_ok-header.header)
    (sym c.in_ok-header.ensures.same) c.in_ok-header.ensures.loads)) in
    first-why w (file old) c.args.opened.now c.in_ok-header.header c.in_ok-header.ensures.loads old new c.in-Err.fault c.first_fault.result
    c.first_fault.ensures why
