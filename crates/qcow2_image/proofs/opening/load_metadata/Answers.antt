use Rattle.std.proofs.Common.{◌≡◌, subst, sym, Ok}
use Rattle.imago_storage.specs.State.{StorageState}
use Rattle.qcow2_types.specs.Header.{header_of}
use Rattle.qcow2_metadata.specs.Loading.{file, NotLoaded}
use Rattle.qcow2_image.specs.Opening.{header_for}
use Rattle.qcow2_image.proofs.OpenRefusals.{reads-too}
use Rattle.qcow2_alloc.proofs.Faults.{handed-on}
use Rattle.qcow2_image.proofs.opening.load_metadata.Goals as goal

pub load_l1-requires-clause-loads : goal.load_l1-requires-clause-loads
load_l1-requires-clause-loads g c =
    let now = g.S.Storage.state c.load_header.new.image in
    reads-too c.args.writable (file now) c.in_ok-header.header
    (subst (λ (s : StorageState). header_of c.args.writable (file s) ≡ Ok c.in_ok-header.header) (sym c.in_ok-header.ensures.same)
    c.in_ok-header.ensures.loads)

pub returns-in_err-l1-clause-err : goal.returns-in_err-l1-clause-err
returns-in_err-l1-clause-err g c = rw (handed-on _ _ c.from_residual-in_err-l1.ensures.1) (
    let new = g.S.Storage.state c.load_l1.new.image in
    let w = c.args.writable in
    subst (λ (s : StorageState). NotLoaded (header_for w (file s)) s new c.in_err-l1.field-0.0) c.in_ok-header.ensures.same
    (c.in_err-l1.ensures.err w (subst (λ (s : StorageState). header_of w (file s) ≡ Ok c.in_ok-header.header)
    (sym c.in_ok-header.ensures.same) c.in_ok-header.ensures.loads)))
