use Rattle.std.proofs.Common.{◌≡◌, sym, subst, ◌∙◌, true, false, Ok}
use Rattle.imago_storage.specs.State.{StorageState}
use Rattle.qcow2_types.specs.Bytes.{bytes_of}
use Rattle.qcow2_types.specs.Counts.{refcount_table_sound}
use Rattle.qcow2_types.specs.Header.{Header, header_of, has_external_data}
use Rattle.qcow2_metadata.specs.Loading.{file}
use Rattle.qcow2_alloc.specs.Opening.{IsL1Of}
use Rattle.qcow2_image.specs.Opening.{IsSpaceOpened, WhyNoSpace, header_for}
use Rattle.qcow2_image.proofs.StateAfterOpening.{just-opened}
use Rattle.qcow2_image.proofs.OpenRefusals.{none-refused, not-opened, reads-too, space-refused}
use Rattle.qcow2_alloc.proofs.Faults.{handed-on}
use Rattle.qcow2_image.proofs.opening.open_tables.Goals as goal

pub returns-in_err-header-clause-err : goal.returns-in_err-header-clause-err
returns-in_err-header-clause-err g c = rw (handed-on _ _ c.from_residual.ensures.1) (
    not-opened c.args.writable (file (g.S.Storage.state c.args.image)) g.S.Storage.state c.args.image c.load_metadata.new.image
    c.in_err-header.field-0.0 c.in_err-header.ensures.err)

pub load_free_space-requires : goal.load_free_space-requires
load_free_space-requires g c =
    let loaded = c.in_ok-header.ensures in record {
      loads = subst (λ (s : StorageState). header_of false (bytes_of s.bytes) ≡ Ok c.in_ok-header.header) (sym loaded.same)
          (reads-too c.args.writable (file (g.S.Storage.state c.args.image)) c.in_ok-header.header loaded.loads);
    }

pub returns-in_err-space-clause-err : goal.returns-in_err-space-clause-err
returns-in_err-space-clause-err g c = rw (handed-on _ _ c.from_residual-in_err-space.ensures.1) (
    let w = c.args.writable in
    let before = g.S.Storage.state c.args.image in
    let after = g.S.Storage.state c.load_free_space.new.file.image in
    let loaded = c.in_ok-header.ensures in
    let fault = c.in_err-space.field-0.0 in
    not-opened w (file before) g.S.Storage.state c.args.image c.load_free_space.new.file.image fault
    (space-refused w (file before) c.in_ok-header.header loaded.loads loaded.inside loaded.l1.sound before after fault
    (subst (λ (s : StorageState). WhyNoSpace (file s) c.in_ok-header.header.fields w s.faults after.faults fault) loaded.same
    c.in_err-space.ensures.err)))

pub returns-clause-ok : goal.returns-clause-ok
returns-clause-ok g c =
    let w = c.args.writable in
    let before = g.S.Storage.state c.args.image in
    let loaded = c.in_ok-header.ensures in
    let spaced = c.in_ok-space.ensures in
    let header = c.load_free_space.ensures.header in
    let H = c.load_free_space.new.file.header in
    just-opened g.S.Storage before w c.args.entries.l2_tables c.args.entries.refcount_blocks _
    (spaced.same ∙ loaded.same)
    (subst (λ (K : Header). header_of w (file before) ≡ Ok K) (sym header) loaded.loads)
    (subst (λ (K : Header). has_external_data K.fields ≡ false) (sym header) loaded.inside)
    (subst (λ (K : Header). IsL1Of (file before) K.fields c.in_ok-header.l1) (sym header) loaded.l1)
    (subst (λ (K : Header). header_for w (file before) ≡ Ok K) (sym header)
    (none-refused w (file before) c.in_ok-header.header loaded.loads loaded.inside loaded.l1.sound
    (subst (λ (s : StorageState). w ≡ true → refcount_table_sound (file s) c.in_ok-header.header.fields ≡ true) loaded.same spaced.sound)))
    c.in_ok-caches.ensures.empty.0 c.in_ok-caches.ensures.empty.1
    (subst (λ (K : Header). IsSpaceOpened before K.fields w c.in_ok-space.space) (sym header)
    (subst (λ (s : StorageState). IsSpaceOpened s c.in_ok-header.header.fields w c.in_ok-space.space) loaded.same spaced.ok))
    c.in_ok-caches.ensures.room.0 c.in_ok-caches.ensures.room.1
