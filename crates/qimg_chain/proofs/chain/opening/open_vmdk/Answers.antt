use Rattle.std.proofs.Common.{◌≡◌, subst, sym}
use Rattle.std.specs.Prelude.{Ok, map}
use Rattle.imago_storage.specs.State.{StorageState}
use Rattle.imago_access.specs.declared.format.Format.TheVariants.{Vmdk}
use Rattle.imago_storage.proofs.Parts.{passed}
use Rattle.imago_formats.specs.Descriptor.{descriptor_of}
use Rattle.imago_formats.specs.DescriptorView.{kept_extents}
use Rattle.imago_formats.specs.RawOpening.{kept_same}
use Rattle.qimg_chain.specs.FilesByName.{vmdk_named}
use Rattle.qimg_chain.specs.FurtherFiles.{HasFurther}
use Rattle.qimg_chain.proofs.FurtherTaken.{has_files}
use Rattle.qimg_chain.proofs.FilesShown.{vmdk_shown}
use Rattle.qimg_chain.proofs.ImageKinds.{vmdk_opened}
use Rattle.qimg_chain.proofs.Refusing.{vmdk_refused, vmdk_said}
use Rattle.qimg_chain.proofs.chain.opening.open_vmdk.Goals as goal

pub returns-clause-opened : goal.returns-clause-opened
returns-clause-opened g c =
    let ok = rw (c.write-builder.ensures.made, c.builder.ensures) at c.in_ok-vmdk.ensures.ok in
    let before = g.S.Storage.state c.args.image in
    vmdk_opened g.row.S g.S.Storage g.S.Storage-dict g.S.Destruct-dict c.args.writable before c.in_ok-vmdk.vmdk ok.0
    (kept_same before (g.S.Storage.state c.in_ok-vmdk.vmdk.image) ok.1) ok.2 ok.3 ok.4

pub returns-clause-layer : goal.returns-clause-layer
returns-clause-layer g c =
    let ok = rw (c.write-builder.ensures.made, c.builder.ensures) at c.in_ok-vmdk.ensures.ok in
    let state = g.S.Storage.state in
    let d = c.in_ok-vmdk.vmdk in
    let extents = d.disk.extents.items in
    let means : descriptor_of (state d.image).bytes ≡ Ok (kept_extents extents) =
    subst (λ (s : StorageState). descriptor_of s.bytes ≡ Ok (kept_extents extents)) (sym ok.1) ok.2 in record {
      says = vmdk_said c.args.writable (state c.args.image).bytes (kept_extents extents) ok.0 ok.2;
      has = subst (λ (s : StorageState). HasFurther state Vmdk s c.args.extras.now.files.items (map state d.files.items)) ok.1
          (has_files state (state d.image) c.args.extras.now c.open.new.gate extents d.files.items means c.in_ok-vmdk.ensures.files ok.3 ok.4);
    }

pub returns-in_err-vmdk-clause-err : goal.returns-in_err-vmdk-clause-err
returns-in_err-vmdk-clause-err g c =
    let cause = rw (c.write-builder.ensures.made, c.builder.ensures) at c.in_err-vmdk.ensures.cause in
    passed c.from_residual.result _ c.in_err-vmdk.field-0.0 c.from_residual.ensures.1
    (vmdk_refused g.S.Storage.state c.args.writable (g.S.Storage.state c.args.image) c.args.extras.now c.open.new.gate c.in_err-vmdk.field-0.0 cause)

pub returns-clause-means : goal.returns-clause-means
returns-clause-means g c =
    let ok = rw (c.write-builder.ensures.made, c.builder.ensures) at c.in_ok-vmdk.ensures.ok in
    let state = g.S.Storage.state in
    let vmdk = c.in_ok-vmdk.vmdk in
    vmdk_shown state vmdk.disk.extents.items (state c.args.image) vmdk.image c.args.extras.now c.open.new.gate vmdk.files.items ok.1 ok.2 ok.3 c.in_ok-vmdk.ensures.files

pub returns-clause-named : goal.returns-clause-named
returns-clause-named g c =
    let ok = rw (c.write-builder.ensures.made, c.builder.ensures) at c.in_ok-vmdk.ensures.ok in
    let state = g.S.Storage.state in
    let d = c.in_ok-vmdk.vmdk in
    let extents = d.disk.extents.items in
    vmdk_named extents (state d.image) (map state d.files.items)
    (subst (λ (s : StorageState). descriptor_of s.bytes ≡ Ok (kept_extents extents)) (sym ok.1) ok.2)
