-- The formats of the layers in a chain of image files.
use Rattle.std.proofs.Common.{◌≡◌, ℕ, List, refl, sym}
use Rattle.std.specs.Prelude.{Bool, None, Ok, false, map}
use Rattle.std.specs.Borrow.{RattleType}
use Rattle.imago_storage.specs.State.{StorageState}
use Rattle.imago_storage.specs.Steps.{Call}
use Rattle.imago_storage.specs.declared.storage.Storage.{Ghosts}
use Rattle.imago_access.specs.declared.format.Format.TheVariants as format
use Rattle.imago_access.specs.Building.{IsOpened}
use Rattle.imago_access.specs.Files.{UnchangedButMoreFaults, keep_all}
use Rattle.imago_access.specs.Layer.{IsFree, loose}
use Rattle.imago_access.specs.Refusals.{unusable_fault}
use Rattle.imago_formats.specs.Descriptor.{descriptor_of}
use Rattle.imago_formats.specs.DescriptorView.{kept_extents}
use Rattle.imago_formats.specs.VmdkLaws.{as_stated, said_still, written}
use Rattle.imago_formats.specs.declared.raw.Raw.{Raw}
use Rattle.imago_formats.specs.declared.vmdk.driver.Vmdk.{Vmdk}
use Rattle.imago_formats.specs.contracts.raw.RawDriverModel.TheImpl as raw_seen
use Rattle.imago_formats.specs.contracts.vmdk.driver.VmdkDriverModel.TheImpl as vmdk_seen
use Rattle.qcow2_types.specs.Bytes.{bytes_of}
use Rattle.qcow2_types.specs.Consistency.{Consistent}
use Rattle.qcow2_image.specs.HeldHomes.{free_loose}
use Rattle.qcow2_image.specs.Unspent.{holding_in}
use Rattle.qcow2_image.specs.declared.qcow2.Qcow2.{Qcow2}
use Rattle.qcow2_image.specs.contracts.qcow2.Qcow2DriverModel.TheImpl as qcow2_seen
use Rattle.qimg_chain.specs.Chains.{IsSoundAs}
use Rattle.qimg_chain.specs.ImageDrivers.{began_as}
use Rattle.qimg_chain.specs.contracts.chain.image_driver.ImageDriverDriverModel.TheImpl as image_seen
use Rattle.qimg_chain.specs.declared.chain.image_driver.ImageDriver.{ImageDriver}
use Rattle.qimg_chain.specs.declared.chain.image_driver.ImageDriver.TheVariants as variant
use Rattle.qimg_chain.proofs.SeenThrough.{IsKind}

-- A call that began in a layer of one format began in the same format of `ImageDriver`.
module _ {S : Type 0} {st : Ghosts S} (r : Raw S → Call → Raw S → Type 0) (v : Vmdk S → Call → Vmdk S → Type 0) (q : Qcow2 S st → Call → Qcow2 S st → Type 0) where
  raw_alike : (e : ImageDriver S st) (call : Call) (d : Raw S) → began_as r v q e call (variant.Raw d) → (from : Raw S) × (e ≡ variant.Raw from)
  raw_alike (variant.Raw from) call d now = (from, refl)
  raw_alike (variant.Vmdk from) call d now = absurd now
  raw_alike (variant.Qcow2 from) call d now = absurd now

  vmdk_alike : (e : ImageDriver S st) (call : Call) (d : Vmdk S) → began_as r v q e call (variant.Vmdk d) → (from : Vmdk S) × (e ≡ variant.Vmdk from)
  vmdk_alike (variant.Raw from) call d now = absurd now
  vmdk_alike (variant.Vmdk from) call d now = (from, refl)
  vmdk_alike (variant.Qcow2 from) call d now = absurd now

  qcow2_alike : (e : ImageDriver S st) (call : Call) (d : Qcow2 S st) → began_as r v q e call (variant.Qcow2 d) → (from : Qcow2 S st) × (e ≡ variant.Qcow2 from)
  qcow2_alike (variant.Raw from) call d now = absurd now
  qcow2_alike (variant.Vmdk from) call d now = absurd now
  qcow2_alike (variant.Qcow2 from) call d now = (from, refl)

module _ (R : RattleType) (st : Ghosts R.Denot) (sd : mir.Syntax.Dict) (dd : mir.Syntax.Dict) where
  pub raw_kind : IsKind {E = ImageDriver R.Denot st} (λ (d : Raw R.Denot). variant.Raw d) (image_seen.ghosts R st sd dd) (raw_seen.ghosts R st sd dd)
  raw_kind = record { sound = λ d file s. s; sound_for = λ d file s. s; alike = raw_alike _ _ _ }

  pub vmdk_kind : IsKind {E = ImageDriver R.Denot st} (λ (d : Vmdk R.Denot). variant.Vmdk d) (image_seen.ghosts R st sd dd) (vmdk_seen.ghosts R st sd dd)
  vmdk_kind = record { sound = λ d file s. s; sound_for = λ d file s. s; alike = vmdk_alike _ _ _ }

  pub qcow2_kind : IsKind {E = ImageDriver R.Denot st} (λ (d : Qcow2 R.Denot st). variant.Qcow2 d) (image_seen.ghosts R st sd dd) (qcow2_seen.ghosts R st sd dd)
  qcow2_kind = record { sound = λ d file s. s; sound_for = λ d file s. s; alike = qcow2_alike _ _ _ }

  -- No byte is held if no mapping is prepared.
  pub none_held : (d : ImageDriver R.Denot st) → IsFree ((image_seen.ghosts R st sd dd).layer d) → (p : ℕ) → ((image_seen.ghosts R st sd dd).layer d).held p ≡ loose
  none_held (variant.Raw d) free p = refl
  none_held (variant.Vmdk d) free p = refl
  none_held (variant.Qcow2 d) free p =
      free_loose d.tables.file.header.fields (bytes_of (st.state d.tables.file.image).bytes) (holding_in st d.unspent) p free

  -- The layer keeps writes if its storages do. Its format decides which files are consistent.
  pub keeps_so : (d : ImageDriver R.Denot st) → ((image_seen.ghosts R st sd dd).layer d).fixed.keeps
      ≡ keep_all ((image_seen.ghosts R st sd dd).image d) ((image_seen.ghosts R st sd dd).extras d)
  keeps_so (variant.Raw d) = refl
  keeps_so (variant.Vmdk d) = refl
  keeps_so (variant.Qcow2 d) = refl

  pub sound_so : (d : ImageDriver R.Denot st) (f : List ℕ) → IsSoundAs ((image_seen.ghosts R st sd dd).layer d).fixed.format f
      → (image_seen.ghosts R st sd dd).sound ((image_seen.ghosts R st sd dd).layer d).fixed.kind f
  sound_so (variant.Raw d) f sound = sound
  sound_so (variant.Vmdk d) f sound = sound
  sound_so (variant.Qcow2 d) f sound = sound

  pub consistent_so : (d : ImageDriver R.Denot st) (f : List ℕ) → ((image_seen.ghosts R st sd dd).layer d).fixed.format ≡ format.Qcow2
      → (image_seen.ghosts R st sd dd).sound ((image_seen.ghosts R st sd dd).layer d).fixed.kind f → Consistent (bytes_of f)
  consistent_so (variant.Raw d) f is sound = absurd (cc is)
  consistent_so (variant.Vmdk d) f is sound = absurd (cc is)
  consistent_so (variant.Qcow2 d) f is sound = sound

  -- A VMDK image that was just opened.
  pub vmdk_opened : (writable : Bool) (before : StorageState) (d : Vmdk R.Denot) → writable ≡ false → UnchangedButMoreFaults before (st.state d.image) → descriptor_of before.bytes ≡ Ok (kept_extents d.disk.extents.items)
      → unusable_fault ((vmdk_seen.ghosts R st sd dd).layer d) ≡ None → (vmdk_seen.ghosts R st sd dd).coherent d → IsOpened (image_seen.ghosts R st sd dd) format.Vmdk writable 0 before (variant.Vmdk d)
  vmdk_opened writable before d closed kept means usable coherent =
      let said = said_still before (st.state d.image) d.disk.extents.items kept means in
      let files = map st.state d.files.items in
      record {
        format_is = refl;
        writable_is = sym closed;
        number_is = refl;
        size_is = as_stated d.disk.extents.items (st.state d.image) files said;
        meant = written d.disk.extents.items (st.state d.image) files said;
        counted = λ c. refl;
        unchanged_but_faults = kept;
        free = refl;
        usable = usable;
        coherent = coherent;
        has_no_dirty_data = tt;
        stays_stable = tt;
        well_formed = λ keeps sound. (keeps, coherent, said);
      }
