-- A layer that was just opened shows what its file means.
use Rattle.std.proofs.Common.{◌≡◌, ◌⊎◌, ◌∙◌, ◌∷◌, ◌<◌, ◌≤◌, ◌+◌, [], ℕ, zero, suc, List, ap, arith, inl, inr, length, refl, subst, sym}
use Rattle.std.specs.Prelude.{Bool, None, Ok, Result, Some, cond, false, ltb, map, slice_index, true}
use Rattle.std.specs.Borrow.{RattleType}
use Rattle.std.specs.declared.string.String.{String}
use Rattle.std.specs.declared.alloc.Global.{Global}
use Rattle.std.proofs.lemmas.Bool.{cases_lt, lt-ltb, le-ltb}
use Rattle.std.proofs.lemmas.List.{length-map}
use Rattle.imago_storage.specs.Disk.{byte}
use Rattle.imago_storage.specs.State.{StorageState}
use Rattle.imago_storage.specs.declared.fault.Fault.{Fault}
use Rattle.imago_storage.specs.declared.fault.Fault.TheVariants.{MissingData}
use Rattle.imago_storage.specs.declared.storage.Storage.{Ghosts}
use Rattle.imago_access.specs.Building.{IsOpened}
use Rattle.imago_access.specs.Chain.{at, disk_of}
use Rattle.imago_access.specs.Files.{byte_in}
use Rattle.imago_access.specs.Layer.{Layer, through, unmapped}
use Rattle.imago_access.specs.Refusals.{unusable_fault}
use Rattle.imago_access.specs.declared.format.Format.TheVariants as format
use Rattle.imago_formats.specs.Descriptor.{descriptor_of}
use Rattle.imago_formats.specs.DescriptorView.{kept_extents, kept_names}
use Rattle.imago_formats.specs.VmdkLayer.{file_names, files_asked, meaning_of, vmdk_layer}
use Rattle.imago_formats.specs.VmdkOpening.{OpensNext}
use Rattle.imago_formats.specs.VmdkLaws.{as_stated, written}
use Rattle.imago_formats.specs.contracts.raw.RawDriverModel.TheImpl as raw_seen
use Rattle.imago_formats.specs.declared.raw.Raw.{Raw}
use Rattle.imago_formats.specs.declared.vmdk.descriptor.Extent.{Extent}
use Rattle.qcow2_image.specs.ImageLayer.{qcow2_meaning}
use Rattle.qcow2_image.specs.contracts.qcow2.Qcow2DriverModel.TheImpl as qcow2_seen
use Rattle.qcow2_image.specs.declared.qcow2.Qcow2.{Qcow2}
use Rattle.qcow2_types.specs.Bytes.{bytes_of}
use Rattle.qcow2_types.specs.Header.{header_of}
use Rattle.qimg_chain.specs.FileMeanings.{FileBytes, IsDiskOf, ShowsFile, byte_at, extra_bytes, names_said, taken_for, value_of}
use Rattle.qimg_chain.specs.FilesByName.{names_kept, qcow2_through, same_extents, same_size, sized}
use Rattle.qimg_chain.specs.declared.chain.extras.Extras.{Extras}
use Rattle.qimg_chain.proofs.FurtherTaken.{Answers}
use Rattle.qimg_chain.proofs.FilesTaken.{as_many, opened_bytes}

-- ---- One layer over others.

-- A layer that shows its file, over layers that show their files, shows the disk of all these files.
pub over : (layer : Layer) (below : List Layer) (file : FileBytes) (files : List FileBytes) → ShowsFile layer file → ((p : ℕ) → at below p ≡ value_of files p)
    → ((p : ℕ) → (layer.fixed.blank ≡ unmapped) ⊎ (at below p ≡ byte 0)) → IsDiskOf (disk_of below layer) (file ∷ files)
over layer below file files shows same backed = record {
  size = shows.size;
  value = λ p. elim (cases_lt p layer.size) [
    | inl inside ↦
        rw (sym (same p), sym shows.size, lt-ltb p layer.size inside) (shows.cell p (at below p) inside (backed p))
    | inr past ↦ rw (sym shows.size, le-ltb p layer.size past) refl
  ];
}

-- ---- VMDK images.

-- An image without missing files has at least as many files as it refers to.
lacks_none : (t : Bool) → cond t (Some MissingData) None ≡ None → t ≡ false
lacks_none true is = absurd (cc is)
lacks_none false is = refl

enough : (n asked : ℕ) → ltb n asked ≡ false → asked ≤ n
enough n asked is = elim (cases_lt n asked) [ inl less ↦ absurd (cc (sym (lt-ltb n asked less) ∙ is)) | inr le ↦ le ]

-- The files that were opened for the names of the extents have the bytes of those that are taken for these names.
files_alike : {S : Type 0} (state : S → StorageState) (xs : List (Extent (String Global))) (image : StorageState) (bytes : List ℕ) (handed left : Extras S) (files : List S)
    → files_asked xs ≤ length files → OpensNext Answers (kept_names xs) ([], handed) (files, left)
    → (j q : ℕ) → 1 ≤ j → j < 1 + length (file_names (kept_extents xs))
    → byte_in (image ∷ map state files) j q ≡ byte_at (bytes ∷ taken_for (file_names (kept_extents xs)) (map (extra_bytes state) handed.files.items)) j q
files_alike state xs image bytes handed left files many opens zero q low high = absurd (omega (arith, low))
files_alike {S = S} state xs image bytes handed left files many opens (suc i) q low high =
    let long : length (file_names (kept_extents xs)) ≡ length (kept_names xs) = ap (λ names. length names) (names_kept xs) in
    let asked : length (kept_names xs) ≡ files_asked xs = as_many xs in
    let inside : i < length (kept_names xs) = omega (arith, high, long) in
    let short : i < length opens.opened = rw (sym opens.appended) (omega (arith, inside, asked, many)) in
    ap (λ (fs : List S). byte_in (map state fs) i q) opens.appended
    ∙ opened_bytes state (kept_names xs) (kept_names xs) 0 handed left opens.opened refl (omega arith) opens.given i q inside short
    ∙ ap (λ names. byte_at (taken_for names (map (extra_bytes state) handed.files.items)) i q) (sym (names_kept xs))

-- ---- Layers just opened.

pub vmdk_shown : {S : Type 0} (state : S → StorageState) (xs : List (Extent (String Global))) (before : StorageState) (file : S) (handed left : Extras S) (files : List S)
    → state file ≡ before → descriptor_of before.bytes ≡ Ok (kept_extents xs) → unusable_fault (vmdk_layer xs (state file) (map state files)) ≡ None
    → OpensNext Answers (kept_names xs) ([], handed) (files, left)
    → ShowsFile (vmdk_layer xs (state file) (map state files)) (record { format = format.Vmdk; bytes = before.bytes; extras = map (extra_bytes state) handed.files.items })
vmdk_shown state xs before file handed left files same said usable opens =
    let image = state file in
    let ss = map state files in
    let in_files = byte_in (image ∷ ss) in
    let taken = map (extra_bytes state) handed.files.items in
    let by_bytes = byte_at (before.bytes ∷ taken_for (names_said (descriptor_of before.bytes)) taken) in
    let bytes_are : image.bytes ≡ before.bytes = ap (λ (s : StorageState). s.bytes) same in
    let has_no_dirty_data : descriptor_of image.bytes ≡ Ok (kept_extents xs) = ap descriptor_of bytes_are ∙ said in
    let many : files_asked xs ≤ length files = omega (arith, enough (length ss) (files_asked xs) (lacks_none (ltb (length ss) (files_asked xs)) usable), length-map files state) in
    record {
      size = as_stated xs image ss has_no_dirty_data ∙ ap (λ bytes. (meaning_of (descriptor_of bytes) in_files).size) bytes_are ∙ same_size in_files by_bytes (descriptor_of before.bytes);
      cell = λ p below inside backed. ap (λ c. through c below)
          (sym ((written xs image ss has_no_dirty_data).cell p inside) ∙ ap (λ bytes. (meaning_of (descriptor_of bytes) in_files).cell p) bytes_are
          ∙ same_extents in_files by_bytes (descriptor_of before.bytes) p
          (subst (λ (r : Result (List (Extent (List ℕ))) Fault). (j q : ℕ) → 1 ≤ j → j < 1 + length (names_said r) → in_files j q ≡ byte_at (before.bytes ∷ taken_for (names_said r) taken) j q) (sym said)
          (files_alike state xs image before.bytes handed left files many opens)));
    }

module _ (R : RattleType) (st : Ghosts R.Denot) (sd : mir.Syntax.Dict) (dd : mir.Syntax.Dict) where
  pub raw_shown : (writable : Bool) (number : ℕ) (before : StorageState) (extras : List (List ℕ × List ℕ)) (d : Raw R.Denot)
      → IsOpened (raw_seen.ghosts R st sd dd) format.Raw writable number before d
      → ShowsFile ((raw_seen.ghosts R st sd dd).layer d) (record { format = format.Raw; bytes = before.bytes; extras = extras })
  raw_shown writable number before extras d opened = record {
    size = opened.size_is ∙ ap (λ (bytes : List ℕ). length bytes) opened.unchanged_but_faults.0.bytes;
    cell = λ p below inside backed. ap (λ (bytes : List ℕ). byte (slice_index bytes p)) opened.unchanged_but_faults.0.bytes;
  }

  pub qcow2_shown : (writable : Bool) (number : ℕ) (before : StorageState) (extras : List (List ℕ × List ℕ)) (d : Qcow2 R.Denot st)
      → IsOpened (qcow2_seen.ghosts R st sd dd) format.Qcow2 writable number before d
      → ShowsFile ((qcow2_seen.ghosts R st sd dd).layer d) (record { format = format.Qcow2; bytes = before.bytes; extras = extras })
  qcow2_shown writable number before extras d opened =
      let image = (qcow2_seen.ghosts R st sd dd).image d in
      record {
        size = opened.size_is ∙ sized d.mode.backing (bytes_of image.bytes) (header_of false (bytes_of image.bytes)) ∙ ap (λ bytes. (qcow2_meaning unmapped bytes).size) opened.unchanged_but_faults.0.bytes;
        cell = λ p below inside backed. ap (λ c. through c below) (sym (opened.meant.cell p inside))
            ∙ qcow2_through d.mode.backing image.bytes p below backed
            ∙ ap (λ bytes. through ((qcow2_meaning unmapped bytes).cell p) below) opened.unchanged_but_faults.0.bytes;
      }
