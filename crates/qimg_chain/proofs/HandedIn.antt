-- After a flush the files that were supplied at opening mean the disk of the chain. The top's file has its current bytes.
use Rattle.std.proofs.Common.{◌≡◌, ◌∙◌, ◌∷◌, ◌<◌, ◌≤◌, ◌+◌, [], ℕ, zero, suc, List, ap, arith, length, refl, sym, subst}
use Rattle.std.specs.Prelude.{◌≢◌, Bool, Result, cond, false, ltb, map, slice_index}
use Rattle.std.specs.Borrow.{RattleType}
use Rattle.std.specs.declared.string.String.{String}
use Rattle.std.specs.declared.alloc.Global.{Global}
use Rattle.imago_storage.specs.Disk.{Disk, byte}
use Rattle.imago_storage.specs.State.{StorageState}
use Rattle.imago_storage.specs.declared.fault.Fault.{Fault}
use Rattle.imago_storage.specs.declared.storage.Storage.{Ghosts}
use Rattle.imago_access.specs.Building.{IsOpened}
use Rattle.imago_access.specs.Chain.{at}
use Rattle.imago_access.specs.Files.{byte_in}
use Rattle.imago_access.specs.Layer.{Fixed, Meaning, through, unmapped}
use Rattle.imago_access.specs.Running.{chain_disk}
use Rattle.imago_access.specs.declared.format.Format.{Format}
use Rattle.imago_access.specs.declared.format.Format.TheVariants as format
use Rattle.imago_formats.specs.Descriptor.{descriptor_of}
use Rattle.imago_formats.specs.VmdkLayer.{file_names, meaning_of}
use Rattle.imago_formats.specs.declared.vmdk.descriptor.Extent.{Extent}
use Rattle.qcow2_image.specs.ImageLayer.{qcow2_meaning}
use Rattle.qcow2_types.specs.Bytes.{bytes_of}
use Rattle.qcow2_types.specs.Header.{header_of}
use Rattle.qimg_core.specs.declared.plain.ChainFile.{ChainFile}
use Rattle.qimg_chain.specs.Chains.{AreInPlace, AreLayers, OpenMode, mode_below, number_for}
use Rattle.qimg_chain.specs.Extras.{TakesEach}
use Rattle.qimg_chain.specs.FileMeanings.{FileBytes, ShowsFile, byte_at, driver_bytes, extra_bytes, file_bytes}
use Rattle.qimg_chain.specs.FileMeanings.{file_meaning, files_bytes, meaning_as, names_said, size_of, taken_for, value_of}
use Rattle.qimg_chain.specs.FilesByName.{qcow2_through, same_extents, same_size, sized}
use Rattle.qimg_chain.specs.FlushedFiles.{HandedMeanToo, ShowDisk, files_now, with_image}
use Rattle.qimg_chain.specs.FurtherFiles.{HasFurther}
use Rattle.qimg_chain.specs.contracts.chain.image_driver.ImageDriverDriverModel.TheImpl as image_seen
use Rattle.qimg_chain.specs.declared.chain.image_driver.ImageDriver.{ImageDriver}
use Rattle.qimg_chain.specs.declared.chain.image_driver.ImageDriver.TheVariants as variant
use Rattle.qimg_chain.proofs.FilesShown.{over}
use Rattle.qimg_chain.proofs.FilesTaken.{left_is, taken_first}
use Rattle.qimg_chain.proofs.FlushedFiles.{below-shown, shows-below}

-- Files with the same disk below the first one.
below-as : (states : Bool) (disk : Disk) (file : FileBytes) (files others : List FileBytes)
    → ((p : ℕ) → value_of files p ≡ value_of others p) → ShowDisk states disk (file ∷ files) → ShowDisk states disk (file ∷ others)
below-as states disk file files others same shows =
    let all : (p : ℕ) → value_of (file ∷ files) p ≡ value_of (file ∷ others) p = λ p. rw (same p) refl in
    record {
      size = shows.size;
      value = λ p inside. shows.value p inside ∙ all p;
      exactly = λ exact. let is = shows.exactly exact in record { size = is.size; value = λ p. is.value p ∙ all p };
    }

-- Files whose first ones mean the same.
first-as : (states : Bool) (disk : Disk) (file other : FileBytes) (files : List FileBytes) → file_meaning file ≡ file_meaning other
    → ShowDisk states disk (file ∷ files) → ShowDisk states disk (other ∷ files)
first-as states disk file other files same shows =
    let size : size_of (file ∷ files) ≡ size_of (other ∷ files) = ap (λ (m : Meaning). m.size) same in
    let all : (p : ℕ) → value_of (file ∷ files) p ≡ value_of (other ∷ files) p =
    λ p. ap (λ (m : Meaning). cond (ltb p m.size) (through (m.cell p) (value_of files p)) (byte 0)) same in
    record {
      size = subst (λ n. disk.size ≤ n) size shows.size;
      value = λ p inside. shows.value p inside ∙ all p;
      exactly = λ exact. let is = shows.exactly exact in record { size = is.size ∙ size; value = λ p. is.value p ∙ all p };
    }

-- The meaning of an image other than VMDK doesn't depend on further files.
pub by-itself : (f : Format) → f ≢ format.Vmdk → (bytes : List ℕ) (extras others : List (List ℕ × List ℕ))
    → meaning_as f bytes extras ≡ meaning_as f bytes others
by-itself format.Raw differs bytes extras others = refl
by-itself format.Qcow2 differs bytes extras others = refl
by-itself format.Vmdk differs bytes extras others = absurd (differs refl)

-- The files that are taken for names have the bytes of those that are found by the names.
each-taken : {S : Type 0} (state : S → StorageState) (names : List (List ℕ)) (handed : List (String Global × S)) (files : List S)
    → TakesEach handed names files → (i q : ℕ) → i < length names
    → byte_in (map state files) i q ≡ byte_at (taken_for names (map (extra_bytes state) handed)) i q
each-taken state [] handed files takes i q inside = absurd (omega (arith, inside))
each-taken state (name ∷ names) handed [] takes i q inside = absurd takes
each-taken state (name ∷ names) handed (file ∷ files) takes zero q inside =
    ap (λ bytes. slice_index bytes q) (sym (taken_first state handed takes.0 name file takes.1))
each-taken state (name ∷ names) handed (file ∷ files) takes (suc i) q inside =
    each-taken state names takes.0 files takes.2 i q (omega (arith, inside))
    ∙ ap (λ left. byte_at (taken_for names left) i q) (sym (left_is state handed takes.0 name file takes.1))

-- Like `each-taken`, for further files by number.
numbered : {S : Type 0} (state : S → StorageState) (image : StorageState) (bytes : List ℕ) (names : List (List ℕ))
    (handed : List (String Global × S)) (files : List S) → TakesEach handed names files → (j q : ℕ) → 1 ≤ j → j < 1 + length names
    → byte_in (image ∷ map state files) j q ≡ byte_at (bytes ∷ taken_for names (map (extra_bytes state) handed)) j q
numbered state image bytes names handed files takes zero q low high = absurd (omega (arith, low))
numbered state image bytes names handed files takes (suc i) q low high = each-taken state names handed files takes i q (omega (arith, high))

module _ (R : RattleType) (st : Ghosts R.Denot) (sd : mir.Syntax.Dict) (dd : mir.Syntax.Dict) where
  -- A supplied file, with further files.
  abbrev handed-as : Format → StorageState → List (String Global × R.Denot) → FileBytes
  handed-as f before handed = record { format = f; bytes = before.bytes; extras = map (extra_bytes st.state) handed }

  -- An image that was just opened shows what its supplied files mean.
  image-shown : (f : Format) (writable : Bool) (number : ℕ) (before : StorageState) (handed : List (String Global × R.Denot))
      (d : ImageDriver R.Denot st) → IsOpened (image_seen.ghosts R st sd dd) f writable number before d
      → HasFurther st.state f before handed ((image_seen.ghosts R st sd dd).extras d)
      → ShowsFile ((image_seen.ghosts R st sd dd).layer d) (handed-as f before handed)
  image-shown format.Raw writable number before handed (variant.Raw d) opened has = record {
    size = opened.size_is ∙ ap (λ (bytes : List ℕ). length bytes) opened.unchanged_but_faults.0.bytes;
    cell = λ p below inside backed. ap (λ (bytes : List ℕ). byte (slice_index bytes p)) opened.unchanged_but_faults.0.bytes;
  }
  image-shown format.Qcow2 writable number before handed (variant.Qcow2 d) opened has =
      let bytes = (st.state d.tables.file.image).bytes in record {
        size = opened.size_is ∙ sized d.mode.backing (bytes_of bytes) (header_of false (bytes_of bytes))
            ∙ ap (λ b. (qcow2_meaning unmapped b).size) opened.unchanged_but_faults.0.bytes;
        cell = λ p below inside backed. ap (λ c. through c below) (sym (opened.meant.cell p inside))
            ∙ qcow2_through d.mode.backing bytes p below backed
            ∙ ap (λ b. through ((qcow2_meaning unmapped b).cell p) below) opened.unchanged_but_faults.0.bytes;
      }
  image-shown format.Vmdk writable number before handed (variant.Vmdk d) opened has =
      let image = st.state d.image in
      let in_files = byte_in (image ∷ map st.state d.files.items) in
      let found = byte_at (before.bytes ∷ taken_for (names_said (descriptor_of before.bytes)) (map (extra_bytes st.state) handed)) in
      let files = has.2.0 in
      let agree = subst (λ (ss : List StorageState). (j q : ℕ) → 1 ≤ j → j < 1 + length (file_names has.0)
      → byte_in (image ∷ ss) j q ≡ byte_at (before.bytes ∷ taken_for (file_names has.0) (map (extra_bytes st.state) handed)) j q)
      (sym has.2.2) (numbered st.state image before.bytes (file_names has.0) handed files has.2.1.taken) in
      let agrees = subst (λ (r : Result (List (Extent (List ℕ))) Fault). (j q : ℕ) → 1 ≤ j → j < 1 + length (names_said r)
      → in_files j q ≡ byte_at (before.bytes ∷ taken_for (names_said r) (map (extra_bytes st.state) handed)) j q) (sym has.1) agree in
      record {
        size = opened.size_is ∙ ap (λ b. (meaning_of (descriptor_of b) in_files).size) opened.unchanged_but_faults.0.bytes
            ∙ same_size in_files found (descriptor_of before.bytes);
        cell = λ p below inside backed. ap (λ c. through c below) (sym (opened.meant.cell p inside)
            ∙ ap (λ b. (meaning_of (descriptor_of b) in_files).cell p) opened.unchanged_but_faults.0.bytes
            ∙ same_extents in_files found (descriptor_of before.bytes) p agrees);
      }
  image-shown format.Raw writable number before handed (variant.Qcow2 d) opened has = absurd (cc opened.format_is)
  image-shown format.Raw writable number before handed (variant.Vmdk d) opened has = absurd (cc opened.format_is)
  image-shown format.Qcow2 writable number before handed (variant.Raw d) opened has = absurd (cc opened.format_is)
  image-shown format.Qcow2 writable number before handed (variant.Vmdk d) opened has = absurd (cc opened.format_is)
  image-shown format.Vmdk writable number before handed (variant.Raw d) opened has = absurd (cc opened.format_is)
  image-shown format.Vmdk writable number before handed (variant.Qcow2 d) opened has = absurd (cc opened.format_is)

  -- Like `image-shown`, for all images of a chain.
  pub images-shown : (m : OpenMode) (files : List (ChainFile R.Denot)) (ds : List (ImageDriver R.Denot st))
      → AreLayers (image_seen.ghosts R st sd dd) st.state m files ds
      → AreInPlace (map (image_seen.ghosts R st sd dd).layer ds)
      → (p : ℕ) → at (map (image_seen.ghosts R st sd dd).layer ds) p ≡ value_of (files_bytes st.state files) p
  images-shown m [] [] are places p = refl
  images-shown m [] (d ∷ ds) are places p = absurd are
  images-shown m (file ∷ files) [] are places p = absurd are
  images-shown m (file ∷ files) (d ∷ ds) are places p =
      let layer = (image_seen.ghosts R st sd dd).layer in
      let shows = image-shown file.format m.writable (number_for file.format m.number) (st.state file.image) file.extras.items d
      are.0.opened are.0.layer.has in
      (over (layer d) (map layer ds) (file_bytes st.state file) (files_bytes st.state files) shows
      (images-shown (mode_below m) files ds are.1 places.1) (shows-below (map layer ds) (layer d) (layer d) places.0 refl)).value p

  -- If a chain's files mean its disk, the supplied files do.
  pub handed-mean : (names : ImageDriver R.Denot st → ℕ → List ℕ) → HandedMeanToo (image_seen.ghosts R st sd dd) names st.state
  handed-mean names m file below opened now is none means =
      let d = image_seen.ghosts R st sd dd in
      let exact = (d.layer now.0).fixed.exact in
      let disk = chain_disk d.layer now in
      let top = driver_bytes d names now.0 in
      let handed = with_image (file_bytes st.state file) (d.image now.0).bytes in
      let drivers = opened.drivers in
      let same : (p : ℕ) → value_of (map (driver_bytes d names) drivers.1) p ≡ value_of (files_bytes st.state below) p =
      λ p. sym (below-shown d names st.state m (file ∷ below) drivers is p) ∙ images-shown (mode_below m) below drivers.1 is.layers.1
      is.places.1 p in
      let mean : ShowDisk exact disk (files_now d names false drivers now) =
      subst (λ (b : Bool). ShowDisk exact disk (files_now d names b drivers now)) none (means.means (λ is. absurd (cc (sym is ∙ none)))) in
      let over_handed = below-as exact disk top (map (driver_bytes d names) drivers.1) (files_bytes st.state below) same mean in
      let format_is : top.format ≡ file.format = ap (λ (x : Fixed). x.format) means.fixed ∙ is.layers.0.opened.format_is in record {
        named = over_handed;
        alone = λ differs. first-as exact disk top handed (files_bytes st.state below)
            (ap (λ f. meaning_as f top.bytes top.extras) format_is ∙ by-itself file.format differs top.bytes top.extras handed.extras)
            over_handed;
      }
