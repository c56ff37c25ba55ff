-- The result of a plain read of a list of files.
use Rattle.std.proofs.Common.{◌≡◌, ℕ, ◌<◌, ◌≤◌, refl, arith, ap, sym, subst, ◌∙◌, List, [], ◌∷◌, length, get_or, inl, inr}
use Rattle.std.specs.Prelude.{◌⊎◌, slice_set, Result, Ok, Err, OnOk, IfErr}
use Rattle.imago_storage.specs.State.{StorageState}
use Rattle.imago_storage.specs.Calls.{UnchangedButFaults}
use Rattle.imago_storage.specs.declared.fault.Fault.{Fault}
use Rattle.imago_storage.specs.declared.fault.Fault.TheVariants.{Memory, Storage, Unsupported, MissingBelow}
use Rattle.qcow2_metadata.specs.Loading.{file}
use Rattle.imago_access.specs.declared.format.Format.{Format}
use Rattle.imago_access.specs.declared.format.Format.TheVariants.{Raw, Qcow2, Vmdk}
use Rattle.qimg_core.specs.declared.plain.ChainFile.{ChainFile}
use Rattle.qimg_core.specs.Plain.{SeenFile, seen_files, extras_of, faults_of, FilesKept, Refuses, FileRefuses, IsPlainRead, IsFileRead, NotPlainRead, MustRefuse, IsImageRead, NotImageRead}
use Rattle.qimg_core.proofs.Calls.{kept-none}
use Rattle.qimg_core.proofs.PlainReads.Image.{image-must}

pub files-kept : (files : List SeenFile) → FilesKept files files
files-kept [] = tt
files-kept (x ∷ xs) = (refl, kept-none x.state, files-kept xs)

-- A file of a format that can't be read.
pub other-format : (format : Format) → (format ≡ Qcow2 → ⊥) → (f : ℕ → ℕ) (offset n : ℕ) (fault : Fault) → (FileRefuses format f offset n fault → fault ≡ Unsupported) × (fault ≡ Unsupported → FileRefuses format f offset n fault)
other-format Qcow2 other f offset n fault = absurd (other refl)
other-format Raw other f offset n fault = (λ e. e, λ e. e)
other-format Vmdk other f offset n fault = (λ e. e, λ e. e)

module _ {S : Type 0} (state : S → StorageState) (offset n : ℕ) where
  pub none-refuses : (files : List (ChainFile S)) → length files ≡ 0 → Refuses (seen_files state files) offset n MissingBelow
  unfolding seen_files
  none-refuses [] none = refl
  none-refuses (x ∷ xs) none = absurd (omega arith)

  pub none-must : (files : List (ChainFile S)) → length files ≡ 0 → (fault : Fault) → Refuses (seen_files state files) offset n fault → MissingBelow ≡ fault
  unfolding seen_files
  none-must [] none fault refuses = sym refuses
  none-must (x ∷ xs) none fault refuses = absurd (omega arith)

  pub several-refuse : (files : List (ChainFile S)) → 1 < length files → Refuses (seen_files state files) offset n Unsupported
  unfolding seen_files
  several-refuse [] several = absurd (omega arith)
  several-refuse (x ∷ []) several = absurd (omega arith)
  several-refuse (x ∷ y ∷ rest) several = refl

  pub several-must : (files : List (ChainFile S)) → 1 < length files → (fault : Fault) → Refuses (seen_files state files) offset n fault → Unsupported ≡ fault
  unfolding seen_files
  several-must [] several fault refuses = absurd (omega arith)
  several-must (x ∷ []) several fault refuses = absurd (omega arith)
  several-must (x ∷ y ∷ rest) several fault refuses = sym refuses

  -- One qcow2 file.
  pub one-read : (result : Result (Unit {0}) Fault) (files : List (ChainFile S)) (d : ChainFile S) (buffer : List ℕ) → 0 < length files → length files ≤ 1 → (get_or files 0 d).format ≡ Qcow2
      → OnOk result (IsImageRead (file (state (get_or files 0 d).image)) offset buffer) → OnOk result (IsPlainRead (seen_files state files) offset buffer)
  unfolding seen_files
  one-read result [] d buffer some few format read = absurd (omega arith)
  one-read result (x ∷ []) d buffer some few format read = subst (λ k. OnOk result (IsFileRead k (file (state x.image)) offset buffer)) (sym format) read
  one-read result (x ∷ y ∷ rest) d buffer some few format read = absurd (omega arith)

  one-why : (x : ChainFile S) (image : S) (fault : Fault) → x.format ≡ Qcow2 → NotImageRead (state x.image) (state image) offset n fault → NotPlainRead (seen_files state (x ∷ [])) (seen_files state (record x { image = image } ∷ [])) offset n fault
  unfolding seen_files
  one-why x image Memory format why = ap (λ k. k ∷ []) why
  one-why x image Storage format why = inl why
  one-why x image fault format why = (subst (λ k. FileRefuses k (file (state x.image)) offset n fault) (sym format) why.0, ap (λ k. k ∷ []) why.1)

  pub one-unread : (result : Result (Unit {0}) Fault) (files : List (ChainFile S)) (d : ChainFile S) (image : S) → 0 < length files → length files ≤ 1 → (get_or files 0 d).format ≡ Qcow2
      → IfErr result (NotImageRead (state (get_or files 0 d).image) (state image) offset n) → IfErr result (NotPlainRead (seen_files state files) (seen_files state (slice_set files 0 (record (get_or files 0 d) { image = image }))) offset n)
  one-unread (Ok _) files d image some few format why = tt
  one-unread (Err fault) [] d image some few format why = absurd (omega arith)
  one-unread (Err fault) (x ∷ []) d image some few format why = one-why x image fault format why
  one-unread (Err fault) (x ∷ y ∷ rest) d image some few format why = absurd (omega arith)

  pub one-must : (result : Result (Unit {0}) Fault) (files : List (ChainFile S)) (d : ChainFile S) (image : S) (buffer : List ℕ) → 0 < length files → length files ≤ 1 → (get_or files 0 d).format ≡ Qcow2 → length buffer ≡ n
      → OnOk result (IsImageRead (file (state (get_or files 0 d).image)) offset buffer) → IfErr result (NotImageRead (state (get_or files 0 d).image) (state image) offset n) → (fault : Fault) → Refuses (seen_files state files) offset n fault → MustRefuse result fault
  unfolding seen_files
  one-must result [] d image buffer some few format long read why fault refuses = absurd (omega arith)
  one-must result (x ∷ []) d image buffer some few format long read why fault refuses =
      image-must result (state x.image) (state image) offset n buffer long read why fault (subst (λ k. FileRefuses k (file (state x.image)) offset n fault) format refuses)
  one-must result (x ∷ y ∷ rest) d image buffer some few format long read why fault refuses = absurd (omega arith)

  -- The storage of the file is unchanged.
  pub one-kept : (files : List (ChainFile S)) (d : ChainFile S) (image : S) → 0 < length files → length files ≤ 1 → UnchangedButFaults (state (get_or files 0 d).image) (state image) → FilesKept (seen_files state files) (seen_files state (slice_set files 0 (record (get_or files 0 d) { image = image })))
  unfolding seen_files
  one-kept [] d image some few kept = absurd (omega arith)
  one-kept (x ∷ []) d image some few kept = (refl, kept, tt)
  one-kept (x ∷ y ∷ rest) d image some few kept = absurd (omega arith)

  pub one-extras : (files : List (ChainFile S)) (d : ChainFile S) (image : S) → 0 < length files → length files ≤ 1 → extras_of (slice_set files 0 (record (get_or files 0 d) { image = image })) ≡ extras_of files
  unfolding extras_of
  one-extras [] d image some few = absurd (omega arith)
  one-extras (x ∷ []) d image some few = refl
  one-extras (x ∷ y ∷ rest) d image some few = absurd (omega arith)

  pub one-faults : (result : Result (Unit {0}) Fault) (files : List (ChainFile S)) (d : ChainFile S) (image : S) → 0 < length files → length files ≤ 1 → OnOk result ((state image).faults ≡ (state (get_or files 0 d).image).faults)
      → OnOk result (faults_of (seen_files state (slice_set files 0 (record (get_or files 0 d) { image = image }))) ≡ faults_of (seen_files state files))
  unfolding seen_files
  one-faults (Err _) files d image some few same = tt
  one-faults (Ok _) [] d image some few same = absurd (omega arith)
  one-faults (Ok _) (x ∷ []) d image some few same = ap (λ k. k ∷ []) same
  one-faults (Ok _) (x ∷ y ∷ rest) d image some few same = absurd (omega arith)

  -- One file of another format.
  pub other-refuses : (files : List (ChainFile S)) (d : ChainFile S) → 0 < length files → length files ≤ 1 → ((get_or files 0 d).format ≡ Qcow2 → ⊥) → Refuses (seen_files state files) offset n Unsupported
  unfolding seen_files
  other-refuses [] d some few other = absurd (omega arith)
  other-refuses (x ∷ []) d some few other = (other-format x.format other (file (state x.image)) offset n Unsupported).1 refl
  other-refuses (x ∷ y ∷ rest) d some few other = absurd (omega arith)

  pub other-must : (files : List (ChainFile S)) (d : ChainFile S) → 0 < length files → length files ≤ 1 → ((get_or files 0 d).format ≡ Qcow2 → ⊥) → (fault : Fault) → Refuses (seen_files state files) offset n fault → Unsupported ≡ fault
  unfolding seen_files
  other-must [] d some few other fault refuses = absurd (omega arith)
  other-must (x ∷ []) d some few other fault refuses = sym ((other-format x.format other (file (state x.image)) offset n fault).0 refuses)
  other-must (x ∷ y ∷ rest) d some few other fault refuses = absurd (omega arith)

pub same-file : {S : Type 0} (files : List (ChainFile S)) (d : ChainFile S) → 0 < length files → length files ≤ 1 → slice_set files 0 (get_or files 0 d) ≡ files
same-file [] d some few = absurd (omega arith)
same-file (x ∷ []) d some few = refl
same-file (x ∷ y ∷ rest) d some few = absurd (omega arith)

pub not-qcow2 : (format : Format) → (format ≡ Raw) ⊎ (format ≡ Vmdk) → format ≡ Qcow2 → ⊥
not-qcow2 format (inl e) q = let bad : Raw ≡ Qcow2 = sym e ∙ q in absurd cc
not-qcow2 format (inr e) q = let bad : Vmdk ≡ Qcow2 = sym e ∙ q in absurd cc
