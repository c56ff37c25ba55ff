-- The files of a chain that may fail. No cause that files give is a failed storage.
use Rattle.std.proofs.Common.{◌≡◌, ◌≢◌, ◌⊎◌, ◌∙◌, ◌∷◌, ◌++◌, [], ℕ, List, ap, inl, inr, map, refl, subst, sym}
use Rattle.std.specs.Prelude.{Bool, Err, Ok, Result, Some, false, true}
use Rattle.std.specs.Borrow.{RattleType}
use Rattle.std.specs.declared.string.String.{String}
use Rattle.std.specs.declared.alloc.Global.{Global}
use Rattle.imago_storage.specs.State.{MayFail, NeverFails, StorageState}
use Rattle.imago_storage.specs.View.{view_state}
use Rattle.imago_storage.specs.declared.fault.Fault.{Fault}
use Rattle.imago_storage.specs.declared.fault.Fault.TheVariants.{Memory, Storage}
use Rattle.imago_storage.specs.declared.storage.Storage.{Ghosts as StorageGhosts}
use Rattle.imago_storage.proofs.Failing.{stays_without_faults}
use Rattle.imago_access.specs.Chain.{Each}
use Rattle.imago_access.specs.Files.{SomeRose, files, files_of}
use Rattle.imago_access.specs.declared.format.Format.{Format}
use Rattle.imago_access.specs.declared.format.Format.TheVariants.{Qcow2, Raw, Vmdk}
use Rattle.imago_access.specs.declared.driver_model.DriverModel.{Ghosts}
use Rattle.imago_formats.specs.Descriptor.{descriptor_of}
use Rattle.imago_formats.proofs.SaidFaults.{never_storage}
use Rattle.qcow2_types.specs.Bytes.{bytes_of}
use Rattle.qcow2_image.specs.Opening.{header_for}
use Rattle.qcow2_image.proofs.OpenRefusals.{reading-refusal}
use Rattle.qimg_core.specs.declared.plain.ChainFile.{ChainFile}
use Rattle.qimg_chain.specs.FileLayers.{asked_of, said_of}
use Rattle.qimg_chain.specs.FileMeanings.{FileBytes, files_bytes}
use Rattle.qimg_chain.specs.FurtherFiles.{WhyNotFurther}
use Rattle.qimg_chain.specs.PlainReads.{NoFileFails, NotPlainlyRead, RefusesRange, SomeFileMayFail}
use Rattle.qimg_chain.specs.Refusals.{CommitCauseOf, FirstCause, FirstCommitCause, HadResourceError, WhyNotCommitLayers, WhyNotLayers, misplaced}
use Rattle.qimg_chain.proofs.Narrowing.{not_of_value}
use Rattle.qimg_chain.specs.contracts.chain.image_driver.ImageDriverDriverModel.TheImpl as image_seen
use Rattle.qimg_chain.specs.declared.chain.image_driver.ImageDriver.TheVariants as variant

-- Borrowed bytes never fail.
pub view_never : NeverFails view_state
unfolding view_state
view_never = λ v. refl

-- None of these storages has ever failed.
abbrev AtRest : List StorageState → Type 0
AtRest ss = Each (λ s. s.faults ≡ 0) ss

none_rose : (olds news : List StorageState) → AtRest olds → AtRest news → SomeRose olds news → ⊥
none_rose [] news flushed_metadata rested rose = rose
none_rose (old ∷ olds) [] flushed_metadata rested rose = rose
none_rose (old ∷ olds) (new ∷ news) flushed_metadata rested (inl rose) = stays_without_faults old.faults new.faults flushed_metadata.0 rested.0 rose
none_rose (old ∷ olds) (new ∷ news) flushed_metadata rested (inr rose) = none_rose olds news flushed_metadata.1 rested.1 rose

both_rest : (xs ys : List StorageState) → AtRest xs → AtRest ys → AtRest (xs ++ ys)
both_rest [] ys flushed_metadata rested = rested
both_rest (x ∷ xs) ys flushed_metadata rested = (flushed_metadata.0, both_rest xs ys flushed_metadata.1 rested)

all_rest : {S : Type 0} (state : S → StorageState) → NeverFails state → (files : List S) → AtRest (map state files)
all_rest state never [] = tt
all_rest state never (file ∷ files) = (never file, all_rest state never files)

module _ {D St : Type 0} (g : Ghosts D St) where
  chain_rests : NoFileFails g → (ds : List D) → AtRest (files_of g ds)
  chain_rests none [] = tt
  chain_rests none (d ∷ ds) = both_rest (files g d) (files_of g ds) (none d) (chain_rests none ds)

  -- If a file of a chain has failed, it is one that may fail.
  pub file_may_fail : (olds news : List D) → SomeRose (files_of g olds) (files_of g news) → SomeFileMayFail g
  file_may_fail olds news rose = λ none. none_rose (files_of g olds) (files_of g news) (chain_rests none olds) (chain_rests none news) rose

module _ (R : RattleType) (st : StorageGhosts R.Denot) (sd : mir.Syntax.Dict) (dd : mir.Syntax.Dict) where
  driver_rests : NeverFails st.state → NoFileFails (image_seen.ghosts R st sd dd)
  driver_rests never (variant.Raw d) = (never d.storage, tt)
  driver_rests never (variant.Vmdk d) = (never d.image, all_rest st.state never d.files.items)
  driver_rests never (variant.Qcow2 d) = (never d.tables.file.image, tt)

  -- The files of image drivers are storages. If a file may fail, a storage of that kind may fail.
  pub fails : SomeFileMayFail (image_seen.ghosts R st sd dd) → MayFail st.state
  fails may = λ never. may (driver_rests never)

-- ---- Faults from the bytes of files.

not_memory : Storage ≡ Memory → ⊥
not_memory is = cc is

asked_never : {A : Type 0} (r : Result A Fault) (asks : A → Bool) → (r ≡ Err Storage → ⊥) → asked_of asks r ≡ Err Storage → ⊥
asked_never (Ok x) asks never said = cc said
asked_never (Err fault) asks never said = let same : fault ≡ Storage = cc said in never (ap Err same)

said_never : (format : Format) (writable : Bool) (bytes : List ℕ) → said_of format writable bytes ≡ Err Storage → ⊥
said_never Raw writable bytes said = cc said
said_never Vmdk true bytes said = cc said
said_never Vmdk false bytes said = asked_never (descriptor_of bytes) _ (never_storage bytes) said
said_never Qcow2 writable bytes said = asked_never (header_for writable (bytes_of bytes)) _ (reading-refusal writable (bytes_of bytes) Storage) said

misplaced_never : {F : Type 0} (named : Bool) (below : List F) → misplaced named below ≡ Some Storage → ⊥
misplaced_never true [] out = cc out
misplaced_never true (next ∷ below) out = cc out
misplaced_never false [] out = cc out
misplaced_never false (next ∷ below) out = cc out

range_never : (files : List FileBytes) (offset n : ℕ) → RefusesRange files offset n Storage → ⊥
range_never files offset n (inl past) = cc past.1
range_never files offset n (inr why) = elim why.1 [ inl first ↦ not_of_value _ Storage (λ place. place) first.faulty | inr far ↦ cc far.1 ]

module _ {S : Type 0} (state : S → StorageState) where
  further_never : (format : Format) (image : StorageState) (handed : List (String Global × S)) → WhyNotFurther state format image handed Storage → ⊥
  further_never Vmdk image handed why = elim why.2 [ inl lacking ↦ cc lacking.0 | inr beyond ↦ cc beyond.0 ]
  further_never Raw image handed why = why
  further_never Qcow2 image handed why = why

  layers_never : (writable : Bool) (files : List (ChainFile S)) → WhyNotLayers state writable files Storage → ⊥
  layers_never writable [] why = why
  layers_never writable (file ∷ below) (inl (inl said)) = said_never file.format writable (state file.image).bytes said
  layers_never writable (file ∷ below) (inl (inr why)) = further_never file.format (state file.image) file.extras.items why.1
  layers_never writable (file ∷ below) (inr (inl out)) = misplaced_never out.0 below out.3
  layers_never writable (file ∷ below) (inr (inr why)) = layers_never false below why.1

  first_never : (writable : Bool) (files : List (ChainFile S)) → FirstCause state writable files Storage → ⊥
  first_never writable [] why = cc why
  first_never writable (file ∷ below) (inl many) = cc many.1
  first_never writable (file ∷ below) (inr why) = layers_never writable (file ∷ below) why.1

  commit_layers_never : (files : List (ChainFile S)) → WhyNotCommitLayers state files Storage → ⊥
  commit_layers_never [] why = why
  commit_layers_never (top ∷ below) (inl (inl said)) = said_never top.format true (state top.image).bytes said
  commit_layers_never (top ∷ below) (inl (inr why)) = further_never top.format (state top.image) top.extras.items why.1
  commit_layers_never (top ∷ below) (inr (inl out)) = misplaced_never out.0 below out.3
  commit_layers_never (top ∷ below) (inr (inr why)) = layers_never true below why.1

  commit_cause_never : (files : List (ChainFile S)) → CommitCauseOf state files Storage → ⊥
  commit_cause_never [] why = cc why
  commit_cause_never (top ∷ []) why = cc why
  commit_cause_never (top ∷ (next ∷ below)) (inl of_vmdk) = cc of_vmdk.1
  commit_cause_never (top ∷ (next ∷ below)) (inr (other, inl many)) = cc many.1
  commit_cause_never (top ∷ (next ∷ below)) (inr (other, inr why)) = commit_layers_never (top ∷ (next ∷ below)) why.1

  first_commit_never : (number below_number : ℕ) (files : List (ChainFile S)) → FirstCommitCause state number below_number files Storage → ⊥
  first_commit_never number below_number files (inl same) = cc same.1
  first_commit_never number below_number files (inr why) = commit_cause_never files why.1

  -- ---- Files that never fail.

  module _ (never : NeverFails state) where
    by_memory : (fault : Fault) → HadResourceError state fault → fault ≡ Memory
    by_memory fault (inl memory) = memory
    by_memory fault (inr failed) = absurd (failed.1 never)

    -- Memory ran out, or there is a cause, which is no failed storage.
    not_for_failing : (Why : Fault → Type 0) → (Why Storage → ⊥) → (fault : Fault) → HadResourceError state fault ⊎ Why fault
        → (fault ≢ Storage) × ((fault ≡ Memory) ⊎ Why fault)
    not_for_failing Why never_why fault (inl cut) = let memory = by_memory fault cut in (λ is. absurd (not_memory (sym is ∙ memory)), inl memory)
    not_for_failing Why never_why fault (inr first) = (λ is. never_why (subst Why is first), inr first)

    -- They aren't opened because memory runs out or for a cause that they give.
    pub unopened : (writable : Bool) (files : List (ChainFile S)) (fault : Fault) → HadResourceError state fault ⊎ FirstCause state writable files fault
        → (fault ≢ Storage) × ((fault ≡ Memory) ⊎ FirstCause state writable files fault)
    unopened writable files = not_for_failing (FirstCause state writable files) (first_never writable files)

    -- Like `unopened`, for commits to the layer below.
    pub unopened_for_commit : (number below_number : ℕ) (files : List (ChainFile S)) (fault : Fault)
        → HadResourceError state fault ⊎ FirstCommitCause state number below_number files fault
        → (fault ≢ Storage) × ((fault ≡ Memory) ⊎ FirstCommitCause state number below_number files fault)
    unopened_for_commit number below_number files =
        not_for_failing (FirstCommitCause state number below_number files) (first_commit_never number below_number files)

    unread_never : (files : List (ChainFile S)) (offset n : ℕ) → NotPlainlyRead state files offset n Storage → ⊥
    unread_never files offset n (inl cut) = not_memory (by_memory Storage cut)
    unread_never files offset n (inr (inl first)) = first_never false files first
    unread_never files offset n (inr (inr range)) = range_never (files_bytes state files) offset n range.1

    pub unread : (files : List (ChainFile S)) (offset n : ℕ) (fault : Fault) → NotPlainlyRead state files offset n fault → fault ≢ Storage
    unread files offset n fault why = λ is. unread_never files offset n (subst (NotPlainlyRead state files offset n) is why)
