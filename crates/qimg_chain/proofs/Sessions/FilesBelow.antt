-- The files of the layers below keep their bytes.
use Rattle.std.proofs.Common.{◌≡◌, ◌∙◌, List, [], ◌∷◌, ◌++◌, ap, refl, subst, sym}
use Rattle.std.specs.Prelude.{map}
use Rattle.std.proofs.lemmas.List.{map-append}
use Rattle.imago_storage.specs.State.{StorageState}
use Rattle.imago_access.specs.Files.{Pairs, UnchangedButMoreFaults, files_of}
use Rattle.imago_access.specs.declared.driver_model.DriverModel.{Ghosts}
use Rattle.qimg_core.specs.declared.plain.ChainFile.{ChainFile}
use Rattle.qimg_chain.specs.Chains.{AreLayers, OpenMode, mode_below}
use Rattle.qimg_chain.specs.FileLayers.{shows_below}
use Rattle.qimg_chain.specs.Sessions.{AreBytesBelow, HaveBytesOf, bytes_of_state}

-- Files in which only fault counts have changed have the same bytes.
same-bytes : (olds news : List StorageState) → Pairs UnchangedButMoreFaults olds news → map bytes_of_state news ≡ map bytes_of_state olds
same-bytes [] [] pairs = refl
same-bytes (old ∷ olds) (new ∷ news) pairs = ap (λ b. b ∷ map bytes_of_state news) pairs.0.0.bytes ∙ ap (λ bs. old.bytes ∷ bs) (same-bytes olds news pairs.1)
same-bytes [] (new ∷ news) pairs = absurd pairs
same-bytes (old ∷ olds) [] pairs = absurd pairs

module _ {S D St : Type 0} (g : Ghosts D St) (state : S → StorageState) where
  opened-bytes : (m : OpenMode) (files : List (ChainFile S)) (ds : List D) → AreLayers g state m files ds
      → AreBytesBelow state m files (map bytes_of_state (files_of g ds))
  opened-bytes m [] [] are = refl
  opened-bytes m (file ∷ files) (d ∷ ds) are = (
    shows_below (g.layer d),
    g.extras d,
    map bytes_of_state (files_of g ds),
    are.0.layer,
    ap (λ b. b ∷ map bytes_of_state (g.extras d ++ files_of g ds)) are.0.opened.unchanged_but_faults.0.bytes
        ∙ ap (λ bs. (state file.image).bytes ∷ bs) (map-append bytes_of_state (g.extras d) (files_of g ds)),
    opened-bytes (mode_below m) files ds are.1,
  )
  opened-bytes m [] (d ∷ ds) are = absurd are
  opened-bytes m (file ∷ files) [] are = absurd are

  -- The layers were opened over these files, and their files have kept their bytes since.
  pub below-kept : (m : OpenMode) (files : List (ChainFile S)) (opened ds : List D) → AreLayers g state m files opened
      → Pairs UnchangedButMoreFaults (files_of g opened) (files_of g ds) → HaveBytesOf g state m files ds
  below-kept m files opened ds are pairs =
      subst (AreBytesBelow state m files) (sym (same-bytes (files_of g opened) (files_of g ds) pairs)) (opened-bytes m files opened are)
