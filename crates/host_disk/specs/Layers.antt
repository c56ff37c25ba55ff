-- The layers of a chain over files of the host.
use Rattle.std.specs.Prelude.{◌≡◌, ⊤, ℕ, All, IsTrue, List, [], ◌∷◌, map}
use Rattle.host_file.specs.FileState.{FileState, IsOnlyRead}
use Rattle.host_file.specs.declared.file.HostFile.{Ghosts}
use Rattle.paged_storage.specs.PagedFiles.{file_shown, host_state}
use Rattle.paged_storage.specs.PagedStorage.{paged_state, requested}
use Rattle.paged_storage.specs.declared.paged_storage.PagedStorage.{PagedStorage}
use Rattle.qimg_core.specs.declared.plain.ChainFile.{ChainFile}
use Rattle.qimg_chain.specs.FileMeanings.{FileBytes}
use Rattle.host_disk.specs.declared.layer.HostLayer.{HostLayer}

module _ {H : Type 0} (g : Ghosts H) where
  -- The state of the layer's file.
  abbrev pub state_of : HostLayer H g → FileState
  state_of layer = host_state g layer.file

  -- The bytes of the layer's file.
  abbrev pub held_by : HostLayer H g → FileBytes
  held_by layer = record { format = layer.format; bytes = (state_of layer).held; extras = [] }

  -- The bytes that a storage over the layer's file shows.
  abbrev pub shown_by : HostLayer H g → FileBytes
  shown_by layer = record { format = layer.format; bytes = file_shown g layer.file; extras = [] }

  -- All answers of the files were true.
  abbrev pub AreTruthful : List (HostLayer H g) → Type 0
  AreTruthful layers = All (λ layer. IsTrue (state_of layer).truthful) layers

  -- The layers' files were only read.
  abbrev pub AreOnlyRead : List (HostLayer H g) → List (HostLayer H g) → Type 0
  AreOnlyRead [] [] = ⊤
  AreOnlyRead (old ∷ olds) (new ∷ news) =
      (new.format ≡ old.format) × IsOnlyRead (state_of old) (state_of new) × AreOnlyRead olds news
  AreOnlyRead olds news = ⊥

  -- The storage was just made over the layer's file.
  pub record IsStorageOf (layer : HostLayer H g) (file : ChainFile (PagedStorage H g)) : Type 0 where
    pub format : file.format ≡ layer.format
    pub image : paged_state g file.image ≡ requested (file_shown g layer.file) [] 0 0
    pub extras : file.extras.items ≡ []

  abbrev pub AreStoragesOf : List (HostLayer H g) → List (ChainFile (PagedStorage H g)) → Type 0
  AreStoragesOf [] [] = ⊤
  AreStoragesOf (layer ∷ layers) (file ∷ files) = IsStorageOf layer file × AreStoragesOf layers files
  AreStoragesOf layers files = ⊥
