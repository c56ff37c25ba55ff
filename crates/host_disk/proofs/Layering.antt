-- The layers of a chain: files that were only read, and what storages over them show.
use Rattle.std.proofs.Common.{◌≡◌, ◌∙◌, ◌+◌, ◌<◌, ◌∷◌, ◌++◌, [], ℕ, zero, suc, List, ap, ap₂, arith, get_or, length, refl, subst, sym, take}
use Rattle.std.specs.Prelude.{All, Err, IsTrue, Ok, OnOk, Result, Vec, map, slice_set}
use Rattle.std.specs.declared.string.String.{String}
use Rattle.std.specs.declared.alloc.Global.{Global}
use Rattle.std.proofs.lemmas.List.{take_more}
use Rattle.std.proofs.lemmas.List.Elements.{All-cons, All-head, All-nil, All-tail}
use Rattle.imago_access.specs.declared.format.Format.{Format}
use Rattle.host_file.specs.FileState.{FileState, IsOnlyRead}
use Rattle.host_file.specs.declared.file.HostFile.{Ghosts}
use Rattle.paged_storage.specs.PagedFiles.{file_shown}
use Rattle.paged_storage.specs.PagedStorage.{paged_state, requested}
use Rattle.paged_storage.specs.declared.paged_storage.PagedStorage.{PagedStorage}
use Rattle.paged_storage.proofs.Agreed.{shown_agreed}
use Rattle.qimg_core.specs.declared.plain.ChainFile.{ChainFile}
use Rattle.qimg_chain.specs.FileMeanings.{FileBytes}
use Rattle.host_disk.specs.Checks.{IsTopSound}
use Rattle.host_disk.specs.Layers.{AreOnlyRead, AreStoragesOf, AreTruthful, IsStorageOf, held_by, shown_by, state_of}
use Rattle.host_disk.specs.declared.layer.HostLayer.{HostLayer}

-- A proposition that holds in any case holds on success.
pub on_any : {T E P : Type 0} (result : Result T E) → P → OnOk result P
on_any (Ok x) p = p
on_any (Err e) p = tt

-- ---- One file.

-- A file that wasn't asked anything.
pub read-refl : (state : FileState) → IsOnlyRead state state
read-refl state = record { held = refl; past = refl; truthful = λ truthful. truthful }

pub read-trans : (a b c : FileState) → IsOnlyRead a b → IsOnlyRead b c → IsOnlyRead a c
read-trans a b c first next = record {
  held = next.held ∙ first.held;
  past = next.past ∙ first.past;
  truthful = λ truthful. first.truthful (next.truthful truthful);
}

-- Files with the same format and the same bytes.
pub same-file : (f g : Format) (old new : List ℕ) → g ≡ f → new ≡ old
    → ◌≡◌ {A = FileBytes} (record { format = g; bytes = new; extras = [] }) (record { format = f; bytes = old; extras = [] })
same-file f g old new format bytes = λ i. record { format = format i; bytes = bytes i; extras = [] }

module _ {H : Type 0} (g : Ghosts H) where
  -- ---- Files that were only read.

  pub only_read-refl : (layers : List (HostLayer H g)) → AreOnlyRead g layers layers
  only_read-refl [] = tt
  only_read-refl (layer ∷ layers) = (refl, read-refl (state_of g layer), only_read-refl layers)

  pub only_read-trans : (olds mids news : List (HostLayer H g)) → AreOnlyRead g olds mids → AreOnlyRead g mids news → AreOnlyRead g olds news
  only_read-trans [] [] [] first next = tt
  only_read-trans [] [] (new ∷ news) first next = absurd next
  only_read-trans [] (mid ∷ mids) news first next = absurd first
  only_read-trans (old ∷ olds) [] news first next = absurd first
  only_read-trans (old ∷ olds) (mid ∷ mids) [] first next = absurd next
  only_read-trans (old ∷ olds) (mid ∷ mids) (new ∷ news) first next = (
    next.0 ∙ first.0,
    read-trans (state_of g old) (state_of g mid) (state_of g new) first.1 next.1,
    only_read-trans olds mids news first.2 next.2,
  )

  -- If every answer was true to the end, every answer was true before.
  pub truthful-before : (olds news : List (HostLayer H g)) → AreOnlyRead g olds news → AreTruthful g news → AreTruthful g olds
  truthful-before [] news read truthful = All-nil (λ (layer : HostLayer H g). IsTrue (state_of g layer).truthful)
  truthful-before (old ∷ olds) [] read truthful = absurd read
  truthful-before (old ∷ olds) (new ∷ news) read truthful =
      let P = λ (layer : HostLayer H g). IsTrue (state_of g layer).truthful in
      All-cons P old olds (read.1.truthful (All-head P new news truthful))
      (truthful-before olds news read.2 (All-tail P new news truthful))

  -- The files hold what they held.
  pub held_same : (olds news : List (HostLayer H g)) → AreOnlyRead g olds news → map (held_by g) news ≡ map (held_by g) olds
  held_same [] [] read = refl
  held_same [] (new ∷ news) read = absurd read
  held_same (old ∷ olds) [] read = absurd read
  held_same (old ∷ olds) (new ∷ news) read =
      ap₂ ◌∷◌ (same-file old.format new.format (state_of g old).held (state_of g new).held read.0 read.1.held) (held_same olds news read.2)

  -- ---- What storages over the files show.

  shown_one : (layer : HostLayer H g) → IsTrue (state_of g layer).truthful → shown_by g layer ≡ held_by g layer
  shown_one layer truthful =
      same-file layer.format layer.format _ _ refl
      (shown_agreed layer.file.size layer.file.pages.entries (state_of g layer).held (layer.file.agrees truthful))

  -- While every answer of the files is true, the storages show what the files hold.
  pub shown_held : (layers : List (HostLayer H g)) → AreTruthful g layers → map (shown_by g) layers ≡ map (held_by g) layers
  shown_held [] truthful = refl
  shown_held (layer ∷ layers) truthful =
      let P = λ (layer : HostLayer H g). IsTrue (state_of g layer).truthful in
      ap₂ ◌∷◌ (shown_one layer (All-head P layer layers truthful)) (shown_held layers (All-tail P layer layers truthful))

  -- Files that were only read show the same, while every answer is true.
  pub shown_same : (olds news : List (HostLayer H g)) → AreOnlyRead g olds news → AreTruthful g news
      → map (shown_by g) news ≡ map (shown_by g) olds
  shown_same olds news read truthful =
      shown_held news truthful ∙ held_same olds news read ∙ sym (shown_held olds (truthful-before olds news read truthful))

  -- The top is consistent at the start, if the storages over the files show that it is, and the files were only read.
  pub sound_at_start : (olds news : List (HostLayer H g)) → AreOnlyRead g olds news → IsTopSound (map (shown_by g) news)
      → AreTruthful g news → IsTopSound (map (held_by g) olds)
  sound_at_start olds news read sound truthful = subst IsTopSound (shown_held news truthful ∙ held_same olds news read) sound

  -- One of the files was read.
  pub only_read-set : (layers : List (HostLayer H g)) (i : ℕ) (old new : HostLayer H g) → i < length layers → old ≡ get_or layers i old
      → new.format ≡ old.format → IsOnlyRead (state_of g old) (state_of g new) → AreOnlyRead g layers (slice_set layers i new)
  only_read-set [] i old new below is format read = absurd (omega (arith, below))
  only_read-set (layer ∷ layers) zero old new below is format read = (
    subst (λ (l : HostLayer H g). new.format ≡ l.format) is format,
    subst (λ (l : HostLayer H g). IsOnlyRead (state_of g l) (state_of g new)) is read,
    only_read-refl layers,
  )
  only_read-set (layer ∷ layers) (suc i) old new below is format read =
      (refl, read-refl (state_of g layer), only_read-set layers i old new (omega (arith, below)) is format read)

  -- ---- Storages that were just made over the files.

  pub stores-push : (layers : List (HostLayer H g)) (files : List (ChainFile (PagedStorage H g))) (layer : HostLayer H g)
      (file : ChainFile (PagedStorage H g)) → AreStoragesOf g layers files → IsStorageOf g layer file
      → AreStoragesOf g (layers ++ layer ∷ []) (files ++ file ∷ [])
  stores-push [] [] layer file are is = (is, tt)
  stores-push [] (one ∷ files) layer file are is = absurd are
  stores-push (other ∷ layers) [] layer file are is = absurd are
  stores-push (other ∷ layers) (one ∷ files) layer file are is = (are.0, stores-push layers files layer file are.1 is)

  -- One more of the files got its storage.
  pub stores-more : (layers : List (HostLayer H g)) (i : ℕ) (layer : HostLayer H g) (files news : List (ChainFile (PagedStorage H g)))
      (format : Format) (image : PagedStorage H g) (extras : Vec (String Global × PagedStorage H g) Global) → i < length layers
      → layer ≡ get_or layers i layer → AreStoragesOf g (take i layers) files
      → news ≡ files ++ record { format = format; image = image; extras = extras } ∷ [] → format ≡ layer.format
      → paged_state g image ≡ requested (file_shown g layer.file) [] 0 0 → extras.items ≡ [] → AreStoragesOf g (take (i + 1) layers) news
  stores-more layers i layer files news format image extras below is are pushed same fresh none =
      let file : ChainFile (PagedStorage H g) = record { format = format; image = image; extras = extras } in
      let one : IsStorageOf g layer file = record { format = same; image = fresh; extras = none } in
      let more = take_more layers i layer below ∙ ap (λ (l : HostLayer H g). take i layers ++ l ∷ []) (sym is) in
      let both = stores-push (take i layers) files layer file are one in
      let taken = subst (λ (l : List (HostLayer H g)). AreStoragesOf g l (files ++ file ∷ [])) (sym more) both in
      subst (λ (l : List (ChainFile (PagedStorage H g))). AreStoragesOf g (take (i + 1) layers) l) (sym pushed) taken
