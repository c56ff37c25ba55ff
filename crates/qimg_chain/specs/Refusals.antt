-- Defines when files form a chain (an image and its backing chain), and otherwise the first cause why they don't.
use Rattle.std.specs.Prelude.{◌≡◌, ◌≢◌, ◌⊎◌, ◌<◌, ◌≤◌, ⊤, ℕ, Bool, true, false, List, [], ◌∷◌, length, MatchOption, Option, Some, None}
use Rattle.imago_storage.specs.State.{MayFail, StorageState}
use Rattle.imago_storage.specs.declared.fault.Fault.{Fault}
use Rattle.imago_storage.specs.declared.fault.Fault.TheVariants.{BadArgument, ExtraLayer, Limit, Memory, MissingBelow, Storage, Unsupported}
use Rattle.imago_access.specs.declared.format.Format.TheVariants.{Vmdk}
use Rattle.qimg_core.specs.declared.plain.ChainFile.{ChainFile}
use Rattle.qimg_chain.specs.Chains.{OpenMode, mode_below}
use Rattle.qimg_chain.specs.FileLayers.{IsLayer, WhyNotLayer}

-- Memory ran out, or a storage failed, of a kind that may fail.
abbrev pub HadResourceError : {S : Type 0} → (S → StorageState) → Fault → Type 0
HadResourceError state fault = (fault ≡ Memory) ⊎ ((fault ≡ Storage) × MayFail state)

-- The fault of a file at its position, from whether it refers to a layer below and from the files after it.
abbrev pub misplaced : {F : Type 0} → Bool → List F → Option Fault
misplaced true [] = Some MissingBelow
misplaced false (next ∷ below) = Some ExtraLayer
misplaced named below = None

-- The file is a layer, and `why` is the fault of its position over the files below, if any.
abbrev pub IsPlacedLayer : {S : Type 0} → (S → StorageState) → Bool → ChainFile S → List (ChainFile S) → Option Fault → Type 0
IsPlacedLayer state writable file below why =
    (named : Bool) × (further : List StorageState) × IsLayer state writable file named further × (misplaced named below ≡ why)

-- Each of the files is a layer at a valid position. Only the first can be opened for writing.
abbrev pub ArePlaced : {S : Type 0} → (S → StorageState) → Bool → List (ChainFile S) → Type 0
ArePlaced state writable [] = ⊤
ArePlaced state writable (file ∷ below) = IsPlacedLayer state writable file below None × ArePlaced state false below

-- The first cause, from the top down, why the files aren't layers at valid positions.
abbrev pub WhyNotLayers : {S : Type 0} → (S → StorageState) → Bool → List (ChainFile S) → Fault → Type 0
WhyNotLayers state writable [] fault = ⊥
WhyNotLayers state writable (file ∷ below) fault = WhyNotLayer state writable file fault
    ⊎ (IsPlacedLayer state writable file below (Some fault)
    ⊎ (IsPlacedLayer state writable file below None × WhyNotLayers state false below fault))

-- The files form a chain: there are 1 to 64 files, and each is a layer at a valid position.
abbrev pub FormChain : {S : Type 0} → (S → StorageState) → Bool → List (ChainFile S) → Type 0
FormChain state writable files = (0 < length files) × (length files ≤ 64) × ArePlaced state writable files

-- The first cause why the files don't form a chain: the list is empty, it has more than 64 files, or the first cause from the top down.
abbrev pub FirstCause : {S : Type 0} → (S → StorageState) → Bool → List (ChainFile S) → Fault → Type 0
FirstCause state writable [] fault = fault ≡ MissingBelow
FirstCause state writable files fault = ((64 < length files) × (fault ≡ Limit (length files)))
    ⊎ ((length files ≤ 64) × WhyNotLayers state writable files fault)

-- ---- Files that are opened for commits to the layer below.

-- There are 2 to 64 files, and each is a layer at a valid position. The first two are opened for writing. The second isn't a VMDK image.
abbrev pub FormCommitChain : {S : Type 0} → (S → StorageState) → List (ChainFile S) → Type 0
FormCommitChain state [] = ⊥
FormCommitChain state (top ∷ []) = ⊥
FormCommitChain state (top ∷ (next ∷ below)) = (length (top ∷ (next ∷ below)) ≤ 64) × (next.format ≢ Vmdk)
    × IsPlacedLayer state true top (next ∷ below) None × ArePlaced state true (next ∷ below)

-- The first cause, from the top down, why two files or more aren't layers at valid positions.
abbrev pub WhyNotCommitLayers : {S : Type 0} → (S → StorageState) → List (ChainFile S) → Fault → Type 0
WhyNotCommitLayers state [] fault = ⊥
WhyNotCommitLayers state (top ∷ below) fault = WhyNotLayer state true top fault
    ⊎ (IsPlacedLayer state true top below (Some fault)
    ⊎ (IsPlacedLayer state true top below None × WhyNotLayers state true below fault))

-- The first cause why the files aren't opened for commits: the numbers are equal, the files are fewer than two, the second is a VMDK image, the
-- files are more than 64, or the first cause from the top down.
abbrev pub CommitCauseOf : {S : Type 0} → (S → StorageState) → List (ChainFile S) → Fault → Type 0
CommitCauseOf state [] fault = fault ≡ MissingBelow
CommitCauseOf state (top ∷ []) fault = fault ≡ MissingBelow
CommitCauseOf state (top ∷ (next ∷ below)) fault = ((next.format ≡ Vmdk) × (fault ≡ Unsupported))
    ⊎ ((next.format ≢ Vmdk)
    × (((64 < length (top ∷ (next ∷ below))) × (fault ≡ Limit (length (top ∷ (next ∷ below)))))
    ⊎ ((length (top ∷ (next ∷ below)) ≤ 64) × WhyNotCommitLayers state (top ∷ (next ∷ below)) fault)))

abbrev pub FirstCommitCause : {S : Type 0} → (S → StorageState) → (number below_number : ℕ) → List (ChainFile S) → Fault → Type 0
FirstCommitCause state number below_number files fault = ((number ≡ below_number) × (fault ≡ BadArgument))
    ⊎ ((number ≢ below_number) × CommitCauseOf state files fault)

-- The files form a chain, as they are opened in this mode, or the first cause why they don't.
abbrev pub AreFormed : {S : Type 0} → (S → StorageState) → OpenMode → List (ChainFile S) → Type 0
AreFormed state m files = MatchOption m.next (FormChain state m.writable files) (λ _. FormCommitChain state files)

abbrev pub WhyNotFormed : {S : Type 0} → (S → StorageState) → OpenMode → List (ChainFile S) → Fault → Type 0
WhyNotFormed state m files fault =
    MatchOption m.next (FirstCause state m.writable files fault) (λ below_number. FirstCommitCause state m.number below_number files fault)
