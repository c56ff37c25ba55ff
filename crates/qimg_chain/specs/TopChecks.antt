-- Specifies the check of a top file before its chain is opened, and the reasons why no call of a list is made.
use Rattle.std.specs.Prelude.{◌≡◌, ◌≢◌, ◌⊎◌, List, [], ◌∷◌, IsSome}
use Rattle.imago_storage.specs.State.{StorageState}
use Rattle.imago_access.specs.declared.format.Format.TheVariants.{Qcow2}
use Rattle.qcow2_metadata.specs.Loading.{file as bytes_in}
use Rattle.qimg_core.specs.Check.{Found, IsFinding}
use Rattle.qimg_core.specs.declared.check.CheckFault.{CheckFault}
use Rattle.qimg_core.specs.declared.plain.ChainFile.{ChainFile}
use Rattle.qimg_chain.specs.Chains.{IsSoundAs, OfSecond, OfTop, OpenMode}
use Rattle.qimg_chain.specs.Refusals.{HadResourceError, WhyNotFormed}
use Rattle.qimg_chain.specs.declared.session.NotDriven.{NotDriven}
use Rattle.qimg_chain.specs.declared.session.NotDriven.TheVariants.{Finding, FindingBelow, Opening}

-- The top file is accepted: if it is a qcow2 file, it is consistent.
abbrev pub IsAccepted : {S : Type 0} → (S → StorageState) → ChainFile S → Type 0
IsAccepted state file = IsSoundAs file.format (state file.image).bytes

-- The file after a successful check: its storage is in the same state. A file of another format than qcow2 isn't read.
pub record IsChecked {S : Type 0} (state : S → StorageState) (old new : ChainFile S) : Type 0 where
  pub format : new.format ≡ old.format
  pub extras : new.extras ≡ old.extras
  pub image : state new.image ≡ state old.image
  pub others : old.format ≢ Qcow2 → new ≡ old

abbrev pub AreChecked : {S : Type 0} → (S → StorageState) → List (ChainFile S) → List (ChainFile S) → Type 0
AreChecked state [] news = news ≡ []
AreChecked {S} state (old ∷ olds) news = (new : ChainFile S) × (news ≡ new ∷ olds) × IsChecked state old new

-- The reason why the top file isn't accepted: a finding of the checker about a qcow2 file, or the check couldn't be made. `after` is the
-- storage after the check.
pub record IsRejected {S : Type 0} (state : S → StorageState) (fault : CheckFault) (file : ChainFile S) : Type 0 where
  pub format : file.format ≡ Qcow2
  pub after : S
  pub found : Found (state file.image) (state after) (IsFinding (bytes_in (state file.image))) fault

-- The file of the next layer after a successful check. The other files are as before.
abbrev pub AreCheckedBelow : {S : Type 0} → (S → StorageState) → List (ChainFile S) → List (ChainFile S) → Type 0
AreCheckedBelow state [] news = news ≡ []
AreCheckedBelow {S} state (top ∷ olds) news = (below : List (ChainFile S)) × (news ≡ top ∷ below) × AreChecked state olds below

-- The reason why no call is made: the top file isn't accepted, or that of the next layer, if it is opened for writing, or the files don't
-- open as a chain.
abbrev pub WhyNotDriven : {S : Type 0} → (S → StorageState) → OpenMode → List (ChainFile S) → NotDriven → Type 0
WhyNotDriven state m files (Finding fault) = OfTop (IsRejected state fault) files
WhyNotDriven state m files (FindingBelow fault) = IsSome m.next × OfSecond (IsRejected state fault) files
WhyNotDriven state m files (Opening fault) = HadResourceError state fault ⊎ WhyNotFormed state m files fault
