-- Requests that were handed to the file of the first layer.
use Rattle.std.proofs.Common.{◌≡◌, refl, sym, subst, arith, ℕ, zero, suc, ◌<◌, List, [], ◌∷◌, length, get_or, set}
use Rattle.std.specs.Prelude.{IsTrue}
use Rattle.imago_storage.specs.declared.log.Request.{Request}
use Rattle.host_file.specs.FileState.{IsOnlyRead}
use Rattle.host_file.specs.declared.file.HostFile.{Ghosts}
use Rattle.paged_storage.specs.Replaying.{IsReplayed, StoppedIn}
use Rattle.host_disk.specs.Layers.{AreOnlyRead, AreTruthful, state_of}
use Rattle.host_disk.specs.Lists.{PutInPart, PutOn}
use Rattle.host_disk.specs.declared.layer.HostLayer.{HostLayer}
use Rattle.host_disk.proofs.Layering.{only_read-refl}

module _ {H : Type 0} (g : Ghosts H) where
  -- The first file's answers were true, too.
  pub truthful-put : (layers : List (HostLayer H g)) (was new : HostLayer H g) → was ≡ get_or layers 0 was
      → (state_of g new).truthful ≡ (state_of g was).truthful → AreTruthful g (set layers 0 new) → AreTruthful g layers
  truthful-put [] was new is same truthful k d lt = absurd (omega (arith, lt))
  truthful-put (top ∷ below) was new is same truthful zero d lt =
      subst (λ (layer : HostLayer H g). IsTrue (state_of g layer).truthful) is (subst IsTrue same (truthful 0 d (omega arith)))
  truthful-put (top ∷ below) was new is same truthful (suc k) d lt = truthful (suc k) d lt

  pub put-whole : (requests : List Request) (layers : List (HostLayer H g)) (was new : HostLayer H g) → was ≡ get_or layers 0 was
      → new.format ≡ was.format → (IsTrue (state_of g new).truthful → IsReplayed requests (state_of g was) (state_of g new))
      → AreTruthful g (set layers 0 new) → PutOn g requests layers (set layers 0 new)
  put-whole requests [] was new is format replayed truthful = refl
  put-whole requests (top ∷ below) was new is format replayed truthful = (
    new,
    refl,
    subst (λ (layer : HostLayer H g). new.format ≡ layer.format) is format,
    subst (λ (layer : HostLayer H g). IsReplayed requests (state_of g layer) (state_of g new)) is
        (replayed (truthful 0 new (omega arith))),
  )

  pub put-in_part : (requests : List Request) (layers : List (HostLayer H g)) (was new : HostLayer H g) → was ≡ get_or layers 0 was
      → new.format ≡ was.format → (IsTrue (state_of g new).truthful → StoppedIn requests (state_of g was) (state_of g new))
      → AreTruthful g (set layers 0 new) → PutInPart g requests layers (set layers 0 new)
  put-in_part requests [] was new is format stopped truthful = refl
  put-in_part requests (top ∷ below) was new is format stopped truthful = (
    new,
    refl,
    subst (λ (layer : HostLayer H g). new.format ≡ layer.format) is format,
    subst (λ (layer : HostLayer H g). StoppedIn requests (state_of g layer) (state_of g new)) is
        (stopped (truthful 0 new (omega arith))),
  )

  -- The first file was only read.
  pub only_read-first : (layers : List (HostLayer H g)) (was new : HostLayer H g) → was ≡ get_or layers 0 was
      → new.format ≡ was.format → IsOnlyRead (state_of g was) (state_of g new) → AreOnlyRead g layers (set layers 0 new)
  only_read-first [] was new is format read = tt
  only_read-first (top ∷ below) was new is format read = (
    subst (λ (layer : HostLayer H g). new.format ≡ layer.format) is format,
    subst (λ (layer : HostLayer H g). IsOnlyRead (state_of g layer) (state_of g new)) is read,
    only_read-refl g below,
  )
