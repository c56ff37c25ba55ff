-- A chain of layers (an image over its backing files) as one disk: its values, alignments and sizes.
use Rattle.std.specs.Prelude.{◌≡◌, ◌⊎◌, max, Bool, true, false, ℕ, List, [], ◌∷◌, if◌then◌else◌, ltb, ⊤}
use Rattle.imago_storage.specs.Disk.{Value, byte, Disk}
use Rattle.imago_access.specs.Layer.{unmapped, Layer, through, hold_of, KeepsLayerState}

-- The value at offset `p`: the top layer's, or the value of the layers below if it has none. Past the end of a layer it is 0.
abbrev pub at : List Layer → ℕ → Value
at [] p = byte 0
at (layer ∷ below) p = if ltb p layer.size then through (layer.cell p) (at below p) else byte 0

-- The disk of a layer over the layers below it.
abbrev pub disk_of : List Layer → Layer → Disk
disk_of below layer = record { size = layer.size; value = at (layer ∷ below); hold = λ p. hold_of (layer.held p) }

-- The greatest request alignment of a chain's storages, in bytes, or 1 without layers. `mem_align_of` is the greatest memory alignment.
abbrev pub req_align_of : List Layer → ℕ
req_align_of [] = 1
req_align_of (layer ∷ below) = max layer.fixed.req_align (req_align_of below)

abbrev pub mem_align_of : List Layer → ℕ
mem_align_of [] = 1
mem_align_of (layer ∷ below) = max layer.fixed.mem_align (mem_align_of below)

-- The unit of a chain's requests, in bytes.
abbrev pub unit_of_chain : List Layer → ℕ
unit_of_chain layers = max (req_align_of layers) (mem_align_of layers)

abbrev pub has_any : List Layer → Bool
has_any [] = false
has_any (layer ∷ below) = true

-- If there are layers below, the layer reads through to them.
abbrev pub IsBacked : List Layer → Layer → Type 0
IsBacked [] layer = ⊤
IsBacked (next ∷ below) layer = layer.fixed.blank ≡ unmapped

-- Each driver of the list has P.
abbrev pub Each : {D : Type 0} → (D → Type 0) → List D → Type 0
Each P [] = ⊤
Each P (d ∷ ds) = P d × Each P ds

-- The first driver of a list that isn't empty has P.
abbrev pub OfFirst : {D : Type 0} → (D → Type 0) → List D → Type 0
OfFirst P [] = ⊤
OfFirst P (d ∷ ds) = P d

-- A call that goes through the layers from the top down has ended at one layer. Each layer above has P. Q holds of the old and new state of
-- the layer where the call ended. The layers below are unchanged.
abbrev pub EndsAt : {D : Type 0} → (D → Type 0) → (D → D → Type 0) → List D → List D → Type 0
EndsAt P Q (old ∷ olds) (new ∷ news) = (Q old new × (news ≡ olds)) ⊎ (P new × EndsAt P Q olds news)
EndsAt P Q _ _ = ⊥

-- Each layer keeps what never changes, its size, its mapping that is prepared and not yet committed, and whether it has failed.
abbrev pub KeepLayerStates : List Layer → List Layer → Type 0
KeepLayerStates [] [] = ⊤
KeepLayerStates (old ∷ olds) (new ∷ news) = KeepsLayerState old new × KeepLayerStates olds news
KeepLayerStates _ _ = ⊥
