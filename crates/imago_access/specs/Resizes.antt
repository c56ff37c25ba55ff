-- Specifies what a growth and a shrink do to the size and the bytes of one image (a layer of a chain).
use Rattle.std.specs.Prelude.{◌≡◌, ℕ, ◌<◌, ◌≤◌, if◌then◌else◌, ltb}
use Rattle.imago_storage.specs.Disk.{Value}
use Rattle.imago_storage.specs.Steps.{Call, grow, shrink, Growth, anything, zeroes, IsFilled}
use Rattle.imago_access.specs.Layer.{Layer, KeepsLayerState, through}
use Rattle.imago_access.specs.declared.format.PreallocateMode.{PreallocateMode}
use Rattle.imago_access.specs.declared.format.PreallocateMode.TheVariants as mode

-- The bytes that a growth adds: any bytes or zeroes.
abbrev pub fill_of : PreallocateMode → Growth
fill_of mode.None = anything
fill_of m = zeroes

-- A resize to a size is a growth or a shrink.
abbrev pub resizing : ℕ → ℕ → Growth → Call
resizing now size fill = if ltb size now then shrink size else grow size fill

-- The size is the new one. Old bytes read as before. New bytes read as 0, or as any byte if `fill` says so.
pub record Grown (below : ℕ → Value) (old new : Layer) (asked : ℕ) (fill : Growth) : Type 0 where
  pub fixed : new.fixed ≡ old.fixed
  pub size : new.size ≡ asked
  pub unspent : new.unspent ≡ old.unspent
  pub data_unchanged : (p : ℕ) → p < old.size → through (new.cell p) (below p) ≡ through (old.cell p) (below p)
  pub filled : (p : ℕ) → old.size ≤ p → p < asked → IsFilled fill (through (new.cell p) (below p))

-- The growth failed: each byte reads as before.
pub record NotGrown (below : ℕ → Value) (old new : Layer) : Type 0 where
  pub keeps_layer_state : KeepsLayerState old new
  pub data_unchanged : (p : ℕ) → p < old.size → through (new.cell p) (below p) ≡ through (old.cell p) (below p)

-- The size is the new one, and each byte below it is unchanged.
pub record Shrunk (old new : Layer) (asked : ℕ) : Type 0 where
  pub fixed : new.fixed ≡ old.fixed
  pub size : new.size ≡ asked
  pub unspent : new.unspent ≡ old.unspent
  pub data_unchanged : (p : ℕ) → p < asked → new.cell p ≡ old.cell p

-- The shrink failed: each byte is unchanged.
pub record NotShrunk (old new : Layer) : Type 0 where
  pub keeps_layer_state : KeepsLayerState old new
  pub data_unchanged : (p : ℕ) → p < old.size → new.cell p ≡ old.cell p
