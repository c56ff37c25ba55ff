-- Specifies how a driver's calls change the bytes of its image: changes of a range, and the steps of a prepared mapping (a run that is
-- written and not yet committed).
use Rattle.std.specs.Prelude.{◌≡◌, ◌⊎◌, ⊤, ℕ, ◌+◌, ◌<◌, Bool, true, false, Option, Some, None, List, length, slice_index}
use Rattle.imago_storage.specs.Disk.{Value, byte}
use Rattle.imago_storage.specs.Steps.{IsIn, IsOut, IsByte}
use Rattle.imago_access.specs.Layer.{Cell, own, through, Held, loose, beside, inside, Layer, IsFree, KeepsLayerState}

-- Each byte of the range has become what Q allows, and no other byte has changed. Writable locations may have changed.
pub record Rewrites (Q : ℕ → Cell → Cell → Type 0) (old new : Layer) (offset n : ℕ) : Type 0 where
  pub keeps_layer_state : KeepsLayerState old new
  pub range : (p : ℕ) → IsIn offset n p → Q p (old.cell p) (new.cell p)
  pub others : (p : ℕ) → IsOut offset n p → new.cell p ≡ old.cell p

-- The call failed: each byte of the range is unchanged or has become what Q allows. No other byte has changed.
pub record PartRewrites (Q : ℕ → Cell → Cell → Type 0) (old new : Layer) (offset n : ℕ) : Type 0 where
  pub keeps_layer_state : KeepsLayerState old new
  pub range : (p : ℕ) → IsIn offset n p → (new.cell p ≡ old.cell p) ⊎ Q p (old.cell p) (new.cell p)
  pub others : (p : ℕ) → IsOut offset n p → new.cell p ≡ old.cell p

-- The byte becomes 0.
abbrev pub ToZero : ℕ → Cell → Cell → Type 0
ToZero p was is = is ≡ own (byte 0)

-- The byte is unchanged, or becomes any byte.
abbrev pub ToAny : ℕ → Cell → Cell → Type 0
ToAny p was is = (is ≡ was) ⊎ ((v : Value) × IsByte v × (is ≡ own v))

-- The byte is unchanged, or is left to the layer below (the backing file).
abbrev pub ToBelow : Cell → ℕ → Cell → Cell → Type 0
ToBelow blank p was is = (is ≡ was) ⊎ (is ≡ blank)

-- `b` is the byte that reads at `p` through the layers below.
abbrev pub IsCopied : (ℕ → Value) → Layer → ℕ → ℕ → Type 0
IsCopied below layer p b = through (layer.cell p) (below p) ≡ byte b

-- The states of a byte in a mapping that was just prepared. A byte that was copied next to the run can't be written in place.
abbrev pub IsHolding : (ℕ → Value) → Layer → ℕ → ℕ → Bool → ℕ → Held → Type 0
IsHolding below layer offset n overwrite p loose = ⊤
IsHolding below layer offset n overwrite p (beside b) = (IsIn offset n p → ⊥) × IsCopied below layer p b × (layer.writable_location p ≡ None)
IsHolding below layer offset n overwrite p (inside (Some b) written announced) =
    IsIn offset n p × (written ≡ None) × (announced ≡ overwrite) × IsCopied below layer p b
IsHolding below layer offset n overwrite p (inside None written announced) = IsIn offset n p × (written ≡ None) × (announced ≡ overwrite)

-- The request for a mapping.
pub record Asked : Type 0 where
  pub offset : ℕ
  pub length : ℕ
  -- the caller will write the whole run
  pub overwrite : Bool

abbrev pub asking : ℕ → ℕ → Bool → Asked
asking offset n overwrite = record { offset = offset; length = n; overwrite = overwrite }

-- The location of a prepared run, and the identifier of its mapping if it has state.
pub record Run : Type 0 where
  pub storage : ℕ
  pub place : ℕ
  pub length : ℕ
  pub mapping_id : Option ℕ

abbrev pub run_at : ℕ → ℕ → ℕ → Option ℕ → Run
run_at storage place n mapping_id = record { storage = storage; place = place; length = n; mapping_id = mapping_id }

-- Each byte of the run can be written from an offset of one storage on. Values don't change. If the mapping has state, at least one byte of
-- the run is held.
pub record Prepared (below : ℕ → Value) (old new : Layer) (asked : Asked) (run : Run) : Type 0 where
  pub fixed : new.fixed ≡ old.fixed
  pub size : new.size ≡ old.size
  pub cell : new.cell ≡ old.cell
  pub writable_location : (i : ℕ) → i < run.length → new.writable_location (asked.offset + i) ≡ Some (run.storage, run.place + i)
  pub unspent : new.unspent ≡ run.mapping_id
  pub holds : (p : ℕ) → IsHolding below new asked.offset run.length asked.overwrite p (new.held p)
  pub some_held : (c : ℕ) → run.mapping_id ≡ Some c
      → (p : ℕ) × (copied : Option ℕ) × IsIn asked.offset run.length p × (new.held p ≡ inside copied None asked.overwrite)

-- The preparation failed: values and the bytes of prepared mappings are unchanged. Fewer bytes may have a writable location, as a new table
-- may have replaced an old one.
pub record NotPrepared (old new : Layer) : Type 0 where
  pub keeps_layer_state : KeepsLayerState old new
  pub cell : new.cell ≡ old.cell
  pub held : new.held ≡ old.held

-- The effect of a write on one byte: a byte of the prepared mapping notes the new byte for the commit, and any other byte of the run
-- becomes it.
abbrev pub TakesByte : ℕ → Held → Cell → Held → Cell → Type 0
TakesByte b (inside copied written announced) was held is = (is ≡ was) × (held ≡ inside copied (Some b) announced)
TakesByte b was_held was held is = (is ≡ own (byte b)) × (held ≡ was_held)

pub record Wrote (old new : Layer) (guest : ℕ) (bytes : List ℕ) : Type 0 where
  pub keeps_layer_state : KeepsLayerState old new
  pub writable_location : new.writable_location ≡ old.writable_location
  pub range : (i : ℕ) → i < length bytes
      → TakesByte (slice_index bytes i) (old.held (guest + i)) (old.cell (guest + i)) (new.held (guest + i)) (new.cell (guest + i))
  pub others : (p : ℕ) → IsOut guest (length bytes) p → (new.cell p ≡ old.cell p) × (new.held p ≡ old.held p)

-- The effect of a commit of the prepared mapping on one byte.
abbrev pub CommitsPlace : Held → Cell → Cell → Type 0
CommitsPlace loose was is = is ≡ was
CommitsPlace (beside b) was is = is ≡ own (byte b)
CommitsPlace (inside copied (Some b) announced) was is = is ≡ own (byte b)
CommitsPlace (inside (Some b) None announced) was is = is ≡ own (byte b)
CommitsPlace (inside None None true) was is = (is ≡ was) ⊎ ((v : Value) × IsByte v × (is ≡ own v))
CommitsPlace (inside None None false) was is = is ≡ was

pub record Committed (old new : Layer) : Type 0 where
  pub fixed : new.fixed ≡ old.fixed
  pub size : new.size ≡ old.size
  pub is_free : IsFree new
  pub cell : (p : ℕ) → CommitsPlace (old.held p) (old.cell p) (new.cell p)
  -- a byte with a writable location keeps it
  pub writable_location : (p : ℕ) (at : ℕ × ℕ) → old.writable_location p ≡ Some at → new.writable_location p ≡ Some at

pub record Cancelled (old new : Layer) : Type 0 where
  pub fixed : new.fixed ≡ old.fixed
  pub size : new.size ≡ old.size
  pub failed : new.failed ≡ old.failed
  pub is_free : IsFree new
  pub cell : new.cell ≡ old.cell
