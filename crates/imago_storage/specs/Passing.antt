-- The crash images (the file after a crash between two requests) of a call in which no change was refused.
use Rattle.std.specs.Prelude.{List, ℕ}
use Rattle.imago_storage.specs.State.{StorageState, HasRisen, CrashImageIsBytes}
use Rattle.imago_storage.specs.Through.{EachCrashImage}

-- If no change was refused, a crash after the call still leaves the bytes, and `P` holds for each crash image of the call.
abbrev pub UnrefusedCrashImages : (List ℕ → Type 0) → StorageState → StorageState → Type 0
UnrefusedCrashImages P old new = (HasRisen old.refusals new.refusals → ⊥) → (CrashImageIsBytes old → CrashImageIsBytes new) × EachCrashImage P old new
