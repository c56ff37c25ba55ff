-- Padded calls that fail because memory runs out.
use Rattle.std.proofs.Common.{◌≡◌, inl, inr, ℕ, List}
use Rattle.imago_storage.specs.State.{StorageState, HasRisen}
use Rattle.imago_storage.specs.Through.{PaddedWriteRefused}
use Rattle.imago_storage.specs.declared.fault.Fault.TheVariants.{Memory}
use Rattle.imago_storage.proofs.Composing.{kept_same}

-- A call that ran out of memory, while the storage refused no change, leaves the state unchanged.
pub untouched : (unit : ℕ) (old new : StorageState) (at : ℕ) (bytes : List ℕ) → PaddedWriteRefused unit old new at bytes Memory → (HasRisen old.refusals new.refusals → ⊥) → new ≡ old
untouched unit old new at bytes refused no_change_refused = elim refused.refused_or_unchanged [
  | inl rose ↦ absurd (no_change_refused rose)
  | inr kept ↦ kept_same old new kept refused.cause
]
