-- The causes of faults: for each fault, what must hold if a call of the caches or the allocator fails with it.
use Rattle.std.specs.Prelude.{◌≡◌, ⊤, ℕ, Result, MatchResult}
use Rattle.imago_storage.specs.State.{HasRisen}
use Rattle.imago_storage.specs.declared.fault.Fault.{Fault}
use Rattle.imago_storage.specs.declared.fault.Fault.TheVariants.{Memory, Storage, DamagedTable, CacheFull, Counter, Limit}

-- Conditions for each fault: a damaged table, a refcount that can't change, a full cache, and a limit with its number. Also the storage's
-- fault counts before and after the call.
pub record Causes : Type 1 where
  pub damaged : Type 0
  pub counter : Type 0
  pub full : Type 0
  pub limit : (number : ℕ) → Type 0
  pub before : ℕ
  pub after : ℕ

-- The causes of a call that makes no request and uses neither caches nor refcounts.
abbrev pub bare_causes : (damaged : Type 0) → (limit : (number : ℕ) → Type 0) → Causes
bare_causes damaged limit = record { damaged = damaged; counter = ⊥; full = ⊥; limit = limit; before = 0; after = 0 }

-- A fault has its cause. `Memory` needs none, and may follow a fault of the storage.
abbrev pub HasCause : Causes → Fault → Type 0
HasCause causes Memory = ⊤
HasCause causes Storage = HasRisen causes.before causes.after
HasCause causes DamagedTable = causes.damaged
HasCause causes Counter = causes.counter
HasCause causes CacheFull = causes.full
HasCause causes (Limit number) = causes.limit number
HasCause causes fault = ⊥

-- If the call fails, its fault has a cause. Otherwise the storage has counted no fault.
abbrev pub FailsFor : {T : Type 0} → Causes → Result T Fault → Type 0
FailsFor causes result = MatchResult result (λ _. causes.after ≡ causes.before) (HasCause causes)
