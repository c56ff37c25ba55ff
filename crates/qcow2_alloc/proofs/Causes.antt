-- Implications between the causes of two calls.
use Rattle.std.proofs.Common.{◌≡◌, ℕ, ◌≤◌, refl, arith, Result, Ok, Err}
use Rattle.imago_storage.specs.Calls.{Cause, CountsFaults}
use Rattle.imago_storage.specs.declared.fault.Fault.{Fault}
use Rattle.imago_storage.specs.declared.fault.Fault.TheVariants.{Memory, Storage, DamagedTable, CacheFull, Counter, Limit}
use Rattle.imago_storage.proofs.Composing.{rose_before, rose_behind}
use Rattle.qcow2_alloc.specs.Causes.{Causes, HasCause, FailsFor, bare_causes}

-- The second call starts no later and ends no earlier than the first, and has each of its causes.
pub record Implies (old new : Causes) : Type 0 where
  pub before : new.before ≤ old.before
  pub after : old.after ≤ new.after
  pub damaged : old.damaged → new.damaged
  pub counter : old.counter → new.counter
  pub full : old.full → new.full
  pub limit : (number : ℕ) → old.limit number → new.limit number

pub cause-weaker : {old new : Causes} → Implies old new → (fault : Fault) → HasCause old fault → HasCause new fault
cause-weaker weaker Memory why = tt
cause-weaker {old = old} {new = new} weaker Storage why = rose_behind new.before old.before new.after weaker.before (rose_before old.before old.after new.after why weaker.after)
cause-weaker weaker DamagedTable why = weaker.damaged why
cause-weaker weaker Counter why = weaker.counter why
cause-weaker weaker CacheFull why = weaker.full why
cause-weaker weaker (Limit number) why = weaker.limit number why
cause-weaker weaker fault why = absurd why

-- Like `cause-weaker`, for results.
pub fails-weaker : {T : Type 0} (old new : Causes) → Implies old new → (old.after ≡ old.before → new.after ≡ new.before) → (result : Result T Fault) → FailsFor old result → FailsFor new result
fails-weaker old new weaker has_no_dirty_data (Ok value) same = has_no_dirty_data same
fails-weaker old new weaker has_no_dirty_data (Err fault) why = cause-weaker weaker fault why

-- A cause without any request is a cause of every call, regardless of its fault counts.
pub bare-weaker : {damaged : Type 0} {limit : ℕ → Type 0} (new : Causes) → (damaged → new.damaged) → ((number : ℕ) → limit number → new.limit number)
    → (fault : Fault) → HasCause (bare_causes damaged limit) fault → HasCause new fault
bare-weaker new damages limits Memory why = tt
bare-weaker new damages limits Storage why = absurd (let never = why.rose (omega arith) in omega (arith, never))
bare-weaker new damages limits DamagedTable why = damages why
bare-weaker new damages limits (Limit number) why = limits number why
bare-weaker new damages limits fault why = absurd why

-- A `Limit` cause fixes the fault's number.
pub cause-told : (causes : Causes) (fault : Fault) → HasCause causes fault → HasCause (record causes { limit = λ number. (fault ≡ Limit number) × causes.limit number }) fault
cause-told causes (Limit number) why = (refl, why)
cause-told causes Memory why = why
cause-told causes Storage why = why
cause-told causes DamagedTable why = why
cause-told causes Counter why = why
cause-told causes CacheFull why = why
cause-told causes fault why = absurd why

-- A storage's cause is a cause of each call that includes the request.
pub storage-cause : (a b : ℕ) (causes : Causes) → causes.before ≤ a → b ≤ causes.after → (fault : Fault) → Cause a b fault → HasCause causes fault
storage-cause a b causes le le' Memory why = tt
storage-cause a b causes le le' Storage why = rose_behind causes.before a causes.after le (rose_before a b causes.after why le')
storage-cause a b causes le le' fault why = absurd why

pub storage-fails : {T : Type 0} (a b : ℕ) (causes : Causes) → causes.before ≤ a → b ≤ causes.after → (b ≡ a → causes.after ≡ causes.before) → (result : Result T Fault) → CountsFaults a b result → FailsFor causes result
storage-fails a b causes le le' has_no_dirty_data (Ok value) same = has_no_dirty_data same
storage-fails a b causes le le' has_no_dirty_data (Err fault) why = storage-cause a b causes le le' fault why
