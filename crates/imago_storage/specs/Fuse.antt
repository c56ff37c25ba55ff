-- The state of a `FuseStorage` (the wrapper that fails one request): that of the inner storage, with the wrapper's own faults and refused
-- changes added.
use Rattle.std.specs.Prelude.{◌≡◌, ◌≢◌, ℕ, ◌+◌, ◌-◌, ◌^◌, min, IsTrue, Result, IsErrOf}
use Rattle.imago_storage.specs.State.{StorageState, IsAligned}
use Rattle.imago_storage.specs.declared.fault.Fault.{Fault}
use Rattle.imago_storage.specs.declared.fault.Fault.TheVariants.{Storage}
use Rattle.imago_storage.specs.declared.fuse.FuseStorage.{FuseStorage}

-- The inner storage.
unfoldable pub fuse_inner : {S : Type 0} → FuseStorage S → S
fuse_inner f = f.inner

-- The number of counted calls. It stops at the greatest `u64`.
unfoldable pub fuse_count : {S : Type 0} → FuseStorage S → ℕ
fuse_count f = f.count

-- The number of the call that fails, counted from 1.
unfoldable pub fuse_call : {S : Type 0} → FuseStorage S → ℕ
fuse_call f = f.n

-- The number of calls that the wrapper itself has failed.
unfoldable pub fuse_faults : {S : Type 0} → FuseStorage S → ℕ
fuse_faults f = f.faults

-- The number of changes that the wrapper itself has refused.
unfoldable pub fuse_refusals : {S : Type 0} → FuseStorage S → ℕ
fuse_refusals f = f.refusals

-- The state of a `FuseStorage`, from that of the inner storage.
unfoldable pub fuse_state : {S : Type 0} → (S → StorageState) → FuseStorage S → StorageState
fuse_state state f = record {
  shape = (state f.inner).shape;
  bytes = (state f.inner).bytes;
  faults = (state f.inner).faults + f.faults;
  refusals = (state f.inner).refusals + f.refusals;
  crash_image = (state f.inner).crash_image;
  past_crash_images = (state f.inner).past_crash_images;
}

-- The alignments are those of the inner storage.
pub fuse_aligned : {S : Type 0} (state : S → StorageState) → ((s : S) → IsAligned (state s).shape) → (f : FuseStorage S)
    → IsAligned (fuse_state state f).shape
unfolding fuse_state
fuse_aligned state aligned f = aligned f.inner

-- The storage exposes its crash images if the inner storage does.
pub fuse_tells : {S : Type 0} (state : S → StorageState) → ((s : S) → IsTrue (state s).shape.tells) → (f : FuseStorage S)
    → IsTrue (fuse_state state f).shape.tells
unfolding fuse_state
fuse_tells state tells f = tells f.inner

-- A counted call. The call with the number `fuse_call` fails, and isn't passed on. The wrapper itself fails and refuses no other call.
pub record Counted {S T : Type 0} (old new : FuseStorage S) (result : Result T Fault) : Type 0 where
  pub count : fuse_count new ≡ min (fuse_count old + 1) (2 ^ 64 - 1)
  pub call : fuse_call new ≡ fuse_call old
  pub fails : fuse_count old + 1 ≡ fuse_call old → IsErrOf result Storage × (fuse_inner new ≡ fuse_inner old)
  pub passes : fuse_count old + 1 ≢ fuse_call old → (fuse_faults new ≡ fuse_faults old) × (fuse_refusals new ≡ fuse_refusals old)

-- A call that isn't counted, and that the wrapper itself doesn't fail.
pub record Uncounted {S : Type 0} (old new : FuseStorage S) : Type 0 where
  pub count : fuse_count new ≡ fuse_count old
  pub call : fuse_call new ≡ fuse_call old
  pub faults : fuse_faults new ≡ fuse_faults old
  pub refusals : fuse_refusals new ≡ fuse_refusals old
