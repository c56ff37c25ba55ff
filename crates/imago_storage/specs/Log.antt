-- The state of a `LogStorage` (the wrapper that logs changes). A crash image is the bytes at the time of `new` with the first requests of
-- the log applied.
use Rattle.std.specs.Prelude.{◌≡◌, ◌⊎◌, ℕ, ◌+◌, ◌-◌, List, [], ◌∷◌, ◌++◌, length, take, drop, replicate, slice_get, true, refl, Option, Some, IsTrue, IfErr, Result, MatchResult}
use Rattle.imago_storage.specs.State.{StorageState, HasRisen, CrashImageIsBytes, IsAligned}
use Rattle.imago_storage.specs.declared.fault.Fault.{Fault}
use Rattle.imago_storage.specs.declared.fault.Fault.TheVariants.{Memory, Storage}
use Rattle.imago_storage.specs.declared.log.Request.{Request}
use Rattle.imago_storage.specs.declared.log.Request.TheVariants.{Write, Zeroes, Resize}
use Rattle.imago_storage.specs.declared.log.LogStorage.{LogStorage}

-- The file with `bytes` written at `at`. A gap before them is 0.
unfoldable pub splice : List ℕ → ℕ → List ℕ → List ℕ
splice file at bytes = (take at file ++ replicate (at - length file) 0) ++ (bytes ++ drop (at + length bytes) file)

-- The file truncated, or extended with zeroes.
unfoldable pub resized : List ℕ → ℕ → List ℕ
resized file n = take n file ++ replicate (n - length file) 0

-- The file after a request.
abbrev pub apply : Request → List ℕ → List ℕ
apply (Write offset bytes) file = splice file offset bytes.items
apply (Zeroes offset n) file = splice file offset (replicate n 0)
apply (Resize n) file = resized file n

-- The file after all requests.
abbrev pub replay : List ℕ → List Request → List ℕ
replay file [] = file
replay file (request ∷ requests) = replay (apply request file) requests

-- The file before each request, the newest first.
abbrev pub files_before : List ℕ → List Request → List (List ℕ)
files_before file [] = []
files_before file (request ∷ requests) = files_before (apply request file) requests ++ file ∷ []

-- The state of the inner storage, with the crash images of the log, and with the log's refused changes added.
abbrev pub logged : List ℕ → List Request → ℕ → StorageState → StorageState
logged base requests refusals s = record {
  shape = record s.shape { tells = true };
  bytes = s.bytes;
  faults = s.faults;
  refusals = s.refusals + refusals;
  crash_image = replay base requests;
  past_crash_images = files_before base requests;
}

-- The bytes at the time of `new`.
unfoldable pub log_base : {S : Type 0} → LogStorage S → List ℕ
log_base log = log.base.items

-- The requests that succeeded, the oldest first.
unfoldable pub log_requests : {S : Type 0} → LogStorage S → List Request
log_requests log = log.requests.items

-- The inner storage.
unfoldable pub log_inner : {S : Type 0} → LogStorage S → S
log_inner log = log.inner

-- The state of a `LogStorage`, from that of the inner storage.
unfoldable pub log_state : {S : Type 0} → (S → StorageState) → LogStorage S → StorageState
log_state state log = logged log.base.items log.requests.items log.refusals (state log.inner)

-- The alignments are those of the inner storage.
pub log_aligned : {S : Type 0} (state : S → StorageState) → ((s : S) → IsAligned (state s).shape) → (log : LogStorage S)
    → IsAligned (log_state state log).shape
unfolding log_state
log_aligned state aligned log =
    let inner = aligned log.inner in
    record { memory = inner.memory; requests = inner.requests; zeroes = inner.zeroes; discards = inner.discards }

-- A log exposes its crash images.
pub log_tells : {S : Type 0} (state : S → StorageState) (log : LogStorage S) → IsTrue (log_state state log).shape.tells
unfolding log_state
log_tells state log = refl

-- The state, with crash images exposed from now on.
abbrev pub telling : StorageState → StorageState
telling s = record s { shape = record s.shape { tells = true }; crash_image = s.bytes; past_crash_images = [] }

-- `file` is the crash image `back` requests before the last.
abbrev pub IsStop : StorageState → ℕ → List ℕ → Type 0
IsStop s back file = slice_get (s.crash_image ∷ s.past_crash_images) back ≡ Some file

-- While no change was refused, the current crash image equals the bytes.
abbrev pub ShowsBytes : StorageState → List ℕ → Type 0
ShowsBytes s file = CrashImageIsBytes s → IsTrue s.shape.keeps → file ≡ s.bytes

-- The errors of `new`: memory ran out, or the storage failed.
abbrev pub NotLogged : Fault → Type 0
NotLogged Memory = Unit
NotLogged Storage = Unit
NotLogged fault = ⊥

-- The log is unchanged.
pub record SameLog {S : Type 0} (old new : LogStorage S) : Type 0 where
  pub base : log_base new ≡ log_base old
  pub requests : log_requests new ≡ log_requests old

-- The request is a write of `bytes` at `offset`.
abbrev pub IsWrite : ℕ → List ℕ → Request → Type 0
IsWrite offset bytes (Write at copy) = (at ≡ offset) × (copy.items ≡ bytes)
IsWrite offset bytes request = ⊥

-- A change through a log. `IsSo` holds for its request. If it succeeds, the request is appended. If it fails, the log is unchanged. Then
-- either the inner storage has counted a refused change, or nothing has changed except the log's own count of refused changes.
pub record Noted {S T : Type 0} (state : S → StorageState) (IsSo : Request → Type 0) (old new : LogStorage S)
    (result : Result T Fault) : Type 0 where
  pub base : log_base new ≡ log_base old
  pub requests :
      MatchResult result (λ _. (request : Request) × IsSo request × (log_requests new ≡ log_requests old ++ request ∷ []))
      (λ _. log_requests new ≡ log_requests old)
  pub refused :
      IfErr result (λ _.
      HasRisen (state (log_inner old)).refusals (state (log_inner new)).refusals ⊎
      (log_state state new ≡ record (log_state state old) { refusals = (log_state state new).refusals }))
