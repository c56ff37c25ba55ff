-- The state by which contracts describe a storage: its bytes, its fixed properties, its counts of faults and its crash images.
use Rattle.std.specs.Prelude.{◌≡◌, ℕ, ◌+◌, ◌^◌, ◌%◌, ◌<◌, ◌≤◌, max, Bool, List, Option, IsTrue}

-- The properties of a storage that never change.
pub record Shape : Type 0 where
  -- Written bytes can be read back.
  pub keeps : Bool
  -- The storage exposes its crash images.
  pub tells : Bool
  pub mem_align : ℕ
  pub req_align : ℕ
  pub zero_align : ℕ
  pub discard_align : ℕ
  pub filename : Option (List ℕ)

-- The state of a storage at one moment.
pub record StorageState : Type 0 where
  pub shape : Shape
  pub bytes : List ℕ
  -- The counts of failed requests, and of refused changes (writes, discards and resizes that failed with `Memory` or `Storage`).
  pub faults : ℕ
  pub refusals : ℕ
  -- The file that a crash leaves now, and those from before each request, the newest first. They only have a meaning if the storage exposes
  -- its crash images.
  pub crash_image : List ℕ
  pub past_crash_images : List (List ℕ)

-- `n` is a power of two of at most 2 ^ 20.
pub record IsAlignment (n : ℕ) : Type 0 where
  pub positive : 0 < n
  pub small : n ≤ 2 ^ 20
  pub divides : 2 ^ 20 % n ≡ 0

-- All alignments of the storage are valid.
pub record IsAligned (shape : Shape) : Type 0 where
  pub memory : IsAlignment shape.mem_align
  pub requests : IsAlignment shape.req_align
  pub zeroes : IsAlignment shape.zero_align
  pub discards : IsAlignment shape.discard_align

-- The unit of requests.
abbrev pub unit_of : Shape → ℕ
unit_of shape = max shape.req_align shape.mem_align

-- A range of whole units whose end fits 64 bits.
pub record IsUnitRange (unit at n : ℕ) : Type 0 where
  pub start : at % unit ≡ 0
  pub size : n % unit ≡ 0
  pub fits : at + n < 2 ^ 64

-- A saturating count has risen. At the greatest `u64` it counts as risen even if it is equal.
pub record HasRisen (before after : ℕ) : Type 0 where
  pub not_fallen : before ≤ after
  pub rose : after + 1 < 2 ^ 64 → before < after

-- If the storage exposes its crash images and keeps what is written, a crash now leaves the current bytes.
abbrev pub CrashImageIsBytes : StorageState → Type 0
CrashImageIsBytes s = IsTrue s.shape.tells → IsTrue s.shape.keeps → s.crash_image ≡ s.bytes

-- No request of a storage of this type ever fails.
abbrev pub NeverFails : {S : Type 0} → (S → StorageState) → Type 0
NeverFails {S} state = (s : S) → (state s).faults ≡ 0

-- A storage of this type may fail.
abbrev pub MayFail : {S : Type 0} → (S → StorageState) → Type 0
MayFail state = NeverFails state → ⊥
