-- Specifies how the entries of a cache that aren't pinned are dropped, without writing them.
use Rattle.std.specs.Prelude.{◌≡◌, [], OnOk, IfErr, List, Result, ℕ}
use Rattle.imago_storage.specs.declared.fault.Fault.{Fault}
use Rattle.imago_storage.specs.declared.fault.Fault.TheVariants.{CacheFull}
use Rattle.qcow2_types.specs.Bytes.{Bytes}
use Rattle.qcow2_types.specs.Header.{Header}
use Rattle.qcow2_alloc.specs.declared.async_lru_cache.Slot.{Slot}
use Rattle.qcow2_alloc.specs.declared.cache.CacheDependency.{CacheDependency}
use Rattle.qcow2_alloc.specs.Cache.{kept_pinned}
use Rattle.qcow2_alloc.specs.Memory.{Cached, memory}
use Rattle.qcow2_alloc.specs.WellFormedness.{WellFormed}

-- The entries that are left, and the result.
pub record Dropped {V : Type 0} (es : List (ℕ × Slot V)) (result : Result Unit Fault) (es' : List (ℕ × Slot V)) : Type 0 where
  pub keeps_pinned : es' ≡ kept_pinned es
  pub ok : OnOk result (kept_pinned es ≡ [])
  pub err : IfErr result (λ fault. (fault ≡ CacheFull) × (kept_pinned es ≡ [] → ⊥))

-- Well-formed caches stay well-formed, and the image in memory is the same.
pub record StaysWellFormed (old new : Cached) (order : CacheDependency) : Type 0 where
  pub well_formed : (f : Bytes) (H : Header) → WellFormed f H old order → WellFormed f H new order
  pub memory_same : (f : Bytes) (H : Header) → memory f H.fields new ≡ memory f H.fields old
