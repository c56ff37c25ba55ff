-- Specifies the operations of a least-recently-used cache, over its list of entries, the most recently used first.
use Rattle.std.specs.Prelude.{◌≡◌, ℕ, ◌==◌, ◌<◌, ◌≤◌, Bool, true, false, not, ◌&&◌, if◌then◌else◌, List, [], ◌∷◌, ◌++◌, Option, Some, None, IsSome, ◌⊎◌, Result, Ok, Err, nat_lt, length}
use Rattle.std.specs.Option.{option_map_or}
use Rattle.std.specs.List.{filter}
use Rattle.std.specs.Map.{lookup, lookup_entry, remove_entry, set_value}
use Rattle.lru.specs.LruCache.{lru_cache}
use Rattle.imago_storage.specs.declared.fault.Fault.{Fault}
use Rattle.imago_storage.specs.declared.fault.Fault.TheVariants.{CacheFull, Memory, Storage}
use Rattle.qcow2_alloc.specs.declared.async_lru_cache.Admission.{Admission}
use Rattle.qcow2_alloc.specs.declared.async_lru_cache.Admission.TheVariants.{Granted, Denied}
use Rattle.qcow2_alloc.specs.declared.async_lru_cache.Slot.{Slot}
use Rattle.qcow2_alloc.specs.declared.async_lru_cache.AsyncLruCache.{AsyncLruCache}

module _ {K V : Type 0} where
  -- The key of the last entry that isn't pinned, or else `found`.
  abbrev pub victim_from : Option K → List (K × Slot V) → Option K
  victim_from found [] = found
  victim_from found (e ∷ es) = victim_from (if e.1.pins == 0 then Some e.0 else found) es

  -- The key of the least recently used entry that isn't pinned.
  abbrev pub victim : List (K × Slot V) → Option K
  victim = victim_from None

  -- An entry with another value.
  abbrev pub with_value : K × Slot V → V → K × Slot V
  with_value e w = (e.0, record e.1 { value = w })

  -- The entries after a use of the one with a matching key: it comes first, with the value w.
  abbrev pub hit : (K → Bool) → List (K × Slot V) → V → List (K × Slot V)
  hit test es w = option_map_or (λ e. with_value e w ∷ remove_entry test es) (lookup_entry test es) es

-- The cache with other entries.
abbrev pub with_entries : {K V B D : Type 0} → AsyncLruCache K V B D → List (K × Slot V) → AsyncLruCache K V B D
with_entries c es = record c { slots = lru_cache es c.slots.cap }

-- A kind of cache: the equality of its keys, the loads and flushes of its values, and its capacity.
pub record CacheKind (K V D : Type 0) : Type 1 where
  pub eq : K → K → Bool
  pub loads : D → K → Result V Fault → D → Type 0
  pub flushes : D → K → V → Result Unit Fault → D → V → Type 0
  pub cap : ℕ

abbrev pub cache_kind : {K V D : Type 0} → (K → K → Bool) → (D → K → Result V Fault → D → Type 0)
    → (D → K → V → Result Unit Fault → D → V → Type 0) → ℕ → CacheKind K V D
cache_kind eq loads flushes cap = record { eq = eq; loads = loads; flushes = flushes; cap = cap }

module _ {K V D : Type 0} (eq : K → K → Bool) (flushes : D → K → V → Result Unit Fault → D → V → Type 0) where
  -- The value at a key is flushed, and its entry stays.
  pub record FlushedAt (key : K) (before : D) (es : List (K × Slot V)) (result : Result Unit Fault) (after : D)
      (es' : List (K × Slot V)) : Type 0 where
    pub slot : Slot V
    pub value : V
    pub slot_found : lookup (eq key) es ≡ Some slot
    pub flush : flushes before key slot.value result after value
    pub entries : es' ≡ set_value (eq key) es (record slot { value = value })

  -- The entry at a key is flushed and removed. If the flush fails, it stays.
  abbrev pub Evicted : K → D → List (K × Slot V) → Result Admission Fault → D → List (K × Slot V) → Type 0
  Evicted key before es (Ok made) after es' = (made ≡ Granted) × (mid : List (K × Slot V)) × FlushedAt key before es (Ok tt) after mid
      × (es' ≡ remove_entry (eq key) es)
  Evicted key before es (Err fault) after es' = FlushedAt key before es (Err fault) after es'

-- Space is made for one more entry.
pub record MadeRoom {K V D : Type 0} (kind : CacheKind K V D) (may_flush : Bool) (before : D) (es : List (K × Slot V))
    (result : Result Admission Fault) (after : D) (es' : List (K × Slot V)) : Type 0 where
  pub roomy : length es < kind.cap → (result ≡ Ok Granted) × (after ≡ before) × (es' ≡ es)
  pub full : kind.cap ≤ length es → may_flush ≡ false → (result ≡ Ok Denied) × (after ≡ before) × (es' ≡ es)
  pub pinned : kind.cap ≤ length es → may_flush ≡ true → victim es ≡ None
      → (result ≡ Err CacheFull) × (after ≡ before) × (es' ≡ es)
  pub evicted : kind.cap ≤ length es → may_flush ≡ true → (key : K) → victim es ≡ Some key
      → Evicted kind.eq kind.flushes key before es result after es'

module _ {K V D : Type 0} (loads : D → K → Result V Fault → D → Type 0) where
  -- A value is loaded and becomes the first entry. If the load fails or memory runs out, the entries stay the same.
  abbrev pub Loaded : K → D → List (K × Slot V) → Result Admission Fault → D → List (K × Slot V) → Type 0
  Loaded key before es (Ok made) after es' = (made ≡ Granted) × (value : V) × loads before key (Ok value) after
      × (es' ≡ (key, record { value = value; pins = 0 }) ∷ es)
  Loaded key before es (Err fault) after es' = (es' ≡ es)
      × (loads before key (Err fault) after ⊎ ((fault ≡ Memory) × (value : V) × loads before key (Ok value) after))

  -- The rest of a load, after space was requested.
  abbrev pub LoadedAfter : K → D → List (K × Slot V) → Result Admission Fault → Result Admission Fault → D → List (K × Slot V) → Type 0
  LoadedAfter key mid es (Ok Granted) result after es' = Loaded key mid es result after es'
  LoadedAfter key mid es (Ok Denied) result after es' = (result ≡ Ok Denied) × (after ≡ mid) × (es' ≡ es)
  LoadedAfter key mid es (Err fault) result after es' = (result ≡ Err fault) × (after ≡ mid) × (es' ≡ es)

-- An entry is found or loaded.
module _ {K V D : Type 0} (kind : CacheKind K V D) where
  pub record Missed (may_flush : Bool) (key : K) (before : D) (es : List (K × Slot V)) (result : Result Admission Fault) (after : D)
      (es' : List (K × Slot V)) : Type 0 where
    pub room : Result Admission Fault
    pub mid : D
    pub entries : List (K × Slot V)
    pub made : MadeRoom kind may_flush before es room mid entries
    pub loaded : LoadedAfter kind.loads key mid entries room result after es'

  pub record Readied (may_flush : Bool) (key : K) (before : D) (es : List (K × Slot V)) (result : Result Admission Fault) (after : D)
      (es' : List (K × Slot V)) : Type 0 where
    -- If the entry is already cached, the device isn't used.
    pub found : IsSome (lookup (kind.eq key) es) → (result ≡ Ok Granted) × (after ≡ before) × (es' ≡ es)
    pub missed : lookup (kind.eq key) es ≡ None → Missed may_flush key before es result after es'
    -- If the result is `Granted`, the entry is cached.
    pub granted_is_cached : result ≡ Ok Granted → IsSome (lookup (kind.eq key) es')

-- A value is put at a key, over another value.
module _ {K V D : Type 0} (eq : K → K → Bool) (flushes : D → K → V → Result Unit Fault → D → V → Type 0) where
  abbrev pub Overwritten : K × V → D → List (K × Slot V) → Result (Option V) (Fault × V) → D → List (K × Slot V) → Type 0
  Overwritten entry before es (Ok back) after es' = (back ≡ None) × (mid : List (K × Slot V))
      × FlushedAt eq flushes entry.0 before es (Ok tt) after mid × (es' ≡ hit (eq entry.0) mid entry.1)
  Overwritten entry before es (Err refused) after es' = (refused.1 ≡ entry.1)
      × FlushedAt eq flushes entry.0 before es (Err refused.0) after es'

-- The rest of a put, after space was requested.
abbrev pub PutAfter : {K V : Type 0} → K × V → List (K × Slot V) → Result Admission Fault → Result (Option V) (Fault × V)
    → List (K × Slot V) → Type 0
PutAfter entry es (Ok Granted) result es' = ((result ≡ Ok None) × (es' ≡ (entry.0, record { value = entry.1; pins = 0 }) ∷ es))
    ⊎ ((result ≡ Err (Memory, entry.1)) × (es' ≡ es))
PutAfter entry es (Ok Denied) result es' = (result ≡ Ok (Some entry.1)) × (es' ≡ es)
PutAfter entry es (Err fault) result es' = (result ≡ Err (fault, entry.1)) × (es' ≡ es)

-- A value is put at a new key.
module _ {K V D : Type 0} (kind : CacheKind K V D) where
  pub record Added (may_flush : Bool) (entry : K × V) (before : D) (es : List (K × Slot V)) (result : Result (Option V) (Fault × V))
      (after : D) (es' : List (K × Slot V)) : Type 0 where
    pub room : Result Admission Fault
    pub entries : List (K × Slot V)
    pub made : MadeRoom kind may_flush before es room after entries
    pub put : PutAfter entry entries room result es'

  pub record Inserted (may_flush : Bool) (entry : K × V) (before : D) (es : List (K × Slot V)) (result : Result (Option V) (Fault × V))
      (after : D) (es' : List (K × Slot V)) : Type 0 where
    pub fresh : lookup (kind.eq entry.0) es ≡ None → Added may_flush entry before es result after es'
    pub barred : IsSome (lookup (kind.eq entry.0) es) → may_flush ≡ false → (result ≡ Ok (Some entry.1)) × (after ≡ before) × (es' ≡ es)
    pub over : IsSome (lookup (kind.eq entry.0) es) → may_flush ≡ true
        → Overwritten kind.eq kind.flushes entry before es result after es'

-- The fault of a result, if any.
abbrev pub fault_of : {T : Type 0} → Result T Fault → Option Fault
fault_of (Ok value) = None
fault_of (Err fault) = Some fault

-- The fault is neither `Memory` nor `Storage`.
abbrev pub is_not_resource_error : Fault → Bool
is_not_resource_error Memory = false
is_not_resource_error Storage = false
is_not_resource_error fault = true

-- The fault to report after one more result: the latest one. But a resource error isn't replaced by a fault of another kind.
abbrev pub latest : Option Fault → Result Unit Fault → Option Fault
latest first (Ok done) = first
latest None (Err fault) = Some fault
latest (Some earlier) (Err fault) = Some (if not (is_not_resource_error earlier) && is_not_resource_error fault then earlier else fault)

module _ {K V D : Type 0} (flushes : D → K → V → Result Unit Fault → D → V → Type 0) where
  -- The last value is flushed, and its entry becomes the first.
  pub record FlushedLast (before : D) (es : List (K × Slot V)) (result : Result Unit Fault) (after : D)
      (es' : List (K × Slot V)) : Type 0 where
    pub front : List (K × Slot V)
    pub last : K × Slot V
    pub value : V
    pub split : es ≡ front ++ last ∷ []
    pub flush : flushes before last.0 last.1.value result after value
    pub entries : es' ≡ with_value last value ∷ front

  -- Each value is flushed, from the last entry to the first.
  abbrev pub FlushedEach : D → List (K × Slot V) → Option Fault → D → List (K × Slot V) → Type 0
  FlushedEach before [] outcome after es' = (outcome ≡ None) × (after ≡ before) × (es' ≡ [])
  FlushedEach before (e ∷ es) outcome after es' = (mid : D) × (first : Option Fault) × (rest : List (K × Slot V))
      × FlushedEach before es first mid rest
      × (result : Result Unit Fault) × (value : V) × flushes mid e.0 e.1.value result after value × (outcome ≡ latest first result)
      × (es' ≡ with_value e value ∷ rest)

-- The entries that are pinned.
abbrev pub kept_pinned : {K V : Type 0} → List (K × Slot V) → List (K × Slot V)
kept_pinned = filter (λ e. nat_lt 0 e.1.pins)

-- The last entry is dropped. If it is pinned, it becomes the first instead.
pub record DroppedLast {K V : Type 0} (es es' : List (K × Slot V)) : Type 0 where
  pub front : List (K × Slot V)
  pub last : K × Slot V
  pub split : es ≡ front ++ last ∷ []
  pub entries : es' ≡ kept_pinned (last ∷ []) ++ front
