-- Specifies references to a value in a cache: the state of the cache after the reference has ended.
use Rattle.std.specs.Prelude.{◌≡◌, Bool, List, Option, Some, Result, Ok, Err, IfOk}
use Rattle.std.specs.Option.{option_map}
use Rattle.std.specs.Map.{lookup}
use Rattle.std.specs.Borrow.{Fml, RattleType, MutBor, LendsSo, LendsSoOk}
use Rattle.imago_storage.specs.declared.fault.Fault.{Fault}
use Rattle.std.specs.HashMap.Lent.{HashMembers}
use Rattle.qcow2_alloc.specs.declared.async_lru_cache.Admission.{Admission}
use Rattle.qcow2_alloc.specs.declared.async_lru_cache.Admission.TheVariants.{Granted, Denied}
use Rattle.qcow2_alloc.specs.Cache.{CacheKind, hit, with_entries, Readied}
use Rattle.qcow2_alloc.specs.declared.async_lru_cache.NotLent.{NotLent}
use Rattle.qcow2_alloc.specs.declared.async_lru_cache.NotLent.TheVariants.{Full, Refused}
use Rattle.qcow2_alloc.specs.declared.async_lru_cache.Slot.{Slot}
use Rattle.qcow2_alloc.specs.declared.async_lru_cache.AsyncLruCache.{AsyncLruCache}
use Rattle.qcow2_alloc.specs.contracts.async_lru_cache.AsyncLruCache.{the_row}

-- The result of the lookup.
abbrev pub answer_of : {V : Type 0} → Result V NotLent → Result Admission Fault
answer_of (Ok v) = Ok Granted
answer_of (Err Full) = Ok Denied
answer_of (Err (Refused fault)) = Err fault

-- The types of a cache, as the logic has them, and the laws of its keys.
pub record CacheTypes : Type 1 where
  pub K : RattleType
  pub V : RattleType
  pub B : RattleType
  pub D : RattleType
  pub members : HashMembers K.Denot

abbrev pub cache_types : (K V B D : RattleType) → HashMembers K.Denot → CacheTypes
cache_types K V B D members = record { K = K; V = V; B = B; D = D; members = members }

module _ (types : CacheTypes) where
  -- The type of the cache.
  abbrev pub cache_row : RattleType
  cache_row = the_row types.K types.V types.B types.D (record {}) (record { eq = types.members.eq })
      (record { hash_input = types.members.hash_input })

  -- A cache of these types.
  abbrev pub CacheOf : Type 0
  CacheOf = AsyncLruCache types.K.Denot types.V.Denot types.B.Denot types.D.Denot

  -- The entry at the key becomes the first, with the last value that is written through r. If the result is `None`, the cache is unchanged.
  abbrev pub lends_value : MutBor CacheOf → types.K.Denot → Option (MutBor types.V.Denot) → Fml
  lends_value c k r = LendsSo cache_row types.V c r
      (λ n w. n ≡ with_entries c.now (hit (types.members.eq k) c.now.slots.entries w)) (λ n. n ≡ c.now)

  -- The entry at the key is found or loaded, and r has its value. It becomes the first, with the last value that is written through r.
  abbrev pub lends_found : CacheKind types.K.Denot types.V.Denot types.D.Denot → MutBor CacheOf → types.D.Denot → types.D.Denot
      → types.K.Denot → Bool → Result (MutBor types.V.Denot) NotLent → Fml
  lends_found kind c before after k may_flush r = LendsSoOk cache_row types.V c r
      (λ n w. (mid : List (types.K.Denot × Slot types.V.Denot))
      × Readied kind may_flush k before c.now.slots.entries (Ok Granted) after mid
      × IfOk r (λ v. option_map (λ s. s.value) (lookup (kind.eq k) mid) ≡ Some v.now)
      × (n ≡ with_entries c.now (hit (kind.eq k) mid w)))
      (λ n. Readied kind may_flush k before c.now.slots.entries (answer_of r) after n.slots.entries
      × (n ≡ with_entries c.now n.slots.entries))
