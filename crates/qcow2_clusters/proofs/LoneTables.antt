-- The result of searching an L2 table with empty caches, and of using the table.
use Rattle.std.proofs.Common.{eq-eqb, ◌≡◌, ℕ, refl, arith, ap, sym, subst, ◌∙◌, List, [], ◌∷◌, length, Some, None, Result, Ok, Err, inl, inr}
use Rattle.std.specs.Prelude.{map, nat_eq, nat_lt}
use Rattle.std.specs.List.{AllByRecursion}
use Rattle.std.specs.Option.{option_map}
use Rattle.std.specs.Map.{lookup}
use Rattle.std.proofs.lemmas.Bool.{cases_Bool}
use Rattle.imago_storage.specs.State.{StorageState}
use Rattle.imago_storage.specs.Calls.{UnchangedButFaults}
use Rattle.imago_storage.specs.declared.fault.Fault.{Fault}
use Rattle.qcow2_types.specs.Bytes.{bytes_of}
use Rattle.qcow2_types.specs.Header.{entries_of_cluster}
use Rattle.qcow2_metadata.specs.Tables.{TableValue, table_in}
use Rattle.qcow2_alloc.specs.declared.async_lru_cache.Slot.{Slot}
use Rattle.qcow2_alloc.specs.declared.cache.MetadataCaches.{MetadataCaches}
use Rattle.qcow2_alloc.specs.declared.file.ImageFile.{ImageFile}
use Rattle.qcow2_alloc.specs.Allocators.{UsesTable}
use Rattle.qcow2_alloc.specs.Cache.{hit}
use Rattle.qcow2_alloc.specs.Caches.{cached_in, cached_file}
use Rattle.qcow2_alloc.specs.CachesLending.{with_tables}
use Rattle.qcow2_alloc.specs.Finding.{IsPinnedFull, TableFound, with_room}
use Rattle.qcow2_alloc.specs.Memory.{Cached, written_block, written_table}
use Rattle.qcow2_alloc.specs.WellFormedness.{AreBlocksClean, AreTablesClean}
use Rattle.qcow2_clusters.specs.Flushed.{AreEmpty, HasEntries, nothing_cached}
use Rattle.qcow2_clusters.specs.WritingBack.{AreUnpinned}

-- A single cache entry.
pub lone-hit : {V : Type 0} (key : ℕ) (s : Slot V) (w : V) → hit (nat_eq key) ((key, s) ∷ []) w ≡ (key, record s { value = w }) ∷ []
lone-hit key s w = rw (eq-eqb key key refl) refl

pub lone-value : {V : Type 0} (key : ℕ) (s : Slot V) (v : V) → option_map (λ x. x.value) (lookup (nat_eq key) ((key, s) ∷ [])) ≡ Some v → v ≡ s.value
lone-value key s v there = let is : Some s.value ≡ Some v = rw (eq-eqb key key refl) at there in cc is

-- Only an empty list is mapped to an empty list.
none-of : {X Y : Type 0} (f : X → Y) (xs : List X) → map f xs ≡ [] → xs ≡ []
none-of f [] same = refl
none-of f (x ∷ xs) same = absurd (cc same)

-- Empty caches evict nothing.
room-of-none : {V : Type 0} (n : ℕ) → with_room {V = V} n [] ≡ []
room-of-none n = elim (cases_Bool (nat_lt 0 n)) [
  | inl t ↦ rw t refl
  | inr t ↦ rw t refl
]

-- The only cached table.
abbrev pub lone_table : ℕ → TableValue → Cached
lone_table key table = record { tables = (key, record { value = table; pins = 0 }) ∷ []; blocks = [] }

module _ {S : Type 0} (state : S → StorageState) (key : ℕ) (old : MetadataCaches S) (before : ImageFile S) (rest : AreEmpty old) where
  none-cached : (cached_in old).tables ≡ []
  none-cached = ap (λ (c : Cached). c.tables) rest

  none-blocks : (cached_in old).blocks ≡ []
  none-blocks = ap (λ (c : Cached). c.blocks) rest

  nothing-waits : AreTablesClean (cached_in old) × AreBlocksClean (cached_in old)
  nothing-waits = subst (λ (c : Cached). AreTablesClean c × AreBlocksClean c) (sym rest) (tt, tt)

  pub never-full : HasEntries old → IsPinnedFull old.l2.slots.cap (cached_in old).tables → ⊥
  never-full room full = let some = room.tables in let most = full.full in let none = ap (λ (c : Cached). length c.tables) rest in omega (arith, some, most, none)

  module _ (answer : Result Unit Fault) (new : MetadataCaches S) (after : ImageFile S) (found : TableFound state key old before answer new after) where
    -- Nothing is written.
    pub only-read : UnchangedButFaults (state before.image) (state after.image)
    only-read = (found.has_no_dirty_data nothing-waits.0 nothing-waits.1).0

    blocks-still : (cached_in new).blocks ≡ []
    blocks-still = none-of written_block (cached_in new).blocks (found.other_unchanged ∙ ap (map written_block) none-blocks)

  -- Only the table is cached.
  pub found-alone : (new : MetadataCaches S) (after : ImageFile S) → TableFound state key old before (Ok tt) new after
      → cached_in new ≡ lone_table key (table_in (bytes_of (state after.image).bytes) before.header.fields key (entries_of_cluster before.header.fields))
  found-alone new after found =
      let none : lookup (nat_eq key) (cached_in old).tables ≡ None = ap (λ (c : Cached). lookup (nat_eq key) c.tables) rest in
      let loaded = found.sought.loaded none in
      let blocks = blocks-still (Ok tt) new after found in
      let room = ap (with_room old.l2.slots.cap) none-cached ∙ room-of-none old.l2.slots.cap in
      let table : TableValue = table_in (bytes_of (state after.image).bytes) before.header.fields key (entries_of_cluster before.header.fields) in
      let tables : (cached_in new).tables ≡ (key, record { value = table; pins = 0 }) ∷ [] = loaded ∙ ap (λ es. (key, record { value = table; pins = 0 }) ∷ es) room in
      ap (λ es. record { tables = es; blocks = (cached_in new).blocks }) tables
      ∙ ap (λ es. record { tables = (key, record { value = table; pins = 0 }) ∷ []; blocks = es }) blocks

  -- The search fails, and nothing is cached.
  pub refused-empty : (fault : Fault) (new : MetadataCaches S) (after : ImageFile S) → TableFound state key old before (Err fault) new after → AreEmpty new
  refused-empty fault new after found =
      let blocks = blocks-still (Err fault) new after found in
      let tables : (cached_in new).tables ≡ [] = elim found.sought.refused [
        | inl same ↦ none-of written_table (cached_in new).tables (same ∙ ap (map written_table) none-cached)
        | inr room ↦ room ∙ ap (with_room old.l2.slots.cap) none-cached ∙ room-of-none old.l2.slots.cap
      ] in
      ap (λ es. record { tables = es; blocks = (cached_in new).blocks }) tables ∙ ap (λ es. record { tables = []; blocks = es }) blocks

  -- The table is the file's.
  pub used-read : (mid : MetadataCaches S) (after : ImageFile S) → TableFound state key old before (Ok tt) mid after → (table : TableValue)
      → option_map (λ s. s.value) (lookup (nat_eq key) (cached_in mid).tables) ≡ Some table
      → table ≡ table_in (bytes_of (state after.image).bytes) before.header.fields key (entries_of_cluster before.header.fields)
  used-read mid after found table there =
      lone-value key _ table (subst (λ (c : Cached). option_map (λ s. s.value) (lookup (nat_eq key) c.tables) ≡ Some table) (found-alone mid after found) there)

  -- After its use only the table is cached, with its last value.
  pub used-alone : (mid : MetadataCaches S) (after : ImageFile S) (table : TableValue) (new : MetadataCaches S) → TableFound state key old before (Ok tt) mid after
      → new ≡ with_tables mid (hit (nat_eq key) (cached_in mid).tables table) → cached_in new ≡ lone_table key table
  used-alone mid after table new found left =
      let alone = found-alone mid after found in
      ap cached_in left
      ∙ ap (λ (c : Cached). record { tables = hit (nat_eq key) c.tables table; blocks = c.blocks }) alone
      ∙ ap (λ es. record { tables = es; blocks = [] }) (lone-hit key _ table)

  -- Nothing is pinned.
  unpinned-as : (new : MetadataCaches S) (c : Cached) → cached_in new ≡ c
      → AllByRecursion (λ e. e.1.pins ≡ 0) c.tables × AllByRecursion (λ e. e.1.pins ≡ 0) c.blocks → AreUnpinned new
  unpinned-as new c is loose =
      let there = subst (λ (k : Cached). AllByRecursion (λ e. e.1.pins ≡ 0) k.tables × AllByRecursion (λ e. e.1.pins ≡ 0) k.blocks) (sym is) loose in
      record { tables = there.0; blocks = there.1 }

  pub used-unpinned : {T : Type 0} (does : TableValue → Result T Fault → TableValue → Type 0) (result : Result T Fault) (new : MetadataCaches S)
      (after : ImageFile S) → UsesTable state key does (cached_file old before) result (cached_file new after) → AreUnpinned new
  used-unpinned does result new after (inl r) = unpinned-as new nothing_cached (refused-empty r.0 new after r.2) (tt, tt)
  used-unpinned does result new after (inr u) =
      unpinned-as new (lone_table key u.value') (used-alone u.mid after u.value' new u.found u.left) ((refl, tt), tt)

  -- No other table is cached.
  pub used-keys : {T : Type 0} (does : TableValue → Result T Fault → TableValue → Type 0) (result : Result T Fault) (new : MetadataCaches S)
      (after : ImageFile S) → UsesTable state key does (cached_file old before) result (cached_file new after)
      → AllByRecursion (λ e. e.0 ≡ key) (cached_in new).tables
  used-keys does result new after (inl r) =
      subst (λ (c : Cached). AllByRecursion (λ e. e.0 ≡ key) c.tables) (sym (refused-empty r.0 new after r.2)) tt
  used-keys does result new after (inr u) =
      subst (λ (c : Cached). AllByRecursion (λ e. e.0 ≡ key) c.tables) (sym (used-alone u.mid after u.value' new u.found u.left)) (refl, tt)

  -- After a successful use exactly one table is cached.
  pub used-one : {T : Type 0} (does : TableValue → Result T Fault → TableValue → Type 0) (v : T) (new : MetadataCaches S) (after : ImageFile S)
      → UsesTable state key does (cached_file old before) (Ok v) (cached_file new after) → length (cached_in new).tables ≡ 1
  used-one does v new after (inl r) = absurd (let bad : Ok v ≡ Err r.0 = r.1 in cc)
  used-one does v new after (inr u) = ap (λ (c : Cached). length c.tables) (used-alone u.mid after u.value' new u.found u.left)
