-- Writing cached entries never makes the file shorter.
use Rattle.std.proofs.Common.{◌≡◌, ℕ, ◌*◌, ◌^◌, refl, arith, ap, List, length, Option, Some, None, Result, Ok, Err, inl, inr}
use Rattle.std.specs.Prelude.{◌⊎◌, IsErr, MatchOption, MatchResult, nat_eq}
use Rattle.std.specs.Map.{lookup}
use Rattle.std.proofs.lemmas.Bool.{cases_Bool, cases_lt}
use Rattle.imago_storage.specs.State.{StorageState, unit_of}
use Rattle.imago_storage.specs.Calls.{UnchangedButFaults}
use Rattle.imago_storage.specs.Through.{WriteOutcome}
use Rattle.imago_storage.specs.declared.fault.Fault.{Fault}
use Rattle.imago_storage.proofs.Composing.{through_longer}
use Rattle.qcow2_types.specs.TableBytes.{table_bytes}
use Rattle.qcow2_types.specs.Words.{max_offset}
use Rattle.qcow2_metadata.specs.Blocks.{Block}
use Rattle.qcow2_metadata.specs.Tables.{TableValue}
use Rattle.qcow2_alloc.specs.declared.async_lru_cache.Slot.{Slot}
use Rattle.qcow2_alloc.specs.declared.cache.CacheDependency.{CacheDependency}
use Rattle.qcow2_alloc.specs.declared.cache.CacheDependency.TheVariants.{L2DependsOnRb, RbDependsOnL2}
use Rattle.qcow2_alloc.specs.declared.cache.MetadataCaches.{MetadataCaches}
use Rattle.qcow2_alloc.specs.declared.file.ImageFile.{ImageFile}
use Rattle.qcow2_alloc.specs.Allocators.{UsesBlock}
use Rattle.qcow2_alloc.specs.Backends.{BlockFlushed, Flushed, TableFlushed, WrittenKind, written_blocks, written_tables}
use Rattle.qcow2_alloc.specs.Cache.{FlushedAt, fault_of, victim}
use Rattle.qcow2_alloc.specs.CachedKinds.{block_entries}
use Rattle.qcow2_alloc.specs.Caches.{cached_file, cached_in, order_of}
use Rattle.qcow2_alloc.specs.Finding.{BlockFound, LetsEntryIn, LetsIn}
use Rattle.qcow2_alloc.specs.Going.{Behind, CachedStep, InTurn, IsNoShorter, WritesBlocks, WritesTables}
use Rattle.qcow2_alloc.specs.Memory.{Cached}
use Rattle.qcow2_alloc.proofs.Caching.Admission.{is-order}
use Rattle.qcow2_alloc.proofs.Caching.EntryLoads.{is-there}
use Rattle.qcow2_alloc.proofs.Flushing.Turns.{each-related}

pub same-long : (old new : StorageState) → new ≡ old → IsNoShorter old new
same-long old new same = let stays = ap (λ (s : StorageState). length s.bytes) same in omega (arith, stays)

pub kept-long : (old new : StorageState) → UnchangedButFaults old new → IsNoShorter old new
kept-long old new kept = let stays = ap (λ (l : List ℕ). length l) kept.bytes in omega (arith, stays)

pub put-long : (old new : StorageState) (at : ℕ) (bytes : List ℕ) (result : Result Unit Fault) → WriteOutcome old new at bytes result → IsNoShorter old new
put-long old new at bytes (Ok done) put = through_longer (unit_of old.shape) old new at bytes put.answer
put-long old new at bytes (Err fault) put = put.answer.no_shorter

-- One entry is flushed.
module _ {V : Type 0} (kind : WrittenKind V)
    (puts : (v : V) (place : ℕ) (old new : StorageState) (result : Result Unit Fault) → kind.Puts v place old new result → IsNoShorter old new) where
  entry-long : (old : StorageState) (key : ℕ) (v : V) (result : Result Unit Fault) (new : StorageState) (v' : V)
      → Flushed kind old key v result new v' → IsNoShorter old new
  entry-long old key v result new v' flushed = elim (cases_Bool (kind.modified v)) [
    | inr clean ↦ same-long old new (flushed.clean clean).1
    | inl modified ↦ elim (cases_lt max_offset (key * 2 ^ kind.cluster_bits v)) [
      | inl far ↦ same-long old new (flushed.out modified (λ reach. omega (arith, far, reach))).1
      | inr reach ↦ puts v (key * 2 ^ kind.cluster_bits v) old new result (flushed.written modified reach)
    ]
  ]

table-long : (old : StorageState) (key : ℕ) (table : TableValue) (result : Result Unit Fault) (new : StorageState) (table' : TableValue)
    → TableFlushed old key table result new table' → IsNoShorter old new
table-long = entry-long written_tables (λ t place old new result once. put-long old new place (table_bytes t.raw_entries) result once.put)

block-long : (old : StorageState) (key : ℕ) (block : Block) (result : Result Unit Fault) (new : StorageState) (block' : Block)
    → BlockFlushed old key block result new block' → IsNoShorter old new
block-long = entry-long written_blocks (λ b place old new result put. put-long old new place put.bytes result put.put.put)

-- All entries are flushed.
abbrev IsLong : CachedStep → Type 0
IsLong Does = (old : StorageState) (cached : Cached) (result : Result Unit Fault) (new : StorageState) (cached' : Cached)
    → Does old cached result new cached' → IsNoShorter old new

tables-long : IsLong WritesTables
tables-long old cached result new cached' writes =
    each-related TableFlushed IsNoShorter (λ s. omega arith) (λ a b c first second. omega (arith, first, second)) table-long
    old cached.tables (fault_of result) new cached'.tables writes.1

blocks-long : IsLong WritesBlocks
blocks-long old cached result new cached' writes =
    each-related BlockFlushed IsNoShorter (λ s. omega arith) (λ a b c first second. omega (arith, first, second)) block-long
    old cached.blocks (fault_of result) new cached'.blocks writes.1

in-turn-long : (First Second : CachedStep) → IsLong First → IsLong Second → IsLong (InTurn First Second)
in-turn-long First Second one two old cached result new cached' turn =
    let first = one old cached turn.answer turn.mid turn.between turn.first in
    let second = by-answer turn.answer turn.halted turn.second in
    omega (arith, first, second)
  where
    by-answer : (answer : Result Unit Fault) → (IsErr answer → (result ≡ answer) × (new ≡ turn.mid) × (cached' ≡ turn.between))
        → (answer ≡ Ok tt → Second turn.mid turn.between result new cached') → IsNoShorter turn.mid new
    by-answer (Ok done) halted second = two turn.mid turn.between result new cached' (second refl)
    by-answer (Err fault) halted second = same-long turn.mid new (halted refl).1

behind-long : (comes_first : Type 0) → comes_first ⊎ (comes_first → ⊥) → (First Done : CachedStep) → IsLong First → IsLong Done
    → IsLong (Behind comes_first First Done)
behind-long comes_first way First Done one two old cached result new cached' behind = elim way [
  | inl first ↦ in-turn-long First Done one two old cached result new cached' (behind.in_turn first)
  | inr apart ↦ two old cached result new cached' (behind.alone apart)
]

-- Both caches are flushed, in the set order.
pub all-long : (order : CacheDependency) (old : StorageState) (cached : Cached) (result : Result Unit Fault) (new : StorageState)
    (cached' : Cached) → (order ≡ L2DependsOnRb → InTurn WritesBlocks WritesTables old cached result new cached')
    → ((order ≡ L2DependsOnRb → ⊥) → InTurn WritesTables WritesBlocks old cached result new cached') → IsNoShorter old new
all-long order old cached result new cached' blocks_first tables_first = elim (is-order order L2DependsOnRb) [
  | inl is ↦ in-turn-long WritesBlocks WritesTables blocks-long tables-long old cached result new cached' (blocks_first is)
  | inr apart ↦ in-turn-long WritesTables WritesBlocks tables-long blocks-long old cached result new cached' (tables_first apart)
]

-- Blocks are flushed, if the order demands that they come first.
pub announced-long : (order : CacheDependency) (old : StorageState) (cached : Cached) (result : Result Unit Fault) (new : StorageState)
    (cached' : Cached) → ((order ≡ L2DependsOnRb → ⊥) → new ≡ old)
    → (order ≡ L2DependsOnRb → WritesBlocks old cached result new cached') → IsNoShorter old new
announced-long order old cached result new cached' idle written = elim (is-order order L2DependsOnRb) [
  | inl is ↦ blocks-long old cached result new cached' (written is)
  | inr apart ↦ same-long old new (idle apart)
]

-- A block is let into a full cache.
module _ (old : StorageState) (es : List (ℕ × Slot Block)) (result : Result Unit Fault) (new : StorageState) (es' : List (ℕ × Slot Block)) where
  -- The outcome after the flush of the evicted entry.
  abbrev IsDone : StorageState → Result Unit Fault → List (ℕ × Slot Block) → Type 0
  IsDone mid answer flushed = MatchResult answer (λ _. UnchangedButFaults mid new) (λ fault. (result ≡ Err fault) × (new ≡ mid) × (es' ≡ flushed))

  done-long : (mid : StorageState) (answer : Result Unit Fault) (flushed : List (ℕ × Slot Block)) → IsDone mid answer flushed → IsNoShorter mid new
  done-long mid (Ok done) flushed kept = kept-long mid new kept
  done-long mid (Err fault) flushed halted = same-long mid new halted.1

  goes-long : (key : ℕ) → ((mid : StorageState) × (answer : Result Unit Fault) × (flushed : List (ℕ × Slot Block))
      × FlushedAt nat_eq BlockFlushed key old es answer mid flushed × IsDone mid answer flushed) → IsNoShorter old new
  goes-long key (mid, answer, flushed, at, rest) =
      let first = block-long old key at.slot.value answer mid at.value at.flush in
      let second = done-long mid answer flushed rest in
      omega (arith, first, second)

  let-in : LetsIn BlockFlushed old es result new es' → IsNoShorter old new
  let-in lets = by-victim (victim es) refl
    where
      by-victim : (o : Option ℕ) → victim es ≡ o → IsNoShorter old new
      by-victim None none = same-long old new (lets.stuck none).1
      by-victim (Some key) is = goes-long key (lets.goes key is)

module _ {S : Type 0} (state : S → StorageState) where
  block-let-in : IsLong (LetsEntryIn (block_entries state))
  block-let-in old cached result new cached' (same, lets) = let-in old cached.blocks result new cached'.blocks lets

  pub found-long : (key : ℕ) (old : MetadataCaches S) (before : ImageFile S) (result : Result Unit Fault) (new : MetadataCaches S)
      (after : ImageFile S) → BlockFound state key old before result new after → IsNoShorter (state before.image) (state after.image)
  found-long key old before result new after found = elim (is-there (lookup (nat_eq key) (cached_in old).blocks)) [
    | inl there ↦ same-long (state before.image) (state after.image) (ap (λ (f : ImageFile S). state f.image) (found.hit there).2)
    | inr none ↦ elim (cases_lt (length (cached_in old).blocks) old.rb.slots.cap) [
      | inl roomy ↦ kept-long (state before.image) (state after.image) (found.roomy roomy).0
      | inr full ↦ behind-long (order_of old ≡ RbDependsOnL2) (is-order (order_of old) RbDependsOnL2) WritesTables (LetsEntryIn (block_entries state)) tables-long block-let-in
          (state before.image) (cached_in old) result (state after.image) (cached_in new) (found.evicts_when_full none full)
    ]
  ]

  -- A block is used, if the refcount table references one.
  module _ {T : Type 0} (does : Block → Result T Fault → Block → Type 0) (old : MetadataCaches S) (before : ImageFile S) (result : Result T Fault)
      (new : MetadataCaches S) (after : ImageFile S) where
    pub named-long : (o : Option ℕ) (Refused : Type 0)
        → MatchOption o (Refused × (new ≡ old) × (after ≡ before)) (λ key. UsesBlock state key does (cached_file old before) result (cached_file new after))
        → IsNoShorter (state before.image) (state after.image)
    named-long None Refused refused = same-long (state before.image) (state after.image) (ap (λ (f : ImageFile S). state f.image) refused.2)
    named-long (Some key) Refused (inl (fault, is, found)) = found-long key old before (Err fault) new after found
    named-long (Some key) Refused (inr used) = found-long key old before (Ok tt) used.mid after used.found
