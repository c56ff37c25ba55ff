-- The requests that a search makes, in a full cache and in a cache without dirty entries.
use Rattle.std.proofs.Common.{◌≡◌, ℕ, ◌≤◌, refl, ap, sym, subst, ◌∙◌, List, [], ◌∷◌, length, Option, None, Result, Ok, Err, Bool, true, false, inl, inr}
use Rattle.std.specs.Prelude.{◌⊎◌, nat_eq, MatchResult}
use Rattle.std.specs.List.{AllByRecursion}
use Rattle.std.specs.Map.{lookup}
use Rattle.imago_storage.specs.State.{StorageState}
use Rattle.imago_storage.specs.Calls.{UnchangedButFaults}
use Rattle.imago_storage.specs.declared.fault.Fault.{Fault}
use Rattle.imago_storage.specs.declared.fault.Fault.TheVariants.{CacheFull}
use Rattle.qcow2_alloc.specs.declared.async_lru_cache.Admission.{Admission}
use Rattle.qcow2_alloc.specs.declared.async_lru_cache.Admission.TheVariants.{Granted, Denied}
use Rattle.qcow2_alloc.specs.declared.async_lru_cache.Slot.{Slot}
use Rattle.qcow2_alloc.specs.declared.cache.CacheDependency.{CacheDependency}
use Rattle.qcow2_alloc.specs.declared.cache.CacheDependency.TheVariants.{Unset, L2DependsOnRb, RbDependsOnL2}
use Rattle.qcow2_alloc.specs.Backends.{TableFlushed, BlockFlushed}
use Rattle.qcow2_alloc.specs.Cache.{cache_kind, FlushedAt, Evicted, MadeRoom, Loaded, LoadedAfter, Readied, FlushedEach, fault_of, latest, with_value}
use Rattle.qcow2_alloc.specs.Finding.{LetsIn}
use Rattle.qcow2_alloc.specs.Going.{CachedStep, WritesTables, WritesBlocks, Behind}
use Rattle.qcow2_alloc.specs.Memory.{Cached}
use Rattle.qcow2_alloc.specs.WellFormedness.{AreTablesClean, AreBlocksClean}
use Rattle.qcow2_alloc.proofs.Flushing.WriteSequences.{kept-same}
use Rattle.qcow2_alloc.proofs.Caching.EntryLoads.{is-there}
use Rattle.qcow2_alloc.proofs.Caching.Rooms.{room-way}
use Rattle.qcow2_alloc.proofs.Caching.SearchOutcomes.{done_of, all-at, all-removed}

-- Flushing clean entries makes no request.
module _ {V : Type 0} (flushes : StorageState → ℕ → V → Result Unit Fault → StorageState → V → Type 0) (modified : V → Bool)
    (clean : (a b : StorageState) (key : ℕ) (v v' : V) (r : Result Unit Fault) → flushes a key v r b v' → modified v ≡ false → (r ≡ Ok tt) × (b ≡ a) × (v' ≡ v)) where
  flushed-none : (es : List (ℕ × Slot V)) (a b : StorageState) (outcome : Option Fault) (es' : List (ℕ × Slot V)) → FlushedEach flushes a es outcome b es' → AllByRecursion (λ e. modified e.1.value ≡ false) es → (outcome ≡ None) × (b ≡ a) × (es' ≡ es)
  flushed-none [] a b outcome es' did all = (did.0, did.1, did.2)
  flushed-none (e ∷ es) a b outcome es' (mid, first, rest, before, r, v, flush, is, left) all =
      let earlier = flushed-none es a mid first rest before all.1 in
      let one = clean mid b e.0 e.1.value v r flush all.0 in (
        is ∙ ap (latest first) one.0 ∙ earlier.0,
        one.1 ∙ earlier.1,
        left ∙ ap (λ x. with_value e x ∷ rest) one.2 ∙ ap (λ xs. with_value e e.1.value ∷ xs) earlier.2,
      )

pub is-order : (a b : CacheDependency) → (a ≡ b) ⊎ (a ≡ b → ⊥)
is-order Unset Unset = inl refl
is-order L2DependsOnRb L2DependsOnRb = inl refl
is-order RbDependsOnL2 RbDependsOnL2 = inl refl
is-order a b = inr (λ no. cc)

answered : (r : Result Unit Fault) → fault_of r ≡ None → r ≡ Ok tt
answered (Ok done) is = refl
answered (Err fault) is = absurd (cc)

pub tables-none : (a b : StorageState) (c c' : Cached) (result : Result Unit Fault) → WritesTables a c result b c' → AreTablesClean c → (result ≡ Ok tt) × (b ≡ a) × (c' ≡ c)
tables-none a b c c' result did all =
    let none = flushed-none TableFlushed (λ t. t.modified) (λ a b key v v' r f off. f.clean off) c.tables a b (fault_of result) c'.tables did.1 all in
    (answered result none.0, none.1, ap (λ x. record { tables = x; blocks = c'.blocks }) none.2 ∙ ap (λ x. record { tables = c.tables; blocks = x }) did.0)

pub blocks-none : (a b : StorageState) (c c' : Cached) (result : Result Unit Fault) → WritesBlocks a c result b c' → AreBlocksClean c → (result ≡ Ok tt) × (b ≡ a) × (c' ≡ c)
blocks-none a b c c' result did all =
    let none = flushed-none BlockFlushed (λ t. t.modified) (λ a b key v v' r f off. f.clean off) c.blocks a b (fault_of result) c'.blocks did.1 all in
    (answered result none.0, none.1, ap (λ x. record { tables = c'.tables; blocks = x }) none.2 ∙ ap (λ x. record { tables = x; blocks = c.blocks }) did.0)

module _ {V D : Type 0} (state : D → StorageState) (loads : D → ℕ → Result V Fault → D → Type 0) (flushes : D → ℕ → V → Result Unit Fault → D → V → Type 0)
    (loading : (old new : D) (key : ℕ) (answer : Result V Fault) → loads old key answer new → UnchangedButFaults (state old) (state new)) where
  loaded-kept : (key : ℕ) (mid : D) (entries : List (ℕ × Slot V)) (result : Result Admission Fault) (after : D) (es' : List (ℕ × Slot V)) → Loaded loads key mid entries result after es' → UnchangedButFaults (state mid) (state after)
  loaded-kept key mid entries (Ok made) after es' (is, value, load, list) = loading mid after key (Ok value) load
  loaded-kept key mid entries (Err fault) after es' (same, why) = elim why [ inl load ↦ loading mid after key (Err fault) load | inr short ↦ loading mid after key (Ok short.1) short.2 ]

  -- Without permission to flush, nothing is loaded into a full cache.
  pub never-now : (cap key : ℕ) (before : D) (es : List (ℕ × Slot V)) (result : Result Admission Fault) (after : D) (es' : List (ℕ × Slot V)) → lookup (nat_eq key) es ≡ None → cap ≤ length es
      → Readied (cache_kind nat_eq loads flushes cap) false key before es result after es' → result ≡ Ok Denied
  never-now cap key before es result after es' none full r =
      let m = r.missed none in
      let later : (result ≡ Ok Denied) × (after ≡ m.mid) × (es' ≡ m.entries) = subst (λ (q : Result Admission Fault). LoadedAfter loads key m.mid m.entries q result after es') (m.made.full full refl).0 m.loaded in
      later.0

  -- With permission, the evicted entry is flushed before it is removed.
  module _ (asks : StorageState → ℕ → V → Result Unit Fault → StorageState → V → Type 0)
      (asked : (old new : D) (key : ℕ) (value value' : V) (answer : Result Unit Fault) → flushes old key value answer new value' → asks (state old) key value answer (state new) value') where
    flushed-so : (key : ℕ) (before : D) (es : List (ℕ × Slot V)) (answer : Result Unit Fault) (after : D) (es' : List (ℕ × Slot V)) → FlushedAt nat_eq flushes key before es answer after es'
        → FlushedAt nat_eq asks key (state before) es answer (state after) es'
    flushed-so key before es answer after es' at = record { slot = at.slot; value = at.value; slot_found = at.slot_found; flush = asked before after key at.slot.value at.value answer at.flush; entries = at.entries }

    pub lets-in : (cap key : ℕ) (before : D) (es : List (ℕ × Slot V)) (result : Result Admission Fault) (after : D) (es' : List (ℕ × Slot V)) → lookup (nat_eq key) es ≡ None → cap ≤ length es
        → Readied (cache_kind nat_eq loads flushes cap) true key before es result after es' → LetsIn asks (state before) es (done_of result) (state after) es'
    lets-in cap key before es result after es' none full r =
        let m = r.missed none in record {
          stuck = λ no. no-room m.room m.mid m.entries (m.made.pinned full refl no) m.loaded;
          goes = λ k is. by-room k m.room m.mid m.entries (m.made.evicted full refl k is) m.loaded;
        }
      where
        no-room : (room : Result Admission Fault) (mid : D) (entries : List (ℕ × Slot V)) → (room ≡ Err CacheFull) × (mid ≡ before) × (entries ≡ es) → LoadedAfter loads key mid entries room result after es'
            → (done_of result ≡ Err CacheFull) × (state after ≡ state before) × (es' ≡ es)
        no-room room mid entries (is, same, list) later =
            let l : (result ≡ Err CacheFull) × (after ≡ mid) × (es' ≡ entries) = subst (λ (q : Result Admission Fault). LoadedAfter loads key mid entries q result after es') is later in
            (ap done_of l.0, ap state (l.1 ∙ same), l.2 ∙ list)

        by-room : (k : ℕ) (room : Result Admission Fault) (mid : D) (entries : List (ℕ × Slot V)) → Evicted nat_eq flushes k before es room mid entries → LoadedAfter loads key mid entries room result after es'
            → (between : StorageState) × (answer : Result Unit Fault) × (flushed : List (ℕ × Slot V)) × FlushedAt nat_eq asks k (state before) es answer between flushed
            × MatchResult answer (λ _. UnchangedButFaults between (state after)) (λ fault. (done_of result ≡ Err fault) × (state after ≡ between) × (es' ≡ flushed))
        by-room k (Ok Granted) mid entries (is, flushed, at, removed) later = (state mid, Ok tt, flushed, flushed-so k before es (Ok tt) mid flushed at, loaded-kept key mid entries result after es' later)
        by-room k (Ok Denied) mid entries (is, flushed, at, removed) later = absurd (cc)
        by-room k (Err fault) mid entries at later = (state mid, Err fault, entries, flushed-so k before es (Err fault) mid entries at, (ap done_of later.0, ap state later.1, later.2))

  -- If flushes make no request, nothing is written, and the entries stay clean.
  module _ (Clean : V → Type 0) (comes : (old new : D) (key : ℕ) (value : V) → loads old key (Ok value) new → Clean value)
      (flushing : (old new : D) (key : ℕ) (value value' : V) (answer : Result Unit Fault) → Clean value → flushes old key value answer new value' → (answer ≡ Ok tt) × (state new ≡ state old) × (value' ≡ value)) where
    abbrev AreClean : List (ℕ × Slot V) → Type 0
    AreClean es = AllByRecursion (λ (e : ℕ × Slot V). Clean e.1.value) es

    loaded-clean : (key : ℕ) (mid : D) (entries : List (ℕ × Slot V)) (result : Result Admission Fault) (after : D) (es' : List (ℕ × Slot V)) → Loaded loads key mid entries result after es' → AreClean entries → AreClean es'
    loaded-clean key mid entries (Ok made) after es' (is, value, load, list) all = subst AreClean (sym list) (comes mid after key value load, all)
    loaded-clean key mid entries (Err fault) after es' (same, why) all = subst AreClean (sym same) all

    evicted-still : (k : ℕ) (before : D) (es : List (ℕ × Slot V)) (room : Result Admission Fault) (mid : D) (entries : List (ℕ × Slot V)) → Evicted nat_eq flushes k before es room mid entries → AreClean es
        → (state mid ≡ state before) × AreClean entries
    evicted-still k before es (Ok made) mid entries (is, flushed, at, removed) all =
        let clean = all-at (λ (e : ℕ × Slot V). Clean e.1.value) k es at.slot at.slot_found all in
        let f = flushing before mid k at.slot.value at.value (Ok tt) clean at.flush in
        (f.1, subst AreClean (sym removed) (all-removed (λ (e : ℕ × Slot V). Clean e.1.value) (nat_eq k) es all))
    evicted-still k before es (Err fault) mid entries at all =
        let clean = all-at (λ (e : ℕ × Slot V). Clean e.1.value) k es at.slot at.slot_found all in
        let f = flushing before mid k at.slot.value at.value (Err fault) clean at.flush in
        absurd (let no = f.0 in cc)

    room-still : (cap : ℕ) (may_flush : Bool) (before : D) (es : List (ℕ × Slot V)) (room : Result Admission Fault) (mid : D) (entries : List (ℕ × Slot V)) → MadeRoom (cache_kind nat_eq loads flushes cap) may_flush before es room mid entries → AreClean es
        → (state mid ≡ state before) × AreClean entries
    room-still cap may_flush before es room mid entries made all = elim (room-way (cache_kind nat_eq loads flushes cap) may_flush before es room mid entries made) [
      | inl same ↦ (ap state same.device, subst AreClean (sym same.entries) all)
      | inr gone ↦ evicted-still gone.key before es room mid entries gone.evicted all
    ]

    pub readied-still : (cap : ℕ) (may_flush : Bool) (key : ℕ) (before : D) (es : List (ℕ × Slot V)) (result : Result Admission Fault) (after : D) (es' : List (ℕ × Slot V)) → Readied (cache_kind nat_eq loads flushes cap) may_flush key before es result after es'
        → AreClean es → UnchangedButFaults (state before) (state after) × AreClean es'
    readied-still cap may_flush key before es result after es' r all = elim (is-there (lookup (nat_eq key) es)) [
      | inl there ↦ let f = r.found there in (subst (λ (d : D). UnchangedButFaults (state before) (state d)) (sym f.1) (kept-same (state before)), subst AreClean (sym f.2) all)
      | inr none ↦ let m = r.missed none in let room = room-still cap may_flush before es m.room m.mid m.entries m.made all in by-room m.room m.mid m.entries room.0 room.1 m.loaded
    ]
      where
        asked-none : (mid : D) (entries : List (ℕ × Slot V)) → state mid ≡ state before → AreClean entries → after ≡ mid → es' ≡ entries → UnchangedButFaults (state before) (state after) × AreClean es'
        asked-none mid entries same clean is list = (subst (λ (s : StorageState). UnchangedButFaults (state before) s) (sym (ap state is ∙ same)) (kept-same (state before)), subst AreClean (sym list) clean)

        by-room : (room : Result Admission Fault) (mid : D) (entries : List (ℕ × Slot V)) → state mid ≡ state before → AreClean entries → LoadedAfter loads key mid entries room result after es' → UnchangedButFaults (state before) (state after) × AreClean es'
        by-room (Ok Granted) mid entries same clean later =
            (subst (λ (s : StorageState). UnchangedButFaults s (state after)) same (loaded-kept key mid entries result after es' later), loaded-clean key mid entries result after es' later clean)
        by-room (Ok Denied) mid entries same clean later = asked-none mid entries same clean later.1 later.2
        by-room (Err fault) mid entries same clean later = asked-none mid entries same clean later.1 later.2

-- If the cache that must be written first is clean, that write does nothing.
module _ (order : CacheDependency) (a b : StorageState) (c c' : Cached) (answer : Result Unit Fault) where
  abbrev NothingDone : Type 0
  NothingDone = (answer ≡ Ok tt) × (b ≡ a) × (c' ≡ c)

  pub blocks-idle : ((order ≡ L2DependsOnRb → ⊥) → NothingDone) → (order ≡ L2DependsOnRb → WritesBlocks a c answer b c') → AreBlocksClean c → NothingDone
  blocks-idle idle did clean = elim (is-order order L2DependsOnRb) [ inl is ↦ blocks-none a b c c' answer (did is) clean | inr other ↦ idle other ]

  pub tables-idle : ((order ≡ RbDependsOnL2 → ⊥) → NothingDone) → (order ≡ RbDependsOnL2 → WritesTables a c answer b c') → AreTablesClean c → NothingDone
  tables-idle idle did clean = elim (is-order order RbDependsOnL2) [ inl is ↦ tables-none a b c c' answer (did is) clean | inr other ↦ idle other ]

  pub tables-still : ((order ≡ RbDependsOnL2 → ⊥) → NothingDone) → (order ≡ RbDependsOnL2 → WritesTables a c answer b c') → AreTablesClean c → AreBlocksClean c → UnchangedButFaults a b × AreTablesClean c' × AreBlocksClean c'
  tables-still idle did tables blocks = let none = tables-idle idle did tables in
      (subst (λ (s : StorageState). UnchangedButFaults a s) (sym none.1) (kept-same a), subst AreTablesClean (sym none.2) tables, subst AreBlocksClean (sym none.2) blocks)

-- The first step succeeds, and the second is done.
pub behind-done : (comes_first : Type 0) (First Done : CachedStep) (a b d : StorageState) (c e c' : Cached) (result : Result Unit Fault)
    → ((comes_first → ⊥) → (b ≡ a) × (e ≡ c)) → (comes_first → First a c (Ok tt) b e) → Done b e result d c' → Behind comes_first First Done a c result d c'
behind-done comes_first First Done a b d c e c' result idle did done = record {
  alone = λ no. let i = idle no in subst (λ (s : StorageState). Done s c result d c') i.0 (subst (λ (x : Cached). Done b x result d c') i.1 done);
  in_turn = λ is. record { mid = b; between = e; answer = Ok tt; first = did is; halted = λ no. absurd (cc); second = λ ok. done };
}

-- The first step fails.
pub behind-refused : (comes_first : Type 0) (First Done : CachedStep) (a b : StorageState) (c e : Cached) (fault : Fault)
    → ((comes_first → ⊥) → ⊥) → (comes_first → First a c (Err fault) b e) → Behind comes_first First Done a c (Err fault) b e
behind-refused comes_first First Done a b c e fault never did = record {
  alone = λ no. absurd (never no);
  in_turn = λ is. record { mid = b; between = e; answer = Err fault; first = did is; halted = λ no. (refl, refl, refl); second = λ ok. absurd (cc) };
}
