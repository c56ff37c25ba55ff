-- Freeing the entries of the free list.
use Rattle.std.proofs.Common.{◌≡◌, ◌≢◌, ℕ, ◌*◌, ◌^◌, ◌<◌, ◌≤◌, refl, arith, ap, sym, subst, ◌∙◌, List, length, Result, Ok, Err, true, inl, inr, Bool, ◌/◌, ◌%◌}
use Rattle.std.specs.Prelude.{◌⊎◌, IsTrue, min}
use Rattle.std.proofs.lemmas.List.{length-set}
use Rattle.std.proofs.lemmas.Bool.{cases_eq, cases_lt}
use Rattle.std.proofs.Math.Nat.{mul-le-mul, div-le_self}
use Rattle.imago_storage.specs.State.{StorageState}
use Rattle.imago_storage.specs.declared.fault.Fault.{Fault}
use Rattle.imago_storage.specs.declared.fault.Fault.TheVariants.{DamagedTable}
use Rattle.qcow2_types.specs.Header.{cluster_size, refcount_table_entries}
use Rattle.qcow2_types.specs.Counts.{counter_bits, counters_of_block}
use Rattle.qcow2_types.specs.Pending.{FreeEntry}
use Rattle.qcow2_types.proofs.Fields.HeaderLimits.{header-limited, greatest-cluster, least-width}
use Rattle.qcow2_types.proofs.Counting.Counters.{some-counters}
use Rattle.qcow2_types.proofs.Counting.Leaks.{count-beyond}
use Rattle.qcow2_metadata.specs.Tables.{TableValue}
use Rattle.qcow2_alloc.specs.declared.cache.CacheDependency.{CacheDependency}
use Rattle.qcow2_alloc.specs.declared.cache.MetadataCaches.{MetadataCaches}
use Rattle.qcow2_alloc.specs.declared.file.ImageFile.{ImageFile}
use Rattle.qcow2_alloc.specs.Allocators.{metadata_of, DecrementsCluster, referenced_block, DecrementsCounter}
use Rattle.qcow2_alloc.specs.Caches.{cached_in, order_of, cached_file}
use Rattle.qcow2_alloc.specs.Freeing.{IsUnbarred, Frees, MayFree, NoErrorOrNoChangeRefused, freeing_causes, counting_causes}
use Rattle.qcow2_alloc.specs.FreeList.{entry_at, shorter, shortened, listed}
use Rattle.qcow2_alloc.specs.Going.{HadNoResourceError}
use Rattle.qcow2_alloc.specs.GuestView.{Metadata, IsSound, GuestUnchanged, counted, in_memory, waiting, waiting_metadata, metadata_in}
use Rattle.qcow2_alloc.specs.State.{AllocatorState, image_state, metadata, with_first_free}
use Rattle.qcow2_alloc.proofs.Causes.{Implies, fails-weaker}
use Rattle.qcow2_alloc.proofs.Flushing.FaultlessCalls.{faultless-then, named-faultless}
use Rattle.qcow2_alloc.proofs.Freeing.ClusterFrees.{LosesOne, left, cluster-freed, freeing-caused, counts-stay, freeing-stays}
use Rattle.qcow2_alloc.proofs.Freeing.ShorterLists.{last, last-off, metadata-less, metadata-last, entry-shortened}
use Rattle.qcow2_alloc.proofs.Caching.FileLengths.{named-long}
use Rattle.qcow2_alloc.proofs.Caching.UnpinnedCaches.{spare-on}
use Rattle.qcow2_alloc.proofs.Memory.Patches.{shaped-in}
use Rattle.qcow2_alloc.proofs.Caching.Pins.{pins-none, pins-then}
use Rattle.qcow2_alloc.proofs.GuestView.QuietCounters.{here-one}
use Rattle.qcow2_alloc.proofs.GuestView.QuietFlushes.{quiet-none, memory-quietly}
use Rattle.qcow2_alloc.proofs.GuestView.QuietSequences.{calm-behind, calmly-then}
use Rattle.qcow2_alloc.proofs.GuestView.QuietEntries.{metadata-remove}
use Rattle.qcow2_alloc.proofs.Freeing.ClusterOccurrences.{listed-remove, covers-none}
use Rattle.imago_storage.proofs.Composing.{keeps_on}
use Rattle.std.specs.List.{remove}
use Rattle.std.proofs.lemmas.List.Edits.{length-remove}

far-uncounted : (m : Metadata) → IsSound m → (c : ℕ) → 2 ^ 64 ≤ c → counted m c ≡ 0
far-uncounted m sound c far =
    let loads = sound.well_formed.consistent.readable.loads in
    let limited = header-limited true m.file m.header loads in
    let size = greatest-cluster true m.file m.header loads in
    let width = least-width true m.file m.header loads in
    let some = some-counters m.header.fields (shaped-in m.file m.header sound.well_formed.consistent) in
    let few : counters_of_block m.header.fields ≤ 2 ^ 24 = (let le = div-le_self (cluster_size m.header.fields * 8) (counter_bits m.header.fields) in omega (arith, le, size)) in
    let both : refcount_table_entries m.header.fields * counters_of_block m.header.fields ≤ 2 ^ 20 * 2 ^ 24 = mul-le-mul limited.refcount_entries few in
    count-beyond (in_memory m) m.header.fields c some (omega (arith, both, far))

-- The free list may be replaced by one with the same clusters.
waits-quiet : (m : Metadata) (es : List FreeEntry) → IsSound m → ((d : ℕ) → listed es d ≡ waiting m d) → ((d : ℕ) → listed (metadata_in es) d ≤ waiting_metadata m d) → IsSound (record m { pending = es }) × GuestUnchanged (λ _. 0) (λ _. 0) m (record m { pending = es })
waits-quiet m es sound same less =
    let guest_unchanged = quiet-none m sound in (
      record {
        well_formed = sound.well_formed;
        table = sound.table;
        covered = λ c. let was = sound.covered c in let is = same c in omega (arith, was, is);
        not_referenced = λ c some. let le = less c in sound.not_referenced c (omega (arith, some, le));
      },
      record { shows = guest_unchanged.shows; raw_entries = guest_unchanged.raw_entries; used_bytes_unchanged = guest_unchanged.used_bytes_unchanged; apart = guest_unchanged.apart; waits = λ c used none. let is = same c in omega (arith, is); law = λ c. let is = same c in omega (arith, is) },
    )

module _ {S : Type 0} (state : S → StorageState) (table : TableValue) (es : List FreeEntry) (i : ℕ) (inside : i < length es) (some : 0 < (entry_at es i).count) where
  abbrev c : ℕ
  c = last es i inside some

  loses : (old : MetadataCaches S) → MayFree (order_of old) (entry_at es i) → LosesOne state table c es (shortened es i 1) old
  loses old may = record { one = last-off es i inside some; metadata = metadata-less es i inside some; may = elim may [ inl kind ↦ inr (metadata-last es i inside some kind) | inr order ↦ inl order ] }

  waits : 0 < listed es c
  waits = let off = last-off es i inside some c in let one = here-one c in omega (arith, off, one)

  less : (result : Result Unit Fault) (d : ℕ) → listed (left state table c es (shortened es i 1) result) d ≤ listed es d
  less (Ok done) d = let off = last-off es i inside some d in omega (arith, off)
  less (Err fault) d = omega arith

  fewer : (result : Result Unit Fault) → length (left state table c es (shortened es i 1) result) ≤ length es
  fewer (Ok done) = let same = length-set es i (shorter (entry_at es i) 1) in omega (arith, same)
  fewer (Err fault) = omega arith

  -- The first-free hint after the call.
  abbrev pub moved : ℕ → Result Unit Fault → ℕ
  moved mark (Ok done) = min mark c
  moved mark (Err fault) = mark

  falls : (mark : ℕ) (result : Result Unit Fault) → moved mark result ≤ mark
  falls mark (Ok done) = omega arith
  falls mark (Err fault) = omega arith

  fell : (mark : ℕ) (result : Result Unit Fault) → (moved mark result ≡ mark) ⊎ (listed (left state table c es (shortened es i 1) result) (moved mark result) < listed es (moved mark result))
  fell mark (Ok done) = elim (cases_lt c mark) [
    | inl lower ↦
        let at : min mark c ≡ c = omega (arith, lower) in
        let off = last-off es i inside some c in
        let one = here-one c in
        inr (subst (λ n. listed (shortened es i 1) n < listed es n) (sym at) (omega (arith, off, one)))
    | inr above ↦ inl (omega (arith, above))
  ]
  fell mark (Err fault) = inl refl

  pub last-freed : (old : MetadataCaches S) (before : ImageFile S) (mark : ℕ) (result : Result Unit Fault) (new : MetadataCaches S) (after : ImageFile S) → MayFree (order_of old) (entry_at es i) → DecrementsCluster state table c (cached_file old before) result (cached_file new after)
      → Frees state (with_first_free (image_state table old before es) mark) result (with_first_free (image_state table new after (left state table c es (shortened es i 1) result)) (moved mark result))
  last-freed old before mark result new after may lowers =
      let l = loses old may in
      let stays = freeing-stays state table c es (shortened es i 1) old before result new after l lowers in
      let guest_unchanged = cluster-freed state table c es (shortened es i 1) old before result new after l lowers in
      record {
        faults = named-faultless state (DecrementsCounter (c % counters_of_block before.header.fields)) old before result new after (referenced_block table (c / counters_of_block before.header.fields)) (result ≡ Err DamagedTable) lowers;
        guest_unchanged = guest_unchanged;
        marked = λ keeps sound why marked d below. by-result result (guest_unchanged.holds keeps sound why).0 below (λ away under. let same = counts-stay state table c es (shortened es i 1) old before result new after l lowers (keeps, sound) why d away in let was = marked d under in omega (arith, same, was));
        lower = falls mark result;
        fallen = fell mark result;
        header = stays.header;
        no_shorter = named-long state (DecrementsCounter (c % counters_of_block before.header.fields)) old before result new after
            (referenced_block table (c / counters_of_block before.header.fields)) (result ≡ Err DamagedTable) lowers;
        pins = stays.pins;
        room = stays.room;
        less = less result;
        fewer = fewer result;
        cause = freeing-caused state table c es (shortened es i 1) old before result new after l lowers waits;
      }
    where
      by-result : (result : Result Unit Fault) → IsSound (metadata_of state after new table (left state table c es (shortened es i 1) result)) → {d : ℕ} → d < moved mark result
          → (d ≢ c → d < mark → 0 < counted (metadata_of state after new table (left state table c es (shortened es i 1) result)) d) → 0 < counted (metadata_of state after new table (left state table c es (shortened es i 1) result)) d
      by-result (Ok done) sound below others = others (λ same. omega (arith, same, below)) (omega (arith, below))
      by-result (Err fault) sound {d} below others = elim (cases_eq d c) [
        | inl same ↦ let w = waits in let covered = sound.covered c in subst (λ n. 0 < counted (metadata_of state after new table es) n) (sym same) (omega (arith, w, covered))
        | inr away ↦ others away below
      ]

  -- With `IsSound`, no entry has a cluster number of `2 ^ 64` or more.
  pub far-refused : (old : MetadataCaches S) (before : ImageFile S) (mark : ℕ) → 2 ^ 64 ≤ c → Frees state (with_first_free (image_state table old before es) mark) (Err DamagedTable) (with_first_free (image_state table old before es) mark)
  far-refused old before mark far =
      let m = metadata_of state before old table es in
      record {
        faults = λ whole. (refl, refl);
        guest_unchanged = memory-quietly _ (λ _. 0) (λ _. 0) (state before.image) m m (λ sound whole. (sound, quiet-none m sound));
        marked = λ keeps sound whole marked. marked;
        lower = omega arith;
        fallen = inl refl;
        header = refl;
        no_shorter = omega arith;
        pins = pins-none (cached_in old).blocks (cached_in old).blocks refl;
        room = record { tables = refl; blocks = refl; entries = refl };
        less = λ d. omega arith;
        fewer = omega arith;
        cause = λ holds. let none = far-uncounted m holds.1 c far in let was = holds.1.covered c in let w = waits in omega (arith, none, was, w);
      }

-- Causes of a step are causes of the free.
pub freeing-weaker : {sound sound' loose loose' : Type 0} {a b c : ℕ} → (sound' → sound) → (loose' → loose) → b ≡ a → Implies (freeing_causes sound loose b c) (freeing_causes sound' loose' a c)
freeing-weaker from from' same = record { before = omega (arith, same); after = omega arith; damaged = λ wrong s. wrong (from s); counter = λ wrong s. wrong (from s); full = λ none l. none (from' l); limit = λ number. absurd }

pub unbarred-still : {sound sound' : Type 0} {loose loose' : Bool → Type 0} → (sound' → sound) → ((any : Bool) → loose' any → loose any) → IsUnbarred sound' loose' → IsUnbarred sound loose
unbarred-still from from' u = (u.0, λ is. from (u.1 is), from' u.0 u.2)

pub counting-weaker : {sound sound' : Type 0} {loose loose' : Bool → Type 0} {a b c : ℕ} → (sound' → sound) → ((any : Bool) → loose' any → loose any) → b ≡ a → Implies (counting_causes sound loose b c) (counting_causes sound' loose' a c)
counting-weaker from from' same = freeing-weaker from (unbarred-still from from') same

-- The first-free hint falls only to freed clusters, also over several calls.
fallen-then : (mark mark1 mark2 : ℕ) (es es1 es2 : List FreeEntry) → ((d : ℕ) → listed es1 d ≤ listed es d) → ((d : ℕ) → listed es2 d ≤ listed es1 d) → (mark1 ≡ mark) ⊎ (listed es1 mark1 < listed es mark1) → (mark2 ≡ mark1) ⊎ (listed es2 mark2 < listed es1 mark2)
    → (mark2 ≡ mark) ⊎ (listed es2 mark2 < listed es mark2)
fallen-then mark mark1 mark2 es es1 es2 less less' first second = elim second [
  | inr fell ↦ let le = less mark2 in inr (omega (arith, fell, le))
  | inl same ↦ elim first [
    | inl was ↦ inl (same ∙ was)
    | inr fell ↦ let le = less' mark1 in inr (subst (λ n. listed es2 n < listed es n) (sym same) (omega (arith, fell, le)))
  ]
]

abbrev pub freed : Result Unit Fault
freed = Ok tt

abbrev pub failed : Fault → Result Unit Fault
failed fault = Err fault

module _ {S : Type 0} (state : S → StorageState) where
  pub frees-none : (s : AllocatorState S) → Frees state s freed s
  frees-none s =
      let m = metadata state s.image in
      record {
        faults = λ whole. (refl, refl);
        guest_unchanged = memory-quietly _ (λ _. 0) (λ _. 0) (state s.file.image) m m (λ sound whole. (sound, quiet-none m sound));
        marked = λ keeps sound whole marked. marked;
        lower = omega arith;
        fallen = inl refl;
        header = refl;
        no_shorter = omega arith;
        pins = pins-none (cached_in s.caches).blocks (cached_in s.caches).blocks refl;
        room = record { tables = refl; blocks = refl; entries = refl };
        less = λ d. omega arith;
        fewer = omega arith;
        cause = refl;
      }

  pub frees-then : (a b : AllocatorState S) (result : Result Unit Fault) (c : AllocatorState S) → Frees state a freed b → Frees state b result c → Frees state a result c
  frees-then a b result c first second =
      let on : IsTrue (state a.file.image).shape.keeps → IsTrue (state b.file.image).shape.keeps = keeps_on (state a.file.image) (state b.file.image) first.guest_unchanged.shape in
      let le = first.lower in
      let le' = second.lower in
      let few = first.fewer in
      let few' = second.fewer in
      let long = first.no_shorter in
      let long' = second.no_shorter in
      record {
        faults = λ whole. faultless-then (first.faults tt) (second.faults whole);
        guest_unchanged = calmly-then _ (HadNoResourceError result) (λ _. 0) (λ _. 0) (λ _. 0) (λ _. 0) (state a.file.image) (metadata state a.image) (state b.file.image) (metadata state b.image) (state c.file.image) (metadata state c.image) (inl tt) (λ sound d some. refl) first.guest_unchanged second.guest_unchanged;
        marked = λ keeps sound why marked. second.marked (on keeps) (first.guest_unchanged.holds keeps sound (inl tt)).0 (behind keeps sound why) (first.marked keeps sound (inl tt) marked);
        lower = omega (arith, le, le');
        fallen = fallen-then a.mark b.mark c.mark a.pending b.pending c.pending first.less second.less first.fallen second.fallen;
        header = second.header ∙ first.header;
        no_shorter = omega (arith, long, long');
        pins = pins-then (cached_in a.caches).blocks (cached_in b.caches).blocks (cached_in c.caches).blocks first.pins second.pins;
        room = record { tables = second.room.tables ∙ first.room.tables; blocks = second.room.blocks ∙ first.room.blocks; entries = second.room.entries ∙ first.room.entries };
        less = λ d. let l = first.less d in let l' = second.less d in omega (arith, l, l');
        fewer = omega (arith, few, few');
        cause = fails-weaker _ _ (freeing-weaker (λ holds. (on holds.0, (first.guest_unchanged.holds holds.0 holds.1 (inl tt)).0)) (spare-on a.caches b.caches first.pins first.room.blocks) first.cause) (λ same. same ∙ first.cause) result second.cause;
      }
    where
      behind : IsTrue (state a.file.image).shape.keeps → IsSound (metadata state a.image) → NoErrorOrNoChangeRefused result (state a.file.image) (state c.file.image) → NoErrorOrNoChangeRefused result (state b.file.image) (state c.file.image)
      behind keeps sound why = elim why [
        | inl whole ↦ inl whole
        | inr no_change_refused ↦ inr (calm-behind _ (λ _. 0) (λ _. 0) (state a.file.image) (metadata state a.image) (state b.file.image) (metadata state b.image) (state c.file.image) keeps sound first.guest_unchanged second.guest_unchanged.counts_not_fallen no_change_refused)
      ]

  -- An entry without clusters is removed from the list.
  pub empty-removed : (s : AllocatorState S) (i : ℕ) → i < length s.pending → (entry_at s.pending i).count ≡ 0 → Frees state s freed (with_first_free (image_state s.table s.caches s.file (remove s.pending i)) s.mark)
  empty-removed s i inside none =
      let m = metadata state s.image in
      let es = s.pending in
      let less : (d : ℕ) → listed (remove es i) d ≡ listed es d = λ d. let off = listed-remove es i d inside in let zero = covers-none d (entry_at es i) none in omega (arith, off, zero) in
      let metadata : (d : ℕ) → listed (metadata_in (remove es i)) d ≤ listed (metadata_in es) d = λ d. let off = metadata-remove es i d inside in omega (arith, off) in
      let long = length-remove es i inside in
      record {
        faults = λ whole. (refl, refl);
        guest_unchanged = memory-quietly _ (λ _. 0) (λ _. 0) (state s.file.image) m (record m { pending = remove es i }) (λ sound whole. waits-quiet m (remove es i) sound less metadata);
        marked = λ keeps sound whole marked. marked;
        lower = omega arith;
        fallen = inl refl;
        header = refl;
        no_shorter = omega arith;
        pins = pins-none (cached_in s.caches).blocks (cached_in s.caches).blocks refl;
        room = record { tables = refl; blocks = refl; entries = refl };
        less = λ d. let same = less d in omega (arith, same);
        fewer = omega (arith, long);
        cause = refl;
      }

-- A shortened entry may be freed like the entry before.
pub may-still : (es : List FreeEntry) (i n : ℕ) → i < length es → (now : List FreeEntry) (order order' : CacheDependency) → now ≡ shortened es i n → order' ≡ order → MayFree order (entry_at es i) → MayFree order' (entry_at now i)
may-still es i n inside now order order' is same may = elim may [
  | inl kind ↦ inl (ap (λ (l : List FreeEntry). (entry_at l i).metadata) is ∙ ap (λ (e : FreeEntry). e.metadata) (entry-shortened es i n inside) ∙ kind)
  | inr first ↦ inr (same ∙ first)
]
