-- The refcounts of several clusters are lowered, while no L2 table is cached.
use Rattle.std.proofs.Common.{◌≡◌, ℕ, ◌+◌, ◌/◌, ◌%◌, ◌<◌, ◌≤◌, refl, arith, ap, sym, subst, ◌∙◌, List, [], ◌∷◌, length, take, get_or, false, Result, Ok, Err, inl}
use Rattle.std.specs.Prelude.{IsTrue, OnOk, map, ⊤}
use Rattle.std.specs.List.{AllByRecursion}
use Rattle.std.proofs.lemmas.List.Sums.{sum_by-take-le, sum_by_more}
use Rattle.imago_storage.specs.State.{StorageState}
use Rattle.imago_storage.specs.declared.fault.Fault.{Fault}
use Rattle.imago_storage.proofs.Composing.{keeps_on, later_both, later_same, stops_weaker}
use Rattle.qcow2_types.specs.Bytes.{bytes_of, raw_entry}
use Rattle.qcow2_types.specs.Entries.{entry}
use Rattle.qcow2_types.specs.Header.{Header, entries_of_cluster}
use Rattle.qcow2_types.specs.Pending.{FreeEntry}
use Rattle.qcow2_alloc.specs.declared.async_lru_cache.Slot.{Slot}
use Rattle.qcow2_metadata.specs.Tables.{TableValue}
use Rattle.qcow2_alloc.specs.Caches.{cached_in}
use Rattle.qcow2_alloc.specs.Causes.{HasCause}
use Rattle.qcow2_alloc.specs.Freeing.{HasUnpinnedSlot, freeing_causes}
use Rattle.qcow2_alloc.specs.FreeList.{listed}
use Rattle.qcow2_alloc.specs.Going.{HadNoResourceError}
use Rattle.qcow2_alloc.specs.GuestView.{IsSound, Metadata, PreservesGuest, counted, in_memory, many_at, waiting}
use Rattle.qcow2_alloc.specs.Lowering.{HasExcess, Lowers, LowersExcess, lowered_by, lowering_causes}
use Rattle.qcow2_alloc.specs.Memory.{written_table}
use Rattle.qcow2_alloc.specs.State.{AllocatorState, KeepsWritesAndSound, metadata}
use Rattle.qcow2_alloc.specs.WellFormedness.{AreTablesClean}
use Rattle.qcow2_alloc.proofs.Causes.{cause-weaker}
use Rattle.qcow2_alloc.proofs.Caching.Pins.{pins-none, pins-then}
use Rattle.qcow2_alloc.proofs.Caching.UnpinnedCaches.{spare-on}
use Rattle.qcow2_alloc.proofs.Flushing.FaultlessCalls.{faultless-then}
use Rattle.qcow2_alloc.proofs.Flushing.OrderAnnouncements.{clean-words}
use Rattle.qcow2_alloc.proofs.GuestView.QuietCounters.{here-many}
use Rattle.qcow2_alloc.proofs.GuestView.QuietFlushes.{quiet-none, quietly-weaker}
use Rattle.qcow2_alloc.proofs.GuestView.QuietNames.{quiet-names}
use Rattle.qcow2_steps.proofs.QuietValues.{entry-kept, quiet-left}
use Rattle.qcow2_steps.proofs.Steps.{clean-advances, quiet-advances}
use Rattle.qcow2_steps.proofs.Values.{places-there, within}
use Rattle.qcow2_clusters.specs.Lowering.{AreLeaks, ArePositive, LowersPart, lowered_in}
use Rattle.qcow2_clusters.specs.Progress.{Kind, Progresses, both, handing}
use Rattle.qcow2_clusters.proofs.ProgressSums.{LeftBy, progresses-in-memory, progresses-then-given, progresses-weaker, wider-both, wider-handing}

-- The entries mean the same in the file and in memory if no L2 table is cached.
clean-entries : (m : Metadata) → IsSound m → m.cached.tables ≡ [] → (guest : ℕ) → entry m.file m.header.fields guest ≡ entry (in_memory m) m.header.fields guest
clean-entries m sound none guest =
    let clean : AreTablesClean m.cached = subst (λ (ts : List (ℕ × Slot TableValue)). AllByRecursion (λ e. e.1.value.modified ≡ false) ts) (sym none) tt in
    let kept = clean-words m.file m.header m.cached m.order sound.well_formed clean in
    let i = guest / entries_of_cluster m.header.fields in
    let j = guest % entries_of_cluster m.header.fields in
    sym (entry-kept m.file (in_memory m) m.header m.header.fields.refcount_table_offset m.header.fields.refcount_table_clusters sound.well_formed.consistent (within m sound) (places-there m sound).l1 guest (kept.slots i j))

-- Like `quiet-progresses`, for any taken clusters, if no L2 table is cached afterwards.
clean-progresses : (ok : Type 0) (handed taken : ℕ → ℕ) (s : StorageState) (m : Metadata) (s' : StorageState) (m' : Metadata) → m'.cached.tables ≡ [] → PreservesGuest ok handed taken s m s' m' → Progresses ok (handing handed taken) s m s' m'
clean-progresses ok handed taken s m s' m' none quietly = record {
  shape = quietly.shape;
  counts_not_fallen = quietly.counts_not_fallen;
  passes = λ keeps sound no_change_refused.
      let told = quietly.passes keeps sound no_change_refused in
      (told.0, stops_weaker _ (LeftBy (handing handed taken) m) s s' (λ _ x shows. (shows.0, quiet-left (λ p v. ⊥) m (bytes_of x) shows.0 sound shows.1)) told.1);
  holds = λ keeps sound done. let left = quietly.holds keeps sound done in clean-advances m m' handed taken sound left.0 left.1 (clean-entries m' left.0 none);
}

none-cached : (xs ys : List (ℕ × Slot TableValue)) → map written_table xs ≡ map written_table ys → ys ≡ [] → xs ≡ []
none-cached [] ys same none = refl
none-cached (x ∷ xs) ys same none = absurd (let no : map written_table (x ∷ xs) ≡ [] = same ∙ ap (map written_table) none in cc)

module _ (pairs : List (ℕ × ℕ)) (n : ℕ) (inside : n < length pairs) where
  abbrev pair : ℕ × ℕ
  pair = get_or pairs n (0, 0)

  lowered-more : (c : ℕ) → lowered_in (take (n + 1) pairs) c ≡ lowered_in (take n pairs) c + many_at pair.0 pair.1 c
  lowered-more c = sum_by_more (λ (p : ℕ × ℕ). many_at p.0 p.1 c) pairs n (0, 0) inside

  lowered-less : (c : ℕ) → lowered_in (take n pairs) c + many_at pair.0 pair.1 c ≤ lowered_in pairs c
  lowered-less c = let le = sum_by-take-le (λ (p : ℕ × ℕ). many_at p.0 p.1 c) pairs (n + 1) in let more = lowered-more c in omega (arith, le, more)

-- The number of pairs that are done after a call.
abbrev pub done_after : ℕ → Result ℕ Fault → ℕ
done_after n (Ok count) = n + 1
done_after n (Err fault) = n

module _ {S : Type 0} (state : S → StorageState) (pairs : List (ℕ × ℕ)) where
  pub part-none : (s : AllocatorState S) → LowersPart state pairs 0 ⊤ s s
  part-none s =
      let m = metadata state s.image in
      record {
        shape = refl;
        counts_not_fallen = later_same (state s.file.image);
        faults = λ whole. (refl, refl);
        progress = λ leaks. progresses-in-memory ⊤ (handing (λ _. 0) (λ _. 0)) (state s.file.image) m m (λ sound whole. quiet-advances m m (λ _. 0) (λ _. 0) sound sound (quiet-none m sound) (λ c some. refl));
        counts = λ leaks keeps sound whole c. omega arith;
        names = λ leaks keeps sound whole c. omega arith;
        marked = λ leaks keeps sound whole marked. marked;
        l1 = λ leaks keeps sound whole i inside. refl;
        table = refl;
        pending = refl;
        header = refl;
        no_shorter = omega arith;
        pins = pins-none (cached_in s.caches).blocks (cached_in s.caches).blocks refl;
        room = record { tables = refl; blocks = refl; entries = refl };
      }

  module _ (n : ℕ) (inside : n < length pairs) (s s1 : AllocatorState S) (none : (cached_in s.caches).tables ≡ []) (first : LowersPart state pairs n ⊤ s s1)
      (result : Result ℕ Fault) (s2 : AllocatorState S) (lowers : Lowers state (pair pairs n inside).0 (pair pairs n inside).1 s1 result s2) (table : s2.table ≡ s1.table) (pending : s2.pending ≡ s1.pending) where
    abbrev p : ℕ × ℕ
    p = pair pairs n inside

    abbrev m0 : Metadata
    m0 = metadata state s.image

    abbrev m1 : Metadata
    m1 = metadata state s1.image

    abbrev m2 : Metadata
    m2 = metadata state s2.image

    abbrev Kept : Type 0
    Kept = IsTrue (state s.file.image).shape.keeps

    pub excess-left : AreLeaks state pairs s → Kept → IsSound m0 → HasExcess m1 p.0 p.1
    excess-left leaks keeps sound =
        let all = leaks keeps sound p.0 in
        let counts = first.counts leaks keeps sound tt p.0 in
        let names = first.names leaks keeps sound tt p.0 in
        let less = lowered-less pairs n inside p.0 in
        let one = here-many p.0 p.1 in
        let waits : waiting m1 p.0 ≡ waiting m0 p.0 = ap (λ (l : List FreeEntry). listed l p.0) first.pending in
        omega (arith, all, counts, names, less, one, waits)

    given : (q : Result ℕ Fault) → HasExcess m1 p.0 p.1 → OnOk q (HasExcess m1 p.0 p.1)
    given (Ok count) excess = excess
    given (Err fault) excess = tt

    abbrev May : Type 0
    May = LowersExcess m1 p.0 p.1 result (state s1.file.image) (state s2.file.image)

    may : AreLeaks state pairs s → Kept → IsSound m0 → HadNoResourceError result → May
    may leaks keeps sound whole = (inl whole, given result (excess-left leaks keeps sound))

    pub keeps-there : AreLeaks state pairs s → Kept → IsTrue (state s1.file.image).shape.keeps
    keeps-there leaks keeps = keeps_on (state s.file.image) (state s1.file.image) (first.progress leaks).shape keeps

    pub sound-there : AreLeaks state pairs s → Kept → IsSound m0 → IsSound m1
    sound-there leaks keeps sound = ((first.progress leaks).holds keeps sound tt).sound

    none-there : (cached_in s2.caches).tables ≡ []
    none-there = none-cached (cached_in s2.caches).tables (cached_in s.caches).tables (lowers.room.entries ∙ first.room.entries) none

    abbrev one : Kind
    one = handing (λ _. 0) (lowered_in (take n pairs))

    abbrev two : Kind
    two = handing (λ _. 0) (lowered_by result p.0 p.1)

    abbrev all : Kind
    all = handing (λ _. 0) (lowered_in (take (done_after n result) pairs))

    step : AreLeaks state pairs s → Kept → IsSound m0 → Progresses (HadNoResourceError result) two (state s1.file.image) m1 (state s2.file.image) m2
    step leaks keeps sound =
        clean-progresses (HadNoResourceError result) (λ _. 0) (lowered_by result p.0 p.1) (state s1.file.image) m1 (state s2.file.image) m2 none-there
        (quietly-weaker May (HadNoResourceError result) (λ _. 0) (lowered_by result p.0 p.1) (state s1.file.image) m1 (state s2.file.image) m2 (λ sound1 whole. may leaks keeps sound whole) lowers.guest_unchanged)

    sums : (q : Result ℕ Fault) (c : ℕ) → lowered_in (take (done_after n q) pairs) c ≡ lowered_in (take n pairs) c + lowered_by q p.0 p.1 c
    sums (Ok count) c = lowered-more pairs n inside c
    sums (Err fault) c = omega arith

    pub part-more : LowersPart state pairs (done_after n result) (HadNoResourceError result) s s2
    part-more = record {
      shape = lowers.guest_unchanged.shape ∙ first.shape;
      counts_not_fallen = later_both (state s.file.image) (state s1.file.image) (state s2.file.image) first.counts_not_fallen lowers.guest_unchanged.counts_not_fallen;
      faults = λ whole. faultless-then (first.faults tt) (lowers.faults whole);
      progress = λ leaks.
          progresses-weaker (HadNoResourceError result) (HadNoResourceError result) (both one two) all (state s.file.image) m0 (state s2.file.image) m2
          (wider-both one two all (wider-handing (λ _. 0) (lowered_in (take n pairs)) all) (wider-handing (λ _. 0) (lowered_by result p.0 p.1) all)) (λ done. done) (λ c. omega arith) (sums result)
          (progresses-then-given (HadNoResourceError result) ⊤ one two (state s.file.image) m0 (state s1.file.image) m1 (state s2.file.image) m2 tt (first.progress leaks) lowers.guest_unchanged.shape lowers.guest_unchanged.counts_not_fallen
          (λ keeps sound advances. step leaks keeps sound));
      counts = λ leaks keeps sound whole c.
          let before = first.counts leaks keeps sound tt c in
          let after = lowers.counts (keeps-there leaks keeps) (sound-there leaks keeps sound) (may leaks keeps sound whole) c in
          let sum = sums result c in
          omega (arith, before, after, sum);
      names = λ leaks keeps sound whole c.
          let held = lowers.guest_unchanged.holds (keeps-there leaks keeps) (sound-there leaks keeps sound) (may leaks keeps sound whole) in
          let before = first.names leaks keeps sound tt c in
          let after = quiet-names m1 m2 (λ _. 0) (lowered_by result p.0 p.1) (sound-there leaks keeps sound) held.0 held.1 lowers.header table c in
          omega (arith, before, after);
      marked = λ leaks keeps sound whole marked. lowers.marked (keeps-there leaks keeps) (sound-there leaks keeps sound) (may leaks keeps sound whole) (first.marked leaks keeps sound tt marked);
      l1 = λ leaks keeps sound whole i under.
          let held = lowers.guest_unchanged.holds (keeps-there leaks keeps) (sound-there leaks keeps sound) (may leaks keeps sound whole) in
          subst (λ (H : Header). i < H.fields.l1_entries → raw_entry m2.file H.fields.l1_offset i ≡ raw_entry m1.file H.fields.l1_offset i) first.header (held.1.shows.l1 i) under
          ∙ first.l1 leaks keeps sound tt i under;
      table = table ∙ first.table;
      pending = pending ∙ first.pending;
      header = lowers.header ∙ first.header;
      no_shorter = let before = first.no_shorter in let after = lowers.no_shorter in omega (arith, before, after);
      pins = pins-then (cached_in s.caches).blocks (cached_in s1.caches).blocks (cached_in s2.caches).blocks first.pins lowers.pins;
      room = record { tables = lowers.room.tables ∙ first.room.tables; blocks = lowers.room.blocks ∙ first.room.blocks; entries = lowers.room.entries ∙ first.room.entries };
    }

    -- The causes of a failure are those of the whole call.
    pub part-cause : (fault : Fault)
        → HasCause (lowering_causes (KeepsWritesAndSound state s1.image) (0 < counted m1 p.0) (p.1 ≤ counted m1 p.0) (HasUnpinnedSlot s1.caches) (state s1.file.image).faults (state s2.file.image).faults) fault
        → HasCause (freeing_causes (KeepsWritesAndSound state s.image × AreLeaks state pairs s × ArePositive pairs) (HasUnpinnedSlot s.caches) (state s.file.image).faults (state s2.file.image).faults) fault
    part-cause = cause-weaker (record {
      before = let same = (first.faults tt).0 in omega (arith, same);
      after = omega arith;
      damaged = λ wrong holds.
          let excess = excess-left holds.1 holds.0.0 holds.0.1 in
          let positive = holds.2 n inside in
          wrong ((keeps-there holds.1 holds.0.0, sound-there holds.1 holds.0.0 holds.0.1), omega (arith, excess, positive));
      counter = λ wrong holds.
          let excess = excess-left holds.1 holds.0.0 holds.0.1 in
          wrong ((keeps-there holds.1 holds.0.0, sound-there holds.1 holds.0.0 holds.0.1), omega (arith, excess));
      full = λ wrong loose. wrong (spare-on s.caches s1.caches first.pins first.room.blocks loose);
      limit = λ number. absurd;
    })
