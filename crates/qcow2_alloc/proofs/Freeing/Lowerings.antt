-- A call that lowers the refcount of a leaked cluster.
use Rattle.std.proofs.Common.{◌≡◌, ℕ, ◌+◌, ◌/◌, ◌%◌, ◌<◌, ◌≤◌, refl, arith, ap, sym, subst, ◌∙◌, List, Option, None, Some, Result, Ok, Err, inl, inr}
use Rattle.std.specs.Prelude.{◌⊎◌, IsTrue, MatchOption, OnOk, OnErr, IfOk}
use Rattle.std.proofs.lemmas.Bool.{cases_eq}
use Rattle.std.proofs.lemmas.Bool.Decides.{nat_tests}
use Rattle.imago_storage.specs.State.{StorageState}
use Rattle.imago_storage.specs.declared.fault.Fault.{Fault}
use Rattle.imago_storage.specs.declared.fault.Fault.TheVariants.{DamagedTable}
use Rattle.qcow2_types.specs.Bytes.{bytes_of}
use Rattle.qcow2_types.specs.Header.{Header}
use Rattle.qcow2_types.specs.Counts.{count, counters_of_block}
use Rattle.qcow2_types.specs.Pending.{FreeEntry}
use Rattle.qcow2_metadata.specs.Places.{IsAddressable}
use Rattle.qcow2_metadata.specs.Tables.{TableValue}
use Rattle.qcow2_alloc.specs.declared.cache.MetadataCaches.{MetadataCaches}
use Rattle.qcow2_alloc.specs.declared.file.ImageFile.{ImageFile}
use Rattle.qcow2_alloc.specs.Allocators.{metadata_of, referenced_block, UsesBlock, BlockUsed}
use Rattle.qcow2_alloc.specs.Caches.{cached_in, cached_file}
use Rattle.qcow2_alloc.specs.Causes.{FailsFor}
use Rattle.qcow2_alloc.specs.Finding.{BlockFound, IsPinnedFull, search_causes}
use Rattle.qcow2_alloc.specs.Freeing.{HasUnpinnedSlot, NoneFreeBefore}
use Rattle.qcow2_alloc.specs.Going.{HadNoResourceError, AreTablesAddressable, AreBlocksAddressable}
use Rattle.qcow2_alloc.specs.GuestView.{Metadata, IsSound, GuestUnchanged, PreservesGuest, counted}
use Rattle.qcow2_alloc.specs.Lowering.{LowersCounter, LowersCluster, LowersExcess, HasExcess, Lowers, first_free_below, lowered_by, lowering_causes}
use Rattle.qcow2_alloc.specs.Memory.{memory}
use Rattle.qcow2_alloc.specs.State.{image_state, with_first_free}
use Rattle.qcow2_alloc.specs.WellFormedness.{NoChangeRefused}
use Rattle.qcow2_alloc.proofs.Causes.{Implies, cause-weaker}
use Rattle.qcow2_alloc.proofs.Blocks.ClusterBlocks.{counted-block}
use Rattle.qcow2_alloc.proofs.Caching.FileLengths.{named-long}
use Rattle.qcow2_alloc.proofs.Caching.Pins.{full-pinned}
use Rattle.qcow2_alloc.proofs.Caching.UnpinnedCaches.{named-keeps}
use Rattle.qcow2_alloc.proofs.Flushing.FaultlessCalls.{named-faultless}
use Rattle.qcow2_alloc.proofs.Freeing.ClusterFrees.{search-calmly}
use Rattle.qcow2_alloc.proofs.Freeing.LoweredCounters.{Lowered, block-lowered, block-count, block-why}
use Rattle.qcow2_alloc.proofs.GuestView.QuietCounters.{here-many, away-many}
use Rattle.qcow2_alloc.proofs.GuestView.QuietFlushes.{quiet-none}
use Rattle.qcow2_alloc.proofs.GuestView.QuietNames.{quiet-names}
use Rattle.qcow2_alloc.proofs.GuestView.QuietSequences.{quiet-otherwise, quiet-then}
use Rattle.qcow2_alloc.proofs.Memory.SafeLaws.{safe-reach}
use Rattle.qcow2_alloc.proofs.GuestView.QuietFlushes.{memory-quietly}

-- The guest was unchanged before, and no refcount had changed.
lowered-then : (c by : ℕ) (m m1 m2 : Metadata) (result : Result ℕ Fault) → IsSound m → IsSound m1 → GuestUnchanged (λ _. 0) (λ _. 0) m m1 → ((d : ℕ) → counted m1 d ≡ counted m d) → Lowered c by m1 result m2 → Lowered c by m result m2
lowered-then c by m m1 m2 result sound sound1 first same second = record {
  sound = second.sound;
  unchanged = quiet-otherwise m m2 (λ _. 0 + 0) (λ d. 0 + lowered_by result c by d) (λ _. 0) (lowered_by result c by) (λ d. omega arith) (λ d used none. omega (arith, none))
      (quiet-then m m1 m2 (λ _. 0) (λ _. 0) (λ _. 0) (lowered_by result c by) sound sound1 (λ d some. refl) first second.unchanged);
  counts = λ d. second.counts d ∙ same d;
}

module _ {S : Type 0} (state : S → StorageState) (table : TableValue) (pending : List FreeEntry) (c by : ℕ) (old : MetadataCaches S) (before : ImageFile S) (after : ImageFile S) where
  abbrev At : MetadataCaches S → Metadata
  At caches = metadata_of state after caches table pending

  abbrev Old : Metadata
  Old = metadata_of state before old table pending

  abbrev Kept : Type 0
  Kept = IsTrue (state before.image).shape.keeps

  abbrev Counts : Result ℕ Fault → Type 0
  Counts q = FailsFor (lowering_causes (Kept × IsSound Old) (0 < counted Old c) (by ≤ counted Old c) (HasUnpinnedSlot old) (state before.image).faults (state after.image).faults) q

  -- A block is searched for.
  module _ (key : ℕ) (answer : Result Unit Fault) (mid : MetadataCaches S) (found : BlockFound state key old before answer mid after) where
    abbrev Whole : Type 0
    Whole = HadNoResourceError answer ⊎ NoChangeRefused (state before.image) (state after.image)

    abbrev Search : Type 0
    Search = PreservesGuest Whole (λ _. 0) (λ _. 0) (state before.image) Old (state after.image) (At mid)

    search : Search
    search = search-calmly state table key pending old before answer mid after found

    found-counts : Kept → IsSound Old → Whole → (d : ℕ) → counted (At mid) d ≡ counted Old d
    found-counts keeps sound why d =
        let settled = found.writes_back_cached.holds keeps sound.well_formed tt why in
        subst (λ (h : Header). count (memory (bytes_of (state after.image).bytes) h.fields (cached_in mid)) h.fields d ≡ counted Old d) (sym found.others.1) (ap (λ g. count g before.header.fields d) settled.memory_same)

    found-excess : Kept → IsSound Old → Whole → HasExcess Old c by → HasExcess (At mid) c by
    found-excess keeps sound why excess =
        let held = search.holds keeps sound why in
        let less = quiet-names Old (At mid) (λ _. 0) (λ _. 0) sound held.0 held.1 found.others.1 refl c in
        let same = found-counts keeps sound why c in
        omega (arith, less, same, excess)

    search-causes : referenced_block table (c / counters_of_block before.header.fields) ≡ Some key
        → Implies (search_causes (IsAddressable before.header.fields.cluster_bits key × AreBlocksAddressable (cached_in old) × AreTablesAddressable (cached_in old)) (IsPinnedFull old.rb.slots.cap (cached_in old).blocks) (state before.image).faults (state after.image).faults)
        (lowering_causes (Kept × IsSound Old) (0 < counted Old c) (by ≤ counted Old c) (HasUnpinnedSlot old) (state before.image).faults (state after.image).faults)
    search-causes named = record {
      before = omega arith;
      after = omega arith;
      damaged = λ wrong holds.
          let there = counted-block Old holds.0.1 c holds.1 in
          let same : there.key ≡ key = (let e = sym there.names ∙ named in cc) in
          let reach = safe-reach Old.file Old.header Old.cached Old.order holds.0.1.well_formed in
          wrong (subst (λ n. IsAddressable before.header.fields.cluster_bits n) same there.reach, reach.1, reach.0);
      counter = absurd;
      full = λ all spare. let full = full-pinned (cached_in old).blocks all in omega (arith, full, spare);
      limit = λ number. absurd;
    }

  -- The effect of the call, up to the first-free hint.
  pub record CallLowers (result : Result ℕ Fault) (new : MetadataCaches S) : Type 0 where
    pub guest_unchanged : PreservesGuest (LowersExcess Old c by result (state before.image) (state after.image)) (λ _. 0) (lowered_by result c by) (state before.image) Old (state after.image) (At new)
    pub done : Kept → IsSound Old → LowersExcess Old c by result (state before.image) (state after.image) → Lowered c by Old result (At new)
    pub lowered : Kept → IsSound Old → IfOk result (λ n. n + by ≡ counted Old c)
    pub cause : Counts result

  searched-in-vain : (key : ℕ) (fault : Fault) (new : MetadataCaches S) → referenced_block table (c / counters_of_block before.header.fields) ≡ Some key → BlockFound state key old before (Err fault) new after → CallLowers (Err fault) new
  searched-in-vain key fault new named found =
      let quietly = search key (Err fault) new found in
      record {
        guest_unchanged = record { shape = quietly.shape; counts_not_fallen = quietly.counts_not_fallen; passes = quietly.passes; holds = λ keeps sound may. quietly.holds keeps sound may.0 };
        done = λ keeps sound may.
            let held = quietly.holds keeps sound may.0 in
            record { sound = held.0; unchanged = held.1; counts = λ d. let same = found-counts key (Err fault) new found keeps sound may.0 d in omega (arith, same) };
        lowered = λ keeps sound. tt;
        cause = cause-weaker (search-causes key (Err fault) new found named) fault found.cause;
      }

  used-lowers : (key : ℕ) (result : Result ℕ Fault) (new : MetadataCaches S) → referenced_block table (c / counters_of_block before.header.fields) ≡ Some key → BlockUsed state key (LowersCounter (c % counters_of_block before.header.fields) by) (cached_file old before) result (cached_file new after) → CallLowers result new
  used-lowers key result new named u =
      let header = u.found.others.1 in
      let quietly = search key (Ok tt) u.mid u.found in
      let counts = found-counts key (Ok tt) u.mid u.found in
      let lowers : LowersCounter (c % counters_of_block after.header.fields) by u.value result u.value' = subst (λ (h : Header). LowersCounter (c % counters_of_block h.fields) by u.value result u.value') (sym header) u.used in
      let named' : referenced_block table (c / counters_of_block after.header.fields) ≡ Some key = subst (λ (h : Header). referenced_block table (c / counters_of_block h.fields) ≡ Some key) (sym header) named in
      let done : Kept → IsSound Old → LowersExcess Old c by result (state before.image) (state after.image) → Lowered c by Old result (At new) = λ keeps sound may.
      let held = quietly.holds keeps sound (inl tt) in
      subst (λ (m : MetadataCaches S). Lowered c by Old result (At m)) (sym u.left)
      (lowered-then c by Old (At u.mid) _ result sound held.0 held.1 (counts keeps sound (inl tt))
      (block-lowered state table pending c by key u.mid after named' u.value u.value_cached result u.value' lowers held.0 (moved result (found-excess key (Ok tt) u.mid u.found keeps sound (inl tt)) may.1))) in
      record {
        guest_unchanged = record { shape = quietly.shape; counts_not_fallen = quietly.counts_not_fallen; passes = quietly.passes; holds = λ keeps sound may. let all = done keeps sound may in (all.sound, all.unchanged) };
        done = done;
        lowered = λ keeps sound.
            let held = quietly.holds keeps sound (inl tt) in
            counted-so result (counts keeps sound (inl tt) c) (block-count state table pending c by key u.mid after named' u.value u.value_cached result u.value' lowers held.0);
        cause = block-why state table pending c by key u.mid after named' u.value u.value_cached result u.value' lowers Counts
            (λ never holds. never (quietly.holds holds.0.0 holds.0.1 (inl tt)).0)
            (λ less holds. let few = less (quietly.holds holds.0.0 holds.0.1 (inl tt)).0 in let same = counts holds.0.0 holds.0.1 (inl tt) c in omega (arith, few, same, holds.1))
            (λ n. u.found.cause);
      }
    where
      moved : (q : Result ℕ Fault) → (HasExcess Old c by → HasExcess (At u.mid) c by) → OnOk q (HasExcess Old c by) → OnOk q (HasExcess (At u.mid) c by)
      moved (Ok n) on given = on given
      moved (Err fault) on given = tt

      counted-so : (q : Result ℕ Fault) → counted (At u.mid) c ≡ counted Old c → IfOk q (λ n. n + by ≡ counted (At u.mid) c) → IfOk q (λ n. n + by ≡ counted Old c)
      counted-so (Ok n) same is = is ∙ same
      counted-so (Err fault) same is = tt

  uses-lowers : (key : ℕ) (result : Result ℕ Fault) (new : MetadataCaches S) → referenced_block table (c / counters_of_block before.header.fields) ≡ Some key → UsesBlock state key (LowersCounter (c % counters_of_block before.header.fields) by) (cached_file old before) result (cached_file new after) → CallLowers result new
  uses-lowers key result new named (inl (fault, is, found)) = subst (λ (q : Result ℕ Fault). CallLowers q new) (sym is) (searched-in-vain key fault new named found)
  uses-lowers key result new named (inr u) = used-lowers key result new named u

-- The refcount table references no block for the cluster.
unnamed-lowers : {S : Type 0} (state : S → StorageState) (table : TableValue) (pending : List FreeEntry) (c by : ℕ) (old : MetadataCaches S) (before : ImageFile S) → referenced_block table (c / counters_of_block before.header.fields) ≡ None → CallLowers state table pending c by old before before (Err DamagedTable) old
unnamed-lowers state table pending c by old before named =
    let m = metadata_of state before old table pending in
    record {
      guest_unchanged = memory-quietly _ (λ _. 0) (λ _. 0) (state before.image) m m (λ sound may. (sound, quiet-none m sound));
      done = λ keeps sound may. record { sound = sound; unchanged = quiet-none m sound; counts = λ d. omega arith };
      lowered = λ keeps sound. tt;
      cause = λ holds.
          let there = counted-block m holds.0.1 c holds.1 in
          let no : None ≡ Some there.key = sym named ∙ there.names in cc;
    }

call-lowers : {S : Type 0} (state : S → StorageState) (table : TableValue) (pending : List FreeEntry) (c by : ℕ) (old : MetadataCaches S) (before : ImageFile S) (result : Result ℕ Fault) (new : MetadataCaches S) (after : ImageFile S)
    → LowersCluster state table c by (cached_file old before) result (cached_file new after) → CallLowers state table pending c by old before after result new
call-lowers {S = S} state table pending c by old before result new after = by-name (referenced_block table (c / counters_of_block before.header.fields)) refl
  where
    by-name : (o : Option ℕ) → referenced_block table (c / counters_of_block before.header.fields) ≡ o
        → MatchOption o ((result ≡ Err DamagedTable) × (new ≡ old) × (after ≡ before)) (λ key. UsesBlock state key (LowersCounter (c % counters_of_block before.header.fields) by) (cached_file old before) result (cached_file new after))
        → CallLowers state table pending c by old before after result new
    by-name None named (is, same, same') =
        subst (λ (q : Result ℕ Fault). CallLowers state table pending c by old before after q new) (sym is)
        (subst (λ (m : MetadataCaches S). CallLowers state table pending c by old before after (Err DamagedTable) m) (sym same)
        (subst (λ (f : ImageFile S). CallLowers state table pending c by old before f (Err DamagedTable) old) (sym same') (unnamed-lowers state table pending c by old before named)))
    by-name (Some key) named uses = uses-lowers state table pending c by old before after key result new named uses

hint-falls : (n mark c : ℕ) → first_free_below n mark c ≤ mark
hint-falls n mark c = grind (arith, nat_tests)

hint-free : (n mark c : ℕ) → n ≡ 0 → first_free_below n mark c ≤ c
hint-free n mark c none = subst (λ k. first_free_below k mark c ≤ c) (sym none) (omega arith)

-- No cluster before the first-free hint is free after the call.
none-free : (c by : ℕ) (m m' : Metadata) (result : Result ℕ Fault) (mark mark' : ℕ) → Lowered c by m result m' → IfOk result (λ n. n + by ≡ counted m c) → IfOk result (λ n. mark' ≡ first_free_below n mark c) → OnErr result (mark' ≡ mark) → NoneFreeBefore m mark → NoneFreeBefore m' mark'
none-free c by m m' (Err fault) mark mark' done lowered hint stays marked d below =
    let was = marked d (omega (arith, stays, below)) in
    let same = done.counts d in
    omega (arith, was, same)
none-free c by m m' (Ok n) mark mark' done lowered hint stays marked d below = elim (cases_eq d c) [
  | inl here ↦ subst (λ k. 0 < counted m' k) (sym here) (elim (cases_eq n 0) [
    | inl none ↦ let low = hint-free n mark c none in absurd (omega (arith, low, hint, below, here))
    | inr some ↦ let own = done.counts c in let one = here-many c by in omega (arith, own, one, lowered, some)
  ])
  | inr away ↦
      let low = hint-falls n mark c in
      let was = marked d (omega (arith, low, hint, below)) in
      let same = done.counts d in
      let none = away-many c by d away in
      omega (arith, was, same, none)
]

pub cluster-lowered : {S : Type 0} (state : S → StorageState) (table : TableValue) (pending : List FreeEntry) (c by : ℕ) (old : MetadataCaches S) (before : ImageFile S) (mark : ℕ) (result : Result ℕ Fault) (new : MetadataCaches S) (after : ImageFile S) (mark' : ℕ)
    → LowersCluster state table c by (cached_file old before) result (cached_file new after) → IfOk result (λ n. mark' ≡ first_free_below n mark c) → OnErr result (mark' ≡ mark)
    → Lowers state c by (with_first_free (image_state table old before pending) mark) result (with_first_free (image_state table new after pending) mark')
cluster-lowered state table pending c by old before mark result new after mark' lowers hint stays =
    let call = call-lowers state table pending c by old before result new after lowers in
    let keeps-pins = named-keeps state (referenced_block table (c / counters_of_block before.header.fields)) (LowersCounter (c % counters_of_block before.header.fields) by) (result ≡ Err DamagedTable) old before result new after lowers in
    record {
      faults = named-faultless state (LowersCounter (c % counters_of_block before.header.fields) by) old before result new after (referenced_block table (c / counters_of_block before.header.fields)) (result ≡ Err DamagedTable) lowers;
      guest_unchanged = call.guest_unchanged;
      counts = λ keeps sound may. (call.done keeps sound may).counts;
      lowered = call.lowered;
      marked = λ keeps sound may marked. none-free c by _ _ result mark mark' (call.done keeps sound may) (call.lowered keeps sound) hint stays marked;
      hint = hint;
      stays = stays;
      header = keeps-pins.header;
      order = keeps-pins.order;
      no_shorter = named-long state (LowersCounter (c % counters_of_block before.header.fields) by) old before result new after (referenced_block table (c / counters_of_block before.header.fields)) (result ≡ Err DamagedTable) lowers;
      pins = keeps-pins.pins;
      room = keeps-pins.room;
      cause = call.cause;
    }
