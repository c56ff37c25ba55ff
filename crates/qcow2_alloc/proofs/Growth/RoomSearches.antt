-- Searching for a free area, run by run.
use Rattle.std.proofs.Common.{◌≡◌, ◌≢◌, ℕ, ◌+◌, ◌*◌, ◌≤◌, refl, arith, sym, subst, ◌∙◌, length, Ok, Err, inl, inr}
use Rattle.std.specs.Prelude.{max}
use Rattle.imago_storage.specs.State.{StorageState}
use Rattle.imago_storage.specs.declared.fault.Fault.{Fault}
use Rattle.qcow2_types.specs.Header.{Header}
use Rattle.qcow2_types.specs.Counts.{counters_of_block}
use Rattle.qcow2_metadata.specs.Tables.{TableValue}
use Rattle.qcow2_alloc.specs.declared.allocation.searching.Run.{Run}
use Rattle.qcow2_alloc.specs.declared.cache.MetadataCaches.{MetadataCaches}
use Rattle.qcow2_alloc.specs.declared.file.ImageFile.{ImageFile}
use Rattle.qcow2_alloc.specs.Growing.{needed_for, GrowsFreeArea, IsFreeAreaSoFar}
use Rattle.qcow2_alloc.specs.SearchingClusters.{IsFirstRun, counts_in, LooksForRun}
use Rattle.qcow2_alloc.proofs.Growth.FirstRooms.{room-first, room-longer, room-over}
use Rattle.qcow2_alloc.proofs.Searching.SearchSequences.{looked-answer, looked-refused, looked-then, safe-still, counts-still}
use Rattle.qcow2_alloc.specs.Caches.{cached_file}

-- First runs depend only on refcounts.
pub first-run-same : (counts counts' : ℕ → ℕ) (from n z : ℕ) → ((c : ℕ) → counts' c ≡ counts c) → IsFirstRun counts from n z → IsFirstRun counts' from n z
first-run-same counts counts' from n z same run = record {
  not_before_start = run.not_before_start;
  free = λ c above below. same c ∙ run.free c above below;
  least = λ y above below. let met = run.least y above below in (met.0, met.1, met.2, let some = met.3 in let is = same met.0 in omega (arith, some, is));
}

module _ {S : Type 0} (state : S → StorageState) (table : TableValue) (n needed : ℕ) (was : Run) (old : MetadataCaches S) (before : ImageFile S)
    (is : needed ≡ needed_for table (counters_of_block before.header.fields) n was) where
  abbrev k : ℕ
  k = counters_of_block before.header.fields

  -- The area continues from its start.
  pub room-here : (z : ℕ) (new : MetadataCaches S) (after : ImageFile S) → LooksForRun state table was.first needed (cached_file old before) (Ok z) (cached_file new after) → z ≡ was.first → GrowsFreeArea state table n was (cached_file old before) (Ok (record { first = z; len = needed })) (cached_file new after)
  room-here z new after looks same = record {
    looked = looked-answer state table old before z (record { first = z; len = needed }) new after looks.looked;
    further = inl (same, is);
    start_bounded = omega (arith, same);
    so_far = λ sound from past.
        let run : IsFirstRun (counts_in state old before) was.first (needed_for table k n was) was.first =
        subst (λ m. IsFirstRun (counts_in state old before) was.first m was.first) is (subst (λ y. IsFirstRun (counts_in state old before) was.first needed y) same (looks.found sound)) in
        subst (λ y. IsFreeAreaSoFar table k (counts_in state old before) from n (record { first = y; len = needed })) (sym same)
        (subst (λ m. IsFreeAreaSoFar table k (counts_in state old before) from n (record { first = was.first; len = m })) (sym is)
        (room-longer table k (counts_in state old before) from n was past run));
  }

  -- The search for a longer run fails.
  pub room-refused : (fault : Fault) (new : MetadataCaches S) (after : ImageFile S) → LooksForRun state table was.first needed (cached_file old before) (Err fault) (cached_file new after) → GrowsFreeArea state table n was (cached_file old before) (Err fault) (cached_file new after)
  room-refused fault new after looks = record { looked = looked-refused state table old before fault new after looks.looked; further = tt; start_bounded = tt; so_far = λ sound. tt }

  module _ (z : ℕ) (mid : MetadataCaches S) (between : ImageFile S) (looks : LooksForRun state table was.first needed (cached_file old before) (Ok z) (cached_file mid between)) (apart : z ≢ was.first) where
    -- The longer run isn't free, so a new area begins after this start.
    pub room-next : (z' : ℕ) (new : MetadataCaches S) (after : ImageFile S) → LooksForRun state table (was.first + 1) n (cached_file mid between) (Ok z') (cached_file new after) → GrowsFreeArea state table n was (cached_file old before) (Ok (record { first = z'; len = n })) (cached_file new after)
    room-next z' new after again =
        let near : z' ≤ max (was.first + 1) (length table.raw_entries * counters_of_block before.header.fields) =
        subst (λ (h : Header). z' ≤ max (was.first + 1) (length table.raw_entries * counters_of_block h.fields)) looks.looked.header again.result_bounded.1 in
        let behind = again.result_bounded.0 in record {
          looked = looked-answer state table old before z' (record { first = z'; len = n }) new after (looked-then state table old before z mid between (Ok z') new after looks.looked again.looked);
          further = let first = looks.result_bounded.0 in let last = looks.result_bounded.1 in inr (omega (arith, behind), omega (arith, first, last, apart), refl);
          start_bounded = near;
          so_far = λ sound from past.
              let same = counts-still state table old before z mid between looks.looked sound in
              let run = first-run-same (counts_in state mid between) (counts_in state old before) (was.first + 1) n z' (λ c. sym (same c)) (again.found (safe-still state table old before z mid between looks.looked sound)) in
              let over : IsFirstRun (counts_in state old before) was.first (needed_for table k n was) z = subst (λ m. IsFirstRun (counts_in state old before) was.first m z) is (looks.found sound) in
              let first = past.not_before_start in
              room-first table k (counts_in state old before) from n (was.first + 1) z' (omega (arith, first)) (room-over table k (counts_in state old before) from n was z past over apart) run;
        }

    -- The search for the new area fails.
    pub room-not-next : (fault : Fault) (new : MetadataCaches S) (after : ImageFile S) → LooksForRun state table (was.first + 1) n (cached_file mid between) (Err fault) (cached_file new after) → GrowsFreeArea state table n was (cached_file old before) (Err fault) (cached_file new after)
    room-not-next fault new after again = record {
      looked = looked-refused state table old before fault new after (looked-then state table old before z mid between (Err fault) new after looks.looked again.looked);
      further = tt;
      start_bounded = tt;
      so_far = λ sound. tt;
    }
