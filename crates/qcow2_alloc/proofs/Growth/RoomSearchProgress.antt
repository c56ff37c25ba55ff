-- The state of the search for a free area, and its termination.
use Rattle.std.proofs.Common.{◌≡◌, ℕ, ◌+◌, ◌-◌, ◌*◌, ◌<◌, ◌≤◌, arith, ap, sym, subst, ◌∙◌, length, Ok, Err, inl, inr}
use Rattle.std.specs.Prelude.{max}
use Rattle.std.proofs.Math.Nat.{mul-le-mul}
use Rattle.imago_storage.specs.State.{StorageState}
use Rattle.imago_storage.specs.declared.fault.Fault.{Fault}
use Rattle.qcow2_types.specs.Header.{Header}
use Rattle.qcow2_types.specs.Counts.{counters_of_block}
use Rattle.qcow2_metadata.specs.Tables.{TableValue}
use Rattle.qcow2_alloc.specs.declared.allocation.searching.Run.{Run}
use Rattle.qcow2_alloc.specs.declared.cache.MetadataCaches.{MetadataCaches}
use Rattle.qcow2_alloc.specs.declared.file.ImageFile.{ImageFile}
use Rattle.qcow2_alloc.specs.Growing.{lacking, needed_for, GrowsFreeArea, IsFreeArea, IsFreeAreaSoFar, LooksForFreeArea}
use Rattle.qcow2_alloc.specs.SearchingClusters.{counts_in, IsSafeWith, Looked, LooksForRun}
use Rattle.qcow2_alloc.proofs.Growth.FirstRooms.{room-first, room-found, lacking-longer, needed-few}
use Rattle.qcow2_alloc.proofs.Searching.SearchSequences.{looked-answer, looked-refused, looked-then, safe-still, counts-still}
use Rattle.qcow2_alloc.specs.Caches.{CachedFile, cached_file}

-- The state of the search.
pub record RoomSearched {S : Type 0} (state : S → StorageState) (table : TableValue) (from n : ℕ) (old : CachedFile S) (run : Run) (new : CachedFile S) : Type 0 where
  pub looked : Looked state {T = Unit {0}} table old (Ok tt) new
  pub within : run.first ≤ length table.raw_entries * counters_of_block old.file.header.fields
  pub long : n ≤ run.len
  pub short : run.len ≤ needed_for table (counters_of_block old.file.header.fields) n run
  pub few : run.len ≤ 2 * n + 4
  pub so_far : IsSafeWith state table old.caches old.file → IsFreeAreaSoFar table (counters_of_block old.file.header.fields) (counts_in state old.caches old.file) from n run

-- Free areas, and the state of the search, depend only on refcounts.
room-same : (table : TableValue) (k : ℕ) (counts counts' : ℕ → ℕ) (n z t : ℕ) → ((c : ℕ) → counts' c ≡ counts c) → IsFreeArea table k counts n z t → IsFreeArea table k counts' n z t
room-same table k counts counts' n z t same room = record { enough = room.enough; free = λ c above below. same c ∙ room.free c above below }

so-far-same : (table : TableValue) (k : ℕ) (counts counts' : ℕ → ℕ) (from n : ℕ) (run : Run) → ((c : ℕ) → counts' c ≡ counts c) → IsFreeAreaSoFar table k counts from n run → IsFreeAreaSoFar table k counts' from n run
so-far-same table k counts counts' from n run same past = record {
  not_before_start = past.not_before_start;
  free = λ c above below. same c ∙ past.free c above below;
  least = λ z t above below room. past.least z t above below (room-same table k counts' counts n z t (λ c. sym (same c)) room);
  short = λ t room. past.short t (room-same table k counts' counts n run.first t (λ c. sym (same c)) room);
}

module _ {S : Type 0} (state : S → StorageState) (table : TableValue) (from n : ℕ) (old : MetadataCaches S) (before : ImageFile S) where
  abbrev k : ℕ
  k = counters_of_block before.header.fields

  abbrev B : ℕ
  B = length table.raw_entries * k

  -- The search starts with the first run.
  pub rooms-first : from ≤ length table.raw_entries * counters_of_block before.header.fields → (z : ℕ) (new : MetadataCaches S) (after : ImageFile S) → LooksForRun state table from n (cached_file old before) (Ok z) (cached_file new after)
      → RoomSearched state table from n (cached_file old before) (record { first = z; len = n }) (cached_file new after)
  rooms-first near z new after looks = record {
    looked = looked-answer state table old before z tt new after looks.looked;
    within = let le = looks.result_bounded.1 in omega (arith, near, le);
    long = omega arith;
    short = omega arith;
    few = omega arith;
    so_far = λ sound. room-first table k (counts_in state old before) from n from z (omega arith) (λ y t above below. absurd (omega (arith, above, below))) (looks.found sound);
  }

  module _ (run : Run) (mid : MetadataCaches S) (between : ImageFile S) (searched : RoomSearched state table from n (cached_file old before) run (cached_file mid between)) where
    abbrev needed : ℕ
    needed = needed_for table k n run

    -- The search ends if no block is missing.
    pub rooms-found : needed ≤ run.len → LooksForFreeArea state table from n (cached_file old before) (Ok run) (cached_file mid between)
    rooms-found all = record {
      looked = looked-answer state table old before tt run mid between searched.looked;
      found = λ sound. room-found table k (counts_in state old before) from n run (searched.so_far sound) (let le = searched.short in omega (arith, all, le));
    }

    same-k : counters_of_block between.header.fields ≡ k
    same-k = ap (λ (h : Header). counters_of_block h.fields) searched.looked.header

    -- The search fails.
    pub rooms-not-grown : (fault : Fault) (new : MetadataCaches S) (after : ImageFile S) → GrowsFreeArea state table n run (cached_file mid between) (Err fault) (cached_file new after) → LooksForFreeArea state table from n (cached_file old before) (Err fault) (cached_file new after)
    rooms-not-grown fault new after grows = record { looked = looked-refused state table old before fault new after (looked-then state table old before tt mid between (Err fault) new after searched.looked grows.looked); found = λ sound. tt }

    -- The search continues.
    module _ (wide : 64 ≤ counters_of_block before.header.fields) (now : Run) (new : MetadataCaches S) (after : ImageFile S) (short : run.len < needed_for table (counters_of_block before.header.fields) n run)
        (grows : GrowsFreeArea state table n run (cached_file mid between) (Ok now) (cached_file new after)) where
      near : now.first ≤ max (run.first + 1) B
      near = subst (λ m. now.first ≤ max (run.first + 1) (length table.raw_entries * m)) same-k grows.start_bounded

      in-table : run.first < length table.raw_entries * counters_of_block between.header.fields → run.first < B
      in-table = subst (λ m. run.first < length table.raw_entries * m) same-k

      few : needed ≤ 2 * n + 4
      few = needed-few table k wide n run searched.few

      so_far : IsSafeWith state table old before → IsFreeAreaSoFar table k (counts_in state old before) from n now
      so_far sound =
          let same = counts-still state table old before tt mid between searched.looked sound in
          let was = so-far-same table k (counts_in state old before) (counts_in state mid between) from n run same (searched.so_far sound) in
          let going = grows.so_far (safe-still state table old before tt mid between searched.looked sound) from
          (subst (λ m. IsFreeAreaSoFar table m (counts_in state mid between) from n run) (sym same-k) was) in
          so-far-same table k (counts_in state mid between) (counts_in state old before) from n now (λ c. sym (same c)) (subst (λ m. IsFreeAreaSoFar table m (counts_in state mid between) from n now) same-k going)

      longer : now.len ≡ needed_for table (counters_of_block between.header.fields) n run → now.len ≡ needed
      longer is = is ∙ ap (λ m. needed_for table m n run) same-k

      pub rooms-then : RoomSearched state table from n (cached_file old before) now (cached_file new after)
      rooms-then = elim grows.further [
        | inl here ↦ record {
          looked = looked;
          within = let is = here.0 in let le = searched.within in omega (arith, is, le);
          long = let is = longer here.1 in omega (arith, is);
          short =
              let is = longer here.1 in
              let less = searched.short in
              let more : lacking table k run.first run.len ≤ lacking table k now.first now.len =
              subst (λ z. lacking table k run.first run.len ≤ lacking table k z now.len) (sym here.0) (lacking-longer table k run.first run.len now.len (omega (arith, is, less))) in
              omega (arith, is, more);
          few = let is = longer here.1 in let le = few in omega (arith, is, le);
          so_far = so_far;
        }
        | inr behind ↦ record {
          looked = looked;
          within = let le = near in let inside = in-table behind.1 in omega (arith, le, inside);
          long = let is = behind.2 in omega (arith, is);
          short = let is = behind.2 in omega (arith, is);
          few = let is = behind.2 in omega (arith, is);
          so_far = so_far;
        }
      ]
        where
          looked : Looked state {T = Unit {0}} table (cached_file old before) (Ok tt) (cached_file new after)
          looked = looked-answer state table old before now tt new after (looked-then state table old before tt mid between (Ok now) new after searched.looked grows.looked)

      -- The measure of the loop decreases.
      pub rooms-fewer :
          (length table.raw_entries * counters_of_block before.header.fields + 1 - now.first) * (2 * n + 5) + (2 * n + 4 - now.len) < (length table.raw_entries * counters_of_block before.header.fields + 1 - run.first) * (2 * n + 5) + (2 * n + 4 - run.len)
      rooms-fewer = elim grows.further [
        | inl here ↦
            let first : (B + 1 - now.first) * (2 * n + 5) ≡ (B + 1 - run.first) * (2 * n + 5) = ap (λ z. (B + 1 - z) * (2 * n + 5)) here.0 in
            let is = longer here.1 in
            let le = few in
            omega (arith, first, is, le, short)
        | inr behind ↦
            let later = behind.0 in
            let inside = in-table behind.1 in
            let step : (B + 1 - now.first + 1) * (2 * n + 5) ≤ (B + 1 - run.first) * (2 * n + 5) = mul-le-mul (omega (arith, later, inside)) (omega arith) in
            let one : (B + 1 - now.first + 1) * (2 * n + 5) ≡ (B + 1 - now.first) * (2 * n + 5) + (2 * n + 5) = omega arith in
            omega (arith, step, one)
      ]
