-- Searching for a run of clusters with refcount 0, block by block.
use Rattle.std.proofs.Common.{◌≡◌, ℕ, ◌+◌, ◌-◌, ◌*◌, ◌/◌, ◌%◌, ◌<◌, ◌≤◌, arith, ap, sym, subst, ◌∙◌, List, length, None, Some, Result, Ok, Err}
use Rattle.std.specs.Prelude.{IfOk, max}
use Rattle.std.proofs.lemmas.Nat.{mod_below, div-mul-add, le-div}
use Rattle.std.proofs.Math.Nat.{mod-add-div', mul-le-mul}
use Rattle.imago_storage.specs.State.{StorageState}
use Rattle.imago_storage.specs.declared.fault.Fault.{Fault}
use Rattle.qcow2_types.specs.Bytes.{bytes_of}
use Rattle.qcow2_types.specs.Header.{Header}
use Rattle.qcow2_types.specs.Counts.{counters_of_block}
use Rattle.qcow2_types.proofs.Counting.Counters.{some-counters}
use Rattle.qcow2_metadata.specs.Tables.{TableValue}
use Rattle.qcow2_alloc.specs.declared.allocation.searching.Run.{Run}
use Rattle.qcow2_alloc.specs.declared.cache.MetadataCaches.{MetadataCaches}
use Rattle.qcow2_alloc.specs.declared.file.ImageFile.{ImageFile}
use Rattle.qcow2_alloc.specs.Allocators.{referenced_block, UsesBlock}
use Rattle.qcow2_alloc.specs.Caches.{CachedFile, cached_file}
use Rattle.qcow2_alloc.specs.Scanning.{next_of, IsRunSoFar, ScansSome, Reads, ExtendsRun}
use Rattle.qcow2_alloc.specs.SearchingClusters.{counts_in, IsSafeWith, Looked, LooksForRun}
use Rattle.qcow2_alloc.proofs.Searching.SearchSequences.{IsRead, looked-none, looked-answer, looked-refused, looked-then, safe-still, counts-still, reads-looked, reads-known, uncounted, uncounted-behind}
use Rattle.qcow2_alloc.proofs.Blocks.TableBlocks.{unnamed-block}
use Rattle.qcow2_alloc.proofs.Memory.Patches.{shaped-in}
use Rattle.qcow2_alloc.proofs.Searching.RunsInSearch.{blocks-before, run-same, longer, run-longer, run-found, run-last}

ok-weaker : {T E : Type 0} (P Q : T → Type 0) → ((v : T) → P v → Q v) → (result : Result T E) → IfOk result P → IfOk result Q
ok-weaker P Q weaker (Ok v) holds = weaker v holds
ok-weaker P Q weaker (Err e) holds = tt

module _ {S : Type 0} (state : S → StorageState) (table : TableValue) (n : ℕ) (run : Run) (old : MetadataCaches S) (before : ImageFile S) where
  abbrev k : ℕ
  k = counters_of_block before.header.fields

  -- The block index of the cluster after the run, and the cluster's index in the block.
  abbrev i : ℕ
  i = next_of run / k

  abbrev index : ℕ
  index = next_of run % k

  abbrev ScansRun : List ℕ → Run → Type 0
  ScansRun counters now = ScansSome counters n index run now

  split : next_of run ≡ i * k + index
  split = let both = mod-add-div' (next_of run) k in omega (arith, both)

  abbrev Read : (key : ℕ) → referenced_block table i ≡ Some key → MetadataCaches S → ImageFile S → Run → Type 0
  Read key named new after = IsRead state table ScansRun key i named old before new after

  -- The block is scanned.
  pub extends-some : (key : ℕ) → referenced_block table i ≡ Some key → (result : Result Run Fault) (new : MetadataCaches S) (after : ImageFile S) → UsesBlock state key (Reads k ScansRun) (cached_file old before) result (cached_file new after) → ExtendsRun state table n run (cached_file old before) result (cached_file new after)
  extends-some key named result new after uses =
      let known = reads-known state table ScansRun key i named old before new after result uses in record {
        looked = reads-looked state table ScansRun key i named old before new after result uses;
        more = ok-weaker (Read key named new after) (λ (now : Run). next_of run < next_of now) (λ now read. let moved = read.reads.scans.moved in let more = read.reads.more in omega (arith, moved, more)) result known;
        rising = ok-weaker (Read key named new after) (λ (now : Run). run.first ≤ now.first) (λ now read. read.reads.scans.rising) result known;
        end_in_block = ok-weaker (Read key named new after) (λ (now : Run). next_of now ≤ (i + 1) * k)
            (λ now read. let moved = read.reads.scans.moved in let inside = read.reads.inside in let long = read.long in let at = split in omega (arith, moved, inside, long, at)) result known;
        so_far = λ sound. ok-weaker (Read key named new after) (λ (now : Run). (from : ℕ) → IsRunSoFar (counts_in state old before) from n run → IsRunSoFar (counts_in state old before) from n now)
            (λ now read from so_far. read.reads.scans.so_far (counts_in state old before) from (i * k) split (read.counted sound) so_far) result known;
      }

  -- There is no block, so its clusters have refcount 0.
  pub extends-none : 0 < k → referenced_block table i ≡ None → ExtendsRun state table n run (cached_file old before) (Ok (longer run (k - index))) (cached_file old before)
  extends-none some none =
      let at = split in
      let below = mod_below (next_of run) k some in record {
        looked = looked-none state table (longer run (k - index)) old before;
        more = omega (arith, below);
        rising = omega arith;
        end_in_block = omega (arith, at, below);
        so_far = λ sound from so_far. run-longer (counts_in state old before) from n run (k - index)
            (λ c ge lt.
            let own : c / k ≡ i = same-block c ge (omega (arith, lt, at, below)) in
            uncounted state table old before sound c (rw own (unnamed-block (bytes_of (state before.image).bytes) before.header table i sound.table_of_file none)))
            so_far;
      }
    where
      same-block : (c : ℕ) → next_of run ≤ c → c < i * k + k → c / k ≡ i
      same-block c ge lt =
          let at = split in
          let j = c - i * k in
          let here : c ≡ i * k + j = omega (arith, at, ge) in
          ap (λ d. d / k) here ∙ div-mul-add i k j (omega (arith, at, ge, lt))

-- The state of the search for a run.
pub record RunSearched {S : Type 0} (state : S → StorageState) (table : TableValue) (from n : ℕ) (old : CachedFile S) (run : Run) (new : CachedFile S) : Type 0 where
  pub looked : Looked state {T = Unit {0}} table old (Ok tt) new
  pub behind : from ≤ run.first
  pub within : next_of run ≤ max from (length table.raw_entries * counters_of_block old.file.header.fields)
  pub so_far : IsSafeWith state table old.caches old.file → IsRunSoFar (counts_in state old.caches old.file) from n run

module _ {S : Type 0} (state : S → StorageState) (table : TableValue) (from n : ℕ) (old : MetadataCaches S) (before : ImageFile S) where
  module _ (run : Run) (mid : MetadataCaches S) (between : ImageFile S) (searched : RunSearched state table from n (cached_file old before) run (cached_file mid between)) where
    -- The search continues.
    pub searched-then : next_of run / counters_of_block before.header.fields < length table.raw_entries → (now : Run) (new : MetadataCaches S) (after : ImageFile S) → ExtendsRun state table n run (cached_file mid between) (Ok now) (cached_file new after) → RunSearched state table from n (cached_file old before) now (cached_file new after)
    searched-then inside now new after extends = record {
      behind = let first = searched.behind in let rising = extends.rising in omega (arith, first, rising);
      within =
          let near : next_of now ≤ (next_of run / counters_of_block before.header.fields + 1) * counters_of_block before.header.fields =
          subst (λ (h : Header). next_of now ≤ (next_of run / counters_of_block h.fields + 1) * counters_of_block h.fields) searched.looked.header extends.end_in_block in
          let le : (next_of run / counters_of_block before.header.fields + 1) * counters_of_block before.header.fields ≤ length table.raw_entries * counters_of_block before.header.fields = mul-le-mul (omega (arith, inside)) (omega arith) in
          omega (arith, near, le);
      looked = looked-answer state table old before now tt new after (looked-then state table old before tt mid between (Ok now) new after searched.looked extends.looked);
      so_far = λ sound.
          let same = counts-still state table old before tt mid between searched.looked sound in
          run-same (counts_in state mid between) (counts_in state old before) from n now (λ c. sym (same c))
          (extends.so_far (safe-still state table old before tt mid between searched.looked sound) from
          (run-same (counts_in state old before) (counts_in state mid between) from n run same (searched.so_far sound)));
    }

    -- The search fails.
    pub searched-refused : (fault : Fault) (new : MetadataCaches S) (after : ImageFile S) → ExtendsRun state table n run (cached_file mid between) (Err fault) (cached_file new after) → LooksForRun state table from n (cached_file old before) (Err fault) (cached_file new after)
    searched-refused fault new after extends = record { looked = looked-refused state table old before fault new after (looked-then state table old before tt mid between (Err fault) new after searched.looked extends.looked); result_bounded = tt; found = λ sound. tt }

    -- The search ends with a run that is long enough.
    pub searched-long : n ≤ run.len → LooksForRun state table from n (cached_file old before) (Ok run.first) (cached_file mid between)
    searched-long long = record { looked = looked-answer state table old before tt run.first mid between searched.looked; result_bounded = (searched.behind, let within = searched.within in omega (arith, within)); found = λ sound. run-found (counts_in state old before) from n run long (searched.so_far sound) }

    -- The search ends after the clusters that the table counts.
    pub searched-all : length table.raw_entries ≤ next_of run / counters_of_block before.header.fields → LooksForRun state table from n (cached_file old before) (Ok run.first) (cached_file mid between)
    searched-all past = record {
      looked = looked-answer state table old before tt run.first mid between searched.looked;
      result_bounded = (searched.behind, let within = searched.within in omega (arith, within));
      found = λ sound.
          let h = before.header.fields in
          let some = some-counters h (shaped-in (bytes_of (state before.image).bytes) before.header sound.well_formed.consistent) in
          let all = blocks-before (next_of run) (length table.raw_entries) (counters_of_block h) past in
          run-last (counts_in state old before) from n run
          (λ c ge. uncounted-behind state table old before sound c (le-div (length table.raw_entries) c (counters_of_block h) some (omega (arith, all, ge)))) (searched.so_far sound);
    }
