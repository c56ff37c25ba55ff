-- Searching for a cluster with refcount 0, block by block.
use Rattle.std.proofs.Common.{◌≡◌, ◌≢◌, ℕ, ◌+◌, ◌*◌, ◌/◌, ◌%◌, ◌<◌, ◌≤◌, ◌-◌, arith, ap, sym, subst, ◌∙◌, List, length, Option, None, Some, Result, Ok, Err, inl, inr}
use Rattle.std.specs.Prelude.{IfOk, slice_index}
use Rattle.std.proofs.lemmas.Nat.{div-mul-add, pow_pos}
use Rattle.std.proofs.lemmas.Bool.{cases_lt}
use Rattle.std.proofs.Math.Nat.{mod-add-div'}
use Rattle.imago_storage.specs.State.{StorageState}
use Rattle.imago_storage.specs.declared.fault.Fault.{Fault}
use Rattle.qcow2_types.specs.Bytes.{bytes_of}
use Rattle.qcow2_types.specs.Header.{Header, cluster_size}
use Rattle.qcow2_types.specs.Counts.{block_at, counters_of_block}
use Rattle.qcow2_metadata.specs.Tables.{TableValue}
use Rattle.qcow2_alloc.specs.declared.cache.MetadataCaches.{MetadataCaches}
use Rattle.qcow2_alloc.specs.declared.file.ImageFile.{ImageFile}
use Rattle.qcow2_alloc.specs.Allocators.{referenced_block, UsesBlock}
use Rattle.qcow2_alloc.specs.Caches.{cached_file}
use Rattle.qcow2_alloc.specs.Scanning.{AreCounted, FindsZero, Reads}
use Rattle.qcow2_alloc.specs.SearchingClusters.{HasCounter, FindsFree, counts_in, IsSafeWith, Looked, LooksForFree}
use Rattle.qcow2_alloc.proofs.Searching.SearchSequences.{IsRead, looked-none, looked-answer, looked-then, safe-still, counts-still, blocks-still, reads-looked, reads-known}
use Rattle.qcow2_alloc.proofs.Blocks.TableBlocks.{named-block, unnamed-block}
use Rattle.qcow2_alloc.proofs.Memory.Patches.{place-there}

-- The cluster of a counter's index, in a block that counts clusters from `base` on.
abbrev pub located : ℕ → Result (Option ℕ) Fault → Result (Option ℕ) Fault
located base (Ok (Some j)) = Ok (Some (base + j))
located base (Ok None) = Ok None
located base (Err fault) = Err fault

-- The counters of one block are the refcounts of its clusters.
module _ (counts : ℕ → ℕ) (i k index : ℕ) (counters : List ℕ) (long : length counters ≡ k) (counted : AreCounted counts (i * k) counters) where
  counted-above : (stop z : ℕ) → ((j : ℕ) → index ≤ j → j < stop → 0 < slice_index counters j) → stop ≤ k → i * k + index ≤ z → z < i * k + stop → 0 < counts z
  counted-above stop z above inside ge lt =
      let j = z - i * k in
      let is : z ≡ i * k + j = omega (arith, ge) in
      let here : counts z ≡ slice_index counters j = ap counts is ∙ counted j (omega (arith, is, lt, inside, long)) in
      let some = above j (omega (arith, is, ge)) (omega (arith, is, lt)) in
      omega (arith, here, some)

module _ {S : Type 0} (state : S → StorageState) (table : TableValue) (from : ℕ) (old : MetadataCaches S) (before : ImageFile S) where
  abbrev k : ℕ
  k = counters_of_block before.header.fields

  -- The block index of the first cluster, and the cluster's index in the block.
  abbrev i : ℕ
  i = from / k

  abbrev index : ℕ
  index = from % k

  split : from ≡ i * k + index
  split = let both = mod-add-div' from k in omega (arith, both)

  own : (j : ℕ) → j < k → (i * k + j) / k ≡ i
  own j lt = div-mul-add i k j lt

  -- There is no block.
  pub finds-none : referenced_block table i ≡ None → LooksForFree state table from ((i + 1) * k) (cached_file old before) (Ok None) (cached_file old before)
  finds-none none = record {
    looked = looked-none state table None old before;
    found = λ sound z ge lt there.
        let at = split in
        let j = z - i * k in
        let is : z ≡ i * k + j = omega (arith, at, ge) in
        let same : z / k ≡ i = ap (λ n. n / k) is ∙ own j (omega (arith, at, ge, lt)) in
        absurd (there (rw same (unnamed-block (bytes_of (state before.image).bytes) before.header table i sound.table_of_file none)));
  }

  module _ (key : ℕ) (named : referenced_block table i ≡ Some key) (new : MetadataCaches S) (after : ImageFile S) where
    abbrev Read : Option ℕ → Type 0
    Read = IsRead state table (FindsZero index) key i named old before new after

    abbrev Finds : Option ℕ → Type 0
    Finds = FindsFree (bytes_of (state before.image).bytes) before.header.fields (counts_in state old before) from ((i + 1) * k)

    there : IsSafeWith state table old before → block_at (bytes_of (state before.image).bytes) before.header.fields i ≢ 0
    there sound empty =
        let at = named-block (bytes_of (state before.image).bytes) before.header table i sound.table_of_file key sound.well_formed.consistent named in
        place-there (cluster_size before.header.fields) key (pow_pos before.header.fields.cluster_bits) at.some (sym at.place ∙ empty)

    finds : IsSafeWith state table old before → (found : Option ℕ) → Read found → IfOk (located (i * k) (Ok found)) Finds
    finds sound None read =
        λ z ge lt has. let at = split in let long = read.long in
        counted-above (counts_in state old before) i k index read.counters long (read.counted sound) k z (λ j ge' lt'. read.reads j ge' (omega (arith, lt', long))) (omega arith) (omega (arith, at, ge)) (omega (arith, lt))
    finds sound (Some j) read =
        let at = split in
        let long = read.long in
        let is = read.reads in
        let inside : j < k = (let lt = is.1 in omega (arith, lt, long)) in
        let ge = is.0 in
        record {
          not_before_start = omega (arith, at, ge);
          before = omega (arith, inside);
          has_counter = rw (own j inside) (there sound);
          free = read.counted sound j is.1 ∙ is.2;
          least = λ z ge' lt has. counted-above (counts_in state old before) i k index read.counters long (read.counted sound) j z is.3 (omega (arith, inside)) (omega (arith, at, ge')) (omega (arith, lt));
        }

    pub finds-inside : (j : ℕ) → UsesBlock state key (Reads k (FindsZero index)) (cached_file old before) (Ok (Some j)) (cached_file new after) → j < k
    finds-inside j uses =
        let read : Read (Some j) = reads-known state table (FindsZero index) key i named old before new after (Ok (Some j)) uses in
        let long = read.long in
        let lt = read.reads.1 in
        omega (arith, lt, long)

    -- The block is searched.
    pub finds-some : (result : Result (Option ℕ) Fault) → UsesBlock state key (Reads k (FindsZero index)) (cached_file old before) result (cached_file new after) → LooksForFree state table from ((i + 1) * k) (cached_file old before) (located (i * k) result) (cached_file new after)
    finds-some result uses = by-result result (reads-looked state table (FindsZero index) key i named old before new after result uses) (reads-known state table (FindsZero index) key i named old before new after result uses)
      where
        by-found : (found : Option ℕ) → Looked state table (cached_file old before) (Ok found) (cached_file new after) → Read found → LooksForFree state table from ((i + 1) * k) (cached_file old before) (located (i * k) (Ok found)) (cached_file new after)
        by-found None looked read = record { looked = looked; found = λ sound. finds sound None read }
        by-found (Some j) looked read = record { looked = looked-answer state table old before (Some j) (Some (i * k + j)) new after looked; found = λ sound. finds sound (Some j) read }

        by-result : (r : Result (Option ℕ) Fault) → Looked state table (cached_file old before) r (cached_file new after) → IfOk r Read → LooksForFree state table from ((i + 1) * k) (cached_file old before) (located (i * k) r) (cached_file new after)
        by-result (Ok found) looked read = by-found found looked read
        by-result (Err fault) looked read = record { looked = looked; found = λ sound. tt }

-- The state of the search for a free cluster.
pub record FreeSearched {S : Type 0} (state : S → StorageState) (table : TableValue) (from : ℕ) (old : MetadataCaches S) (before : ImageFile S) (next : ℕ) (new : MetadataCaches S) (after : ImageFile S) : Type 0 where
  pub looked : Looked state {T = Unit {0}} table (cached_file old before) (Ok tt) (cached_file new after)
  pub behind : from ≤ next
  pub passed : IsSafeWith state table old before → (z : ℕ) → from ≤ z → z < next → HasCounter (bytes_of (state before.image).bytes) before.header.fields z → 0 < counts_in state old before z

module _ {S : Type 0} (state : S → StorageState) (table : TableValue) (from : ℕ) (old : MetadataCaches S) (before : ImageFile S) where
  module _ (next : ℕ) (mid : MetadataCaches S) (between : ImageFile S) (searched : FreeSearched state table from old before next mid between) where
    module _ (sound : IsSafeWith state table old before) where
      same-count : (c : ℕ) → counts_in state mid between c ≡ counts_in state old before c
      same-count = counts-still state table old before tt mid between searched.looked sound

      sound-mid : IsSafeWith state table mid between
      sound-mid = safe-still state table old before tt mid between searched.looked sound

      same-counter : (c : ℕ) → block_at (bytes_of (state between.image).bytes) between.header.fields (c / counters_of_block between.header.fields) ≡ block_at (bytes_of (state before.image).bytes) before.header.fields (c / counters_of_block before.header.fields)
      same-counter c =
          subst (λ (h : Header). block_at (bytes_of (state between.image).bytes) h.fields (c / counters_of_block h.fields) ≡ block_at (bytes_of (state before.image).bytes) before.header.fields (c / counters_of_block before.header.fields)) (sym searched.looked.header)
          (blocks-still state table old before tt mid between searched.looked sound (c / counters_of_block before.header.fields))

      -- The clusters that were passed, and those of the next block.
      passed-more : (stop : ℕ) → ((z : ℕ) → next ≤ z → z < stop → HasCounter (bytes_of (state between.image).bytes) between.header.fields z → 0 < counts_in state mid between z)
          → (z : ℕ) → from ≤ z → z < stop → HasCounter (bytes_of (state before.image).bytes) before.header.fields z → 0 < counts_in state old before z
      passed-more stop more z ge lt has = elim (cases_lt z next) [
        | inl was ↦ searched.passed sound z ge was has
        | inr now ↦ subst (λ n. 0 < n) (same-count z) (more z now lt (λ none. has (sym (same-counter z) ∙ none)))
      ]

    module _ (end : ℕ) (new : MetadataCaches S) (after : ImageFile S) where
      -- The search continues after a block.
      pub passed-then : next ≤ end → LooksForFree state table next end (cached_file mid between) (Ok None) (cached_file new after) → FreeSearched state table from old before end new after
      passed-then le looks = record {
        looked = looked-answer state table old before None tt new after (looked-then state table old before tt mid between (Ok None) new after searched.looked looks.looked);
        behind = let was = searched.behind in omega (arith, was, le);
        passed = λ sound. passed-more sound end (looks.found (sound-mid sound));
      }

      -- The search fails.
      pub passed-refused : (fault : Fault) (last : ℕ) → LooksForFree state table next end (cached_file mid between) (Err fault) (cached_file new after) → LooksForFree state table from last (cached_file old before) (Err fault) (cached_file new after)
      passed-refused fault last looks = record { looked = looked-then state table old before tt mid between (Err fault) new after searched.looked looks.looked; found = λ sound. tt }

      -- The search finds a cluster.
      pub passed-found : (c last : ℕ) → end ≤ last → LooksForFree state table next end (cached_file mid between) (Ok (Some c)) (cached_file new after) → LooksForFree state table from last (cached_file old before) (Ok (Some c)) (cached_file new after)
      passed-found c last le looks = record {
        looked = looked-then state table old before tt mid between (Ok (Some c)) new after searched.looked looks.looked;
        found = λ sound.
            let first = looks.found (sound-mid sound) in record {
              not_before_start = let was = searched.behind in let ge = first.not_before_start in omega (arith, was, ge);
              before = let lt = first.before in omega (arith, lt, le);
              has_counter = λ none. first.has_counter (same-counter sound c ∙ none);
              free = sym (same-count sound c) ∙ first.free;
              least = λ z ge lt. passed-more sound c first.least z ge lt;
            };
      }

    -- The search ends without a cluster.
    pub passed-all : (last : ℕ) → last ≤ next → LooksForFree state table from last (cached_file old before) (Ok None) (cached_file mid between)
    passed-all last le = record {
      looked = looked-answer state table old before tt None mid between searched.looked;
      found = λ sound z ge lt. searched.passed sound z ge (omega (arith, lt, le));
    }
