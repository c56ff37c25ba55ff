-- A grown refcount table with new blocks before it: the newly referenced clusters are the run of the blocks and the table.
use Rattle.std.proofs.Common.{◌≡◌, ◌≢◌, ℕ, zero, suc, ◌+◌, ◌*◌, ◌/◌, ◌%◌, ◌<◌, ◌≤◌, refl, arith, ap, sym, ◌∙◌, inl, inr, Bool, true, false, length}
use Rattle.std.specs.Prelude.{◌==◌, nat_lt, if◌then◌else◌, slice_index}
use Rattle.std.proofs.lemmas.Bool.{cases_Bool, cases_eq, cases_lt, le-ltb}
use Rattle.std.proofs.lemmas.Bool.Decides.{nat_tests}
use Rattle.std.proofs.lemmas.List.{get_or_past}
use Rattle.std.proofs.lemmas.Nat.{pow_pos}
use Rattle.qcow2_types.specs.Bytes.{Bytes, sum_below}
use Rattle.qcow2_types.specs.Words.{block_offset}
use Rattle.qcow2_types.specs.Header.{Fields, cluster_size, entries_of_cluster, refcount_table_entries}
use Rattle.qcow2_types.specs.Counts.{block_at, count, counter, counters_of_block}
use Rattle.qcow2_types.specs.References.{of_cluster, meets}
use Rattle.qcow2_types.specs.Switched.{with_reftable}
use Rattle.qcow2_types.proofs.Changes.BlockSteps.{count-there}
use Rattle.qcow2_metadata.specs.Tables.{TableValue}
use Rattle.qcow2_alloc.specs.FreeList.{covers}
use Rattle.qcow2_alloc.specs.MakingRoom.{newly, newly_counted, run_of, rank, IsReadyTable, IsGrownTable}
use Rattle.qcow2_alloc.specs.GuestView.{Metadata, counted, one_at, IsSound}
use Rattle.qcow2_alloc.proofs.Freeing.ClusterOccurrences.{covers-meets, covers-none}
use Rattle.qcow2_alloc.proofs.GuestView.QuietEntries.{covers-more}
use Rattle.qcow2_alloc.proofs.Blocks.BlockNames.{count-none, meets-one}
use Rattle.qcow2_alloc.proofs.Memory.Patches.{all-weaker, place-there, places-differ}
use Rattle.qcow2_alloc.proofs.Growth.TableSwitches.{words-at, there-weighs}

covers-two : (c s a n : ℕ) → covers c (run_of s a) + covers c (run_of (s + a) n) ≡ covers c (run_of s (a + n))
covers-two c s a n = grind (arith, nat_tests)

pub covers-most : (c s n : ℕ) → covers c (run_of s n) ≤ 1
covers-most c s n = grind (arith, nat_tests)

pub covers-inside : (c s n : ℕ) → s ≤ c → c < s + n → covers c (run_of s n) ≡ 1
covers-inside c s n from to = grind (arith, nat_tests)

pub covers-before : (c s n : ℕ) → c < s → covers c (run_of s n) ≡ 0
covers-before c s n before = grind (arith, nat_tests)

covers-behind : (c s n : ℕ) → s + n ≤ c → covers c (run_of s n) ≡ 0
covers-behind c s n behind = grind (arith, nat_tests)

pub rank-new : (new : ℕ → Bool) (i : ℕ) → new i ≡ true → rank new (suc i) ≡ rank new i + 1
unfolding sum_below
rank-new new i isnew = rw isnew (omega arith)

pub rank-old : (new : ℕ → Bool) (i : ℕ) → new i ≡ false → rank new (suc i) ≡ rank new i
unfolding sum_below
rank-old new i isold = rw isold (omega arith)

-- New blocks, one for each cluster of a run, sum up to the run.
sum-run : (N s c : ℕ) (new : ℕ → Bool) (p : ℕ → ℕ) → ((i : ℕ) → i < N → p i ≡ (if new i then one_at (s + rank new i) c else 0)) → sum_below N p ≡ covers c (run_of s (rank new N))
unfolding sum_below
sum-run zero s c new p terms = sym (covers-none c (run_of s 0) refl)
sum-run (suc N) s c new p terms =
    let below = sum-run N s c new p (λ i lt. terms i (omega (arith, lt))) in
    let term = terms N (omega arith) in
    elim (cases_Bool (new N)) [
      | inl isnew ↦
          let one : p N ≡ one_at (s + rank new N) c = term ∙ rw isnew refl in
          let more : covers c (run_of s (rank new N + 1)) ≡ covers c (run_of s (rank new N)) + one_at (s + rank new N) c = covers-more c s (rank new N) true in
          let next : rank new (suc N) ≡ rank new N + 1 = rank-new new N isnew in
          let all : covers c (run_of s (rank new (suc N))) ≡ covers c (run_of s (rank new N + 1)) = ap (λ k. covers c (run_of s k)) next in
          omega (arith, below, one, more, all)
      | inr isold ↦
          let none : p N ≡ 0 = term ∙ rw isold refl in
          let all : covers c (run_of s (rank new (suc N))) ≡ covers c (run_of s (rank new N)) = ap (λ k. covers c (run_of s k)) (rank-old new N isold) in
          omega (arith, below, none, all)
    ]

module _ (m : Metadata) (table : TableValue) (s n : ℕ) (new : ℕ → Bool) (sound : IsSound m) (grown : IsGrownTable m table s new n) where
  abbrev f : Bytes
  f = m.file

  abbrev h : Fields
  h = m.header.fields

  -- The number of new blocks.
  abbrev blocks : ℕ
  blocks = rank new (length table.raw_entries)

  abbrev o : ℕ
  o = (s + rank new (length table.raw_entries)) * cluster_size m.header.fields

  abbrev h' : Fields
  h' = with_reftable m.header.fields ((s + rank new (length table.raw_entries)) * cluster_size m.header.fields) n

  new-at : (i : ℕ) → block_at f h' i ≡ block_offset (slice_index table.raw_entries i)
  new-at = words-at f h table.raw_entries o n grown.long grown.written

  old-at : (i : ℕ) → block_at f h i ≡ block_offset (slice_index m.table.raw_entries i)
  old-at i = elim (cases_lt i (refcount_table_entries h)) [
    | inl lt ↦ sym (sound.table.names i lt)
    | inr le ↦
        let past : nat_lt i (refcount_table_entries h) ≡ false = le-ltb _ _ le in
        rw past (sym (ap block_offset (get_or_past m.table.raw_entries i 0 (omega (arith, le, sound.table.long)))))
  ]

  new-block : (i : ℕ) → new i ≡ true → (block_at f h i ≡ 0) × (block_at f h' i ≡ (s + rank new i) * cluster_size h)
  new-block i isnew = (old-at i ∙ grown.empty i isnew, new-at i ∙ grown.news i isnew)

  old-block : (i : ℕ) → new i ≡ false → block_at f h' i ≡ block_at f h i
  old-block i isold = new-at i ∙ grown.olds i isold ∙ sym (old-at i)

  there : (j : ℕ) → (s + j) * cluster_size h ≢ 0
  there j = place-there (cluster_size h) (s + j) (pow_pos h.cluster_bits) (λ none. grown.cluster_nonzero (omega (arith, none)))

  -- The newly referenced clusters are the run.
  pub newly-run : (c : ℕ) → newly m (s + blocks) n c ≡ covers c (run_of s (blocks + n))
  newly-run c =
      let table_there = covers-meets h c (run_of (s + blocks) n) in
      let sum = sum-run (n * entries_of_cluster h) s c new (λ i. if block_at f h i == 0 then of_cluster h (meets h c) (block_at f h' i) else 0) (λ i lt. term i) in
      let all : rank new (n * entries_of_cluster h) ≡ blocks = ap (rank new) (sym grown.long) in
      let run : covers c (run_of s (rank new (n * entries_of_cluster h))) ≡ covers c (run_of s blocks) = ap (λ k. covers c (run_of s k)) all in
      let both = covers-two c s blocks n in
      omega (arith, table_there, sum, run, both)
    where
      zero-weighs : (p w : ℕ) → p ≡ 0 → (if p == 0 then 0 else w) ≡ 0
      zero-weighs p w none = rw none refl

      off-weighs : (p w : ℕ) → p ≢ 0 → (if p == 0 then w else 0) ≡ 0
      off-weighs p w some = grind (arith, nat_tests)

      old-term : (i : ℕ) → new i ≡ false → (if block_at f h i == 0 then of_cluster h (meets h c) (block_at f h' i) else 0) ≡ 0
      old-term i isold = elim (cases_eq (block_at f h i) 0) [
        | inl none ↦ rw none (zero-weighs (block_at f h' i) (meets h c (block_at f h' i) (cluster_size h)) (old-block i isold ∙ none))
        | inr some ↦ off-weighs (block_at f h i) (of_cluster h (meets h c) (block_at f h' i)) some
      ]

      new-term : (i : ℕ) → new i ≡ true → (if block_at f h i == 0 then of_cluster h (meets h c) (block_at f h' i) else 0) ≡ one_at (s + rank new i) c
      new-term i isnew =
          let is = new-block i isnew in
          rw is.0 (ap (λ p. of_cluster h (meets h c) p) is.1 ∙ there-weighs ((s + rank new i) * cluster_size h) (there (rank new i)) (meets h c ((s + rank new i) * cluster_size h) (cluster_size h)) ∙ meets-one h c (s + rank new i))

      term : (i : ℕ) → (if block_at f h i == 0 then of_cluster h (meets h c) (block_at f h' i) else 0) ≡ (if new i then one_at (s + rank new i) c else 0)
      term i = elim (cases_Bool (new i)) [
        | inl isnew ↦ new-term i isnew ∙ sym (rw isnew refl)
        | inr isold ↦ old-term i isold ∙ sym (rw isold refl)
      ]

  counter-there : (place i : ℕ) → counter f h' place i ≡ counter f h place i
  unfolding counter
  counter-there place i = refl

  -- A cluster without a block isn't in the run, unless a new block counts it.
  uncovered : (c : ℕ) → block_at f h (c / counters_of_block h) ≡ 0 → new (c / counters_of_block h) ≡ false → covers c (run_of s (blocks + n)) ≡ 0
  uncovered c none off = elim (cases_lt 0 (covers c (run_of s (blocks + n)))) [
    | inl some ↦ let one = (grown.counted c some off).0 in let uncounted = count-none f h c none in absurd (omega (arith, one, uncounted))
    | inr least ↦ omega (arith, least)
  ]

  own-count : (c : ℕ) → block_at f h (c / counters_of_block h) ≡ 0 → count f h' c ≡ newly m (s + blocks) n c
  own-count c none = elim (cases_Bool (new (c / counters_of_block h))) [
    | inl isnew ↦
        let r = rank new (c / counters_of_block h) in
        let place : block_at f h' (c / counters_of_block h) ≡ (s + r) * cluster_size h = (new-block (c / counters_of_block h) isnew).1 in
        count-there f h' c (λ z. there r (sym place ∙ z))
        ∙ ap (λ p. counter f h' p (c % counters_of_block h)) place
        ∙ counter-there ((s + r) * cluster_size h) (c % counters_of_block h)
        ∙ grown.counters (c / counters_of_block h) c isnew refl ∙ sym (newly-run c)
    | inr off ↦
        let empty : count f h' c ≡ 0 = count-none f h' c (old-block (c / counters_of_block h) off ∙ none) in
        empty ∙ sym (newly-run c ∙ uncovered c none off)
  ]

  other-count : (c : ℕ) → block_at f h (c / counters_of_block h) ≢ 0 → (newly m (s + blocks) n c ≤ count f h c) × (newly m (s + blocks) n c ≤ counted m c)
  other-count c some =
      let is = newly-run c in
      let most = covers-most c s (blocks + n) in
      elim (cases_Bool (new (c / counters_of_block h))) [
        | inl isnew ↦ absurd (some (new-block (c / counters_of_block h) isnew).0)
        | inr off ↦ elim (cases_lt 0 (covers c (run_of s (blocks + n)))) [
          | inl covered ↦ let enough = grown.counted c covered off in (omega (arith, is, most, enough.0), omega (arith, is, most, enough.1))
          | inr none ↦ (omega (arith, is, none), omega (arith, is, none))
        ]
      ]

  -- Old blocks count the clusters of the run that no new block counts.
  pub old-counts : (c : ℕ) → new (c / counters_of_block h) ≡ false → newly_counted m (s + blocks) n c ≡ covers c (run_of s (blocks + n))
  old-counts c off = elim (cases_eq (block_at f h (c / counters_of_block h)) 0) [
    | inl none ↦ rw none (sym (uncovered c none off))
    | inr there ↦ there-weighs (block_at f h (c / counters_of_block h)) there (newly m (s + blocks) n c) ∙ newly-run c
  ]

  pub new-counts : (c : ℕ) → new (c / counters_of_block h) ≡ true → newly_counted m (s + blocks) n c ≡ 0
  new-counts c isnew = let none : block_at f h (c / counters_of_block h) ≡ 0 = (new-block (c / counters_of_block h) isnew).0 in rw none refl

  same-cluster : (a d : ℕ) → a * cluster_size h ≡ d * cluster_size h → a ≡ d
  same-cluster a d same = elim (cases_eq a d) [
    | inl e ↦ e
    | inr apart ↦ absurd (places-differ (cluster_size h) a d (pow_pos h.cluster_bits) apart same)
  ]

  new-key : (key k : ℕ) → block_at f h k ≡ 0 → block_at f h' k ≡ key * cluster_size h → key ≢ 0 → (new k ≡ true) × (key ≡ s + rank new k)
  new-key key k none place some = elim (cases_Bool (new k)) [
    | inl isnew ↦ (isnew, same-cluster key (s + rank new k) (sym place ∙ (new-block k isnew).1))
    | inr off ↦ absurd (place-there (cluster_size h) key (pow_pos h.cluster_bits) some (sym place ∙ old-block k off ∙ none))
  ]

  pub grown-ready : IsReadyTable m table (s + blocks) n
  grown-ready = record {
    layout = grown.layout;
    long = grown.long;
    placed = grown.placed;
    written = grown.written;
    sane = grown.sane;
    olds = λ i lt some. elim (cases_Bool (new i)) [
      | inl isnew ↦ absurd (some (grown.empty i isnew))
      | inr off ↦ (omega (arith, lt, grown.longer), grown.olds i off)
    ];
    once = λ c. let is = newly-run c in let most = covers-most c s (blocks + n) in omega (arith, is, most);
    free = λ c some. let is = newly-run c in grown.free c (omega (arith, is, some));
    own = own-count;
    others = other-count;
    cached = all-weaker _ _ (λ e fresh k none place some. let at = new-key e.0 k none place some in fresh k at.0 at.1) m.cached.blocks grown.cached;
  }
