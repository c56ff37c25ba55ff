-- Switching the header to another refcount table.
use Rattle.std.proofs.Common.{◌≡◌, ◌≢◌, ℕ, ◌+◌, ◌*◌, ◌/◌, ◌%◌, ◌^◌, ◌<◌, ◌≤◌, refl, arith, ap, sym, subst, ◌∙◌, List, length, inl, inr, true, false, Some, None, Ok}
use Rattle.std.specs.Prelude.{◌⊎◌, Bool, ◌&&◌, ◌==◌, nat_lt, if◌then◌else◌, slice_index, IsTrue, Result}
use Rattle.std.proofs.lemmas.Bool.{cases_eq, cases_lt, lt-ltb, le-ltb}
use Rattle.std.proofs.lemmas.Bool.Decides.{nat_tests}
use Rattle.std.proofs.lemmas.Nat.{pow_pos}
use Rattle.std.proofs.Math.Nat.{div-mul-le_self, lt-div-mul-add, mul-div_left, pow-le-pow_right}
use Rattle.std.proofs.lemmas.List.{get_or_past}
use Rattle.imago_storage.specs.State.{StorageState}
use Rattle.imago_storage.specs.Through.{AtomicWriteOutcome}
use Rattle.imago_storage.specs.declared.fault.Fault.{Fault}
use Rattle.qcow2_types.specs.Bytes.{Bytes, bytes_of, splice, raw_entry}
use Rattle.qcow2_types.specs.Words.{Mapping, block_offset, reftable_entry_valid, bits_at, is_cluster_offset}
use Rattle.qcow2_types.specs.Header.{Fields, Header, Shaped, first_fault, rules_of_size, header_of, cluster_size, entries_of_cluster}
use Rattle.qcow2_types.specs.HeaderBytes.{first_bytes}
use Rattle.qcow2_types.specs.Entries.{l2_table}
use Rattle.qcow2_types.specs.Counts.{block_at, count, counter, counter_of, counter_bits, counters_of_block}
use Rattle.qcow2_types.specs.Frames.{Same, Outside}
use Rattle.qcow2_types.specs.References.{Weight, of_cluster, structure, of_mapping, meets}
use Rattle.qcow2_types.specs.Slots.{slot, Live}
use Rattle.qcow2_types.specs.Switched.{with_reftable, with_refcount_table, newly_referenced, RefcountTableSwitched}
use Rattle.qcow2_types.specs.Versions.{copied, SamePlaces}
use Rattle.qcow2_types.proofs.Counting.Consistent.{named-counted, meets-own, header-kept}
use Rattle.qcow2_types.proofs.Counting.Counters.{count-same}
use Rattle.qcow2_types.proofs.Counting.Either.{refs-file, refs-cached}
use Rattle.qcow2_types.proofs.Changes.Frames.{splice-is-outside, header-part, entries-fit, word-same, block_at-same}
use Rattle.qcow2_types.proofs.Fields.HeaderFrame.{header-fields}
use Rattle.qcow2_types.proofs.Switching.HeaderSwitch.{loaded-parts, length-first_bytes, switch-header, first-fields-fit, name-behind}
use Rattle.qcow2_types.specs.HeaderSwitch.{OnlyPlaces}
use Rattle.qcow2_types.proofs.Counting.Parts.{header, block-inside}
use Rattle.qcow2_types.proofs.Switching.RefcountTableSwitch.{refcount-table-switched}
use Rattle.qcow2_types.proofs.Numbers.Sums.{sum-same, term-le-sum}
use Rattle.qcow2_types.proofs.Changes.WriteBack.{place-whole}
use Rattle.qcow2_metadata.specs.Tables.{TableValue}
use Rattle.qcow2_metadata.specs.Blocks.{Block, counters_in}
use Rattle.qcow2_alloc.specs.WellFormedness.{WellFormed, IsCachedBlock}
use Rattle.qcow2_alloc.specs.MakingRoom.{newly, formerly, newly_counted, IsReadyTable, TableSwitched, with_table}
use Rattle.qcow2_alloc.specs.GuestView.{IsTableOf, Metadata, in_memory, counted, referenced, referenced_at_all, waiting, IsSound, GuestUnchanged, ShowsEither, IsIn, PreservesGuest}
use Rattle.qcow2_alloc.proofs.GuestView.SingleRequests.{at-once-quietly, at-once-file}
use Rattle.qcow2_alloc.proofs.Memory.MemoryImage.{safe-memory}
use Rattle.qcow2_alloc.proofs.Memory.MemoryWords.{places-in-memory}
use Rattle.qcow2_alloc.proofs.Blocks.BlockNames.{count-none}
use Rattle.qcow2_alloc.proofs.Memory.Patches.{all-weaker, all-both, place-there, shaped-in}
use Rattle.qcow2_alloc.proofs.GuestView.QuietEntries.{metadata-among}
use Rattle.qcow2_alloc.proofs.GuestView.ShownDisks.{mapping-meets, in-cluster, memory-same}
use Rattle.qcow2_alloc.proofs.Memory.StructureWrites.{splice-agrees, memory-start, memory-beside, unmet-stays}
use Rattle.qcow2_alloc.proofs.Memory.FittingWords.{table-fits, counters-same}
use Rattle.qcow2_alloc.proofs.Memory.KeptWords.{word-contents, structure-named, named-more, copied-stays, ordered-still, block-fits}

count-moved : (f : Bytes) (h : Fields) (o n c : ℕ) → block_at f (with_reftable h o n) (c / counters_of_block h) ≡ block_at f h (c / counters_of_block h) → count f (with_reftable h o n) c ≡ count f h c
unfolding count counter
count-moved f h o n c same = ap (λ p. if p == 0 then 0 else counter_of f (counter_bits h) p (c % counters_of_block h)) same

second : (a b : Bool) → (a && b) ≡ true → b ≡ true
second true b both = both
second false b both = absurd (cc both)

pub words-at : (f : Bytes) (h : Fields) (raw_entries : List ℕ) (o n : ℕ) → length raw_entries ≡ n * entries_of_cluster h → ((i : ℕ) → i < length raw_entries → raw_entry f o i ≡ slice_index raw_entries i) → (i : ℕ) → block_at f (with_reftable h o n) i ≡ block_offset (slice_index raw_entries i)
words-at f h raw_entries o n long written i = elim (cases_lt i (n * entries_of_cluster h)) [
  | inl lt ↦ let within : nat_lt i (n * entries_of_cluster h) ≡ true = lt-ltb _ _ lt in rw within (ap block_offset (written i (omega (arith, lt, long))))
  | inr le ↦
      let past : nat_lt i (n * entries_of_cluster h) ≡ false = le-ltb _ _ le in
      rw past (sym (ap block_offset (get_or_past raw_entries i 0 (omega (arith, le, long)))))
]

pub there-weighs : (p : ℕ) → p ≢ 0 → (w : ℕ) → (if p == 0 then 0 else w) ≡ w
there-weighs p is w = grind (arith, nat_tests)

module _ (m : Metadata) (table : TableValue) (t n : ℕ) (sound : IsSound m) (ready : IsReadyTable m table t n) (bytes : List ℕ) (long : length bytes ≡ 64)
    (loads : header_of true (splice m.file 0 bytes) ≡ Ok (with_refcount_table m.header (t * cluster_size m.header.fields) n)) where
  abbrev f : Bytes
  f = m.file

  abbrev g : Bytes
  g = in_memory m

  abbrev h : Fields
  h = m.header.fields

  abbrev o : ℕ
  o = t * cluster_size m.header.fields

  abbrev h' : Fields
  h' = with_reftable m.header.fields (t * cluster_size m.header.fields) n

  abbrev H' : Header
  H' = with_refcount_table m.header (t * cluster_size m.header.fields) n

  abbrev x : Bytes
  x = splice m.file 0 bytes

  abbrev m' : Metadata
  m' = with_table m table t n (splice m.file 0 bytes)

  places : SamePlaces f g h
  places = places-in-memory m.file m.header sound.well_formed.consistent m.cached sound.well_formed.tables sound.well_formed.blocks

  shaped : Shaped h
  shaped = shaped-in m.file m.header sound.well_formed.consistent

  shaped' : Shaped h'
  shaped' = let s = shaped in record { order = s.order; low = s.low; high = s.high }

  size : 64 ≤ cluster_size h
  size = let least : 2 ^ 9 ≤ 2 ^ h.cluster_bits = pow-le-pow_right (omega arith) shaped.low in omega (arith, least)

  out : Outside f x 0 64
  out = subst (λ k. Outside f x 0 k) long (splice-is-outside f 0 bytes)

  new-at : (i : ℕ) → block_at f h' i ≡ block_offset (slice_index table.raw_entries i)
  new-at = words-at f h table.raw_entries o n ready.long ready.written

  old-blocks : (i : ℕ) → block_at f h i ≢ 0 → block_at f h' i ≡ block_at f h i
  old-blocks i there =
      let inside = block-inside f h i there in
      let named_there = sound.table.names i inside in
      new-at i ∙ (ready.olds i (omega (arith, inside, sound.table.long)) (λ none. there (sym named_there ∙ none))).1 ∙ named_there

  new-sound : (i : ℕ) → i < n * entries_of_cluster h → IsTrue (reftable_entry_valid h.cluster_bits (raw_entry f o i))
  new-sound i lt = let inside : i < length table.raw_entries = omega (arith, lt, ready.long) in ap (reftable_entry_valid h.cluster_bits) (ready.written i inside) ∙ ready.sane i inside

  count-at : (c : ℕ) → 0 < newly m t n c → 1 ≤ count f h' c
  count-at c some = elim (cases_eq (block_at f h (c / counters_of_block h)) 0) [
    | inl none ↦ let is = ready.own c none in omega (arith, is, some)
    | inr there ↦ let same = count-moved f h o n c (old-blocks (c / counters_of_block h) there) in let enough = (ready.others c there).0 in omega (arith, same, enough, some)
  ]

  in-file : RefcountTableSwitched f x m.header o n
  in-file = refcount-table-switched f x m.header sound.well_formed.consistent o n loads out new-sound old-blocks ready.once
      (λ c some. ((let none = (ready.free c some).0 in let le = refs-file f g h c in omega (arith, none, le)), count-at c some))

  -- The clusters of the new table and blocks are outside the structure, so memory has the bytes of the file there.
  unstructured : (c : ℕ) → 0 < newly m t n c → structure f h (meets h c) ≡ 0
  unstructured c some = let none = (ready.free c some).0 in let le = structure-named f g h c in omega (arith, none, le)

  same-there : (c : ℕ) → 0 < newly m t n c → Same f g (c * cluster_size h) (cluster_size h)
  same-there c some = memory-same m.file m.header c (unstructured c some) sound.well_formed.consistent m.cached m.order sound.well_formed

  -- Memory has the bytes of the new table.
  same-table : Same f g o (n * cluster_size h)
  same-table k lt =
      let low : (o + k) / cluster_size h * cluster_size h ≤ o + k = div-mul-le_self (o + k) (cluster_size h) in
      let high : o + k < (o + k) / cluster_size h * cluster_size h + cluster_size h = lt-div-mul-add (pow_pos h.cluster_bits) in
      let next : ((o + k) / cluster_size h + 1) * cluster_size h ≡ (o + k) / cluster_size h * cluster_size h + cluster_size h = omega arith in
      let a : 0 < n * cluster_size h = omega (arith, lt) in
      let b : o < ((o + k) / cluster_size h + 1) * cluster_size h = omega (arith, high, next) in
      let e : (o + k) / cluster_size h * cluster_size h < o + n * cluster_size h = omega (arith, low, lt) in
      let met : meets h ((o + k) / cluster_size h) o (n * cluster_size h) ≡ 1 = rw (lt-ltb _ _ a, lt-ltb _ _ b, lt-ltb _ _ e) refl in
      in-cluster h f g (o + k) (same-there ((o + k) / cluster_size h) (omega (arith, met)))

  blocks-same : (i : ℕ) → block_at g h' i ≡ block_at f h' i
  blocks-same = block_at-same f g h' same-table

  -- A new block is in one of these clusters.
  newly-block : (b : ℕ) → block_at f h b ≡ 0 → block_at f h' b ≢ 0 → (c : ℕ) → block_at f h' b ≡ c * cluster_size h → 0 < newly m t n c
  newly-block b none there c place =
      let inside : b < n * entries_of_cluster h = block-inside f h' b there in
      let one : of_cluster h (meets h c) (block_at f h' b) ≡ 1 = there-weighs (block_at f h' b) there (meets h c (block_at f h' b) (cluster_size h)) ∙ ap (λ p. meets h c p (cluster_size h)) place ∙ meets-own h c in
      let term : (if block_at f h b == 0 then of_cluster h (meets h c) (block_at f h' b) else 0) ≡ 1 = rw none one in
      let all = term-le-sum (n * entries_of_cluster h) b (λ i. if block_at f h i == 0 then of_cluster h (meets h c) (block_at f h' i) else 0) inside in
      omega (arith, term, all)

  block-begins : (b : ℕ) → block_at f h' b ≢ 0 → block_at f h' b / cluster_size h * cluster_size h ≡ block_at f h' b
  block-begins b there =
      let inside : b < n * entries_of_cluster h = block-inside f h' b there in
      let sane = ready.sane b (omega (arith, inside, ready.long)) in
      let place : is_cluster_offset h.cluster_bits (block_offset (slice_index table.raw_entries b)) ≡ true = second (bits_at (slice_index table.raw_entries b) 0 9 == 0) (is_cluster_offset h.cluster_bits (block_offset (slice_index table.raw_entries b))) sane in
      subst (λ p. p / cluster_size h * cluster_size h ≡ p) (sym (new-at b)) (place-whole h.cluster_bits (block_offset (slice_index table.raw_entries b)) place)

  block-same : (b : ℕ) → block_at f h b ≡ 0 → block_at f h' b ≢ 0 → Same f g (block_at f h' b) (cluster_size h)
  block-same b none there =
      let begins = block-begins b there in
      subst (λ p. Same f g p (cluster_size h)) begins (same-there (block_at f h' b / cluster_size h) (newly-block b none there (block_at f h' b / cluster_size h) (sym begins)))

  own-there : (c : ℕ) → block_at f h (c / counters_of_block h) ≡ 0 → count g h' c ≡ newly m t n c
  own-there c none = count-same f g h' c shaped' (blocks-same (c / counters_of_block h)) (λ there. block-same (c / counters_of_block h) none there) ∙ ready.own c none

  old-there : (i : ℕ) → block_at g h i ≢ 0 → block_at g h' i ≡ block_at g h i
  old-there i there = blocks-same i ∙ old-blocks i (λ none. there (places.blocks i ∙ none)) ∙ sym (places.blocks i)

  newly-same : (w : Weight) → newly_referenced g h o n w ≡ newly_referenced f h o n w
  newly-same w = ap (λ s. w o (n * cluster_size h) + s) (sum-same (n * entries_of_cluster h) _ _ (λ i lt.
      ap (λ p. if p == 0 then of_cluster h w (block_at g h' i) else 0) (places.blocks i) ∙ ap (λ q. if block_at f h i == 0 then of_cluster h w q else 0) (blocks-same i)))

  count-there : (c : ℕ) → 0 < newly m t n c → 1 ≤ count g h' c
  count-there c some = elim (cases_eq (block_at f h (c / counters_of_block h)) 0) [
    | inl none ↦ let is = own-there c none in omega (arith, is, some)
    | inr there ↦
        let same = count-moved g h o n c (old-there (c / counters_of_block h) (λ none. there (sym (places.blocks (c / counters_of_block h)) ∙ none))) in
        let enough = (ready.others c there).1 in
        omega (arith, same, enough, some)
  ]

  memory-is : in_memory m' ≡ splice g 0 bytes
  memory-is = memory-beside m.file m.header sound.well_formed.consistent m.cached sound.well_formed.tables sound.well_formed.blocks header tt refl 0 (cluster_size h) (λ v. refl) 0 bytes (omega (arith, long)) (omega arith) (omega (arith, long, size))

  start-same : Same f g 0 (cluster_size h)
  start-same = memory-start m.file m.header sound.well_formed.consistent m.cached sound.well_formed.tables sound.well_formed.blocks

  loads-there : header_of true (splice g 0 bytes) ≡ Ok H'
  loads-there = header-kept true x (splice g 0 bytes) H' loads (λ k lt. splice-agrees g f 0 bytes (0 + k) (start-same k lt))

  over-there : RefcountTableSwitched g (in_memory m') m.header o n
  over-there = subst (λ (y : Bytes). RefcountTableSwitched g y m.header o n) (sym memory-is)
      (refcount-table-switched g (splice g 0 bytes) m.header (safe-memory m.file m.header m.cached m.order sound.well_formed) o n loads-there (subst (λ k. Outside g (splice g 0 bytes) 0 k) long (splice-is-outside g 0 bytes))
      (λ i lt. ap (reftable_entry_valid h.cluster_bits) (word-same f g o (n * cluster_size h) i same-table (entries-fit h' i lt)) ∙ new-sound i lt)
      old-there (λ c. subst (λ k. k ≤ 1) (sym (newly-same (meets h c))) (ready.once c))
      (λ c some.
      let some' : 0 < newly m t n c = subst (λ k. 0 < k) (newly-same (meets h c)) some in
      ((let none = (ready.free c some').0 in let le = refs-cached f g h c places in omega (arith, none, le)), count-there c some')))

  words-there : (k j : ℕ) → Live (l2_table f h) h k j → slot (in_memory m') h' k j ≡ slot g h k j
  words-there k j live = over-there.slots k j (record { in_l1 = live.in_l1; is_there = (λ none. live.is_there (sym (places.l1 k) ∙ none)); in_table = live.in_table })

  names-moved : (c : ℕ) → referenced_at_all m' c + formerly m c ≡ referenced_at_all m c + newly m t n c
  names-moved c = named-more f g x (in_memory m') h o n in-file.tables in-file.slots words-there c (formerly m c) (newly m t n c) (in-file.structure (meets h c))

  copied-same : (c : ℕ) → copied x (in_memory m') h' c ≡ copied f g h c
  copied-same c = copied-stays f g x (in_memory m') h o n in-file.tables in-file.slots words-there c

  references-moved : (c : ℕ) → referenced m' c + formerly m c ≡ referenced m c + newly m t n c
  references-moved c = over-there.references c ∙ ap (λ k. referenced m c + k) (newly-same (meets h c))

  own-counts : (c : ℕ) → block_at f h (c / counters_of_block h) ≡ 0 → (count f h c ≡ 0) × (counted m c ≡ 0) × (count x h' c ≡ newly m t n c) × (counted m' c ≡ newly m t n c)
  own-counts c none = (
    count-none f h c none,
    count-none g h c (places.blocks (c / counters_of_block h) ∙ none),
    in-file.counts c ∙ ready.own c none,
    over-there.counts c ∙ own-there c none,
  )

  other-counts : (c : ℕ) → block_at f h (c / counters_of_block h) ≢ 0 → (count x h' c ≡ count f h c) × (counted m' c ≡ counted m c)
  other-counts c there = (in-file.old_counts c there, over-there.old_counts c (λ none. there (sym (places.blocks (c / counters_of_block h)) ∙ none)))

  which : (c : ℕ) → (newly m t n c ≡ 0) ⊎ ((newly m t n c ≡ 1) × (referenced_at_all m c ≡ 0) × (waiting m c ≡ 0))
  which c = elim (cases_lt 0 (newly m t n c)) [
    | inl some ↦ let most = ready.once c in let free = ready.free c some in inr (omega (arith, some, most), free.0, free.1)
    | inr none ↦ inl (omega (arith, none))
  ]

  names-counted : (c : ℕ) → referenced_at_all m c ≤ counted m c → referenced_at_all m' c ≤ counted m' c
  names-counted c le =
      let moved = names-moved c in
      elim (cases_eq (block_at f h (c / counters_of_block h)) 0) [
        | inl none ↦ let counts = own-counts c none in omega (arith, moved, le, counts.1, counts.3)
        | inr there ↦ let counts = other-counts c there in let enough = (ready.others c there).1 in elim (which c) [
          | inl off ↦ omega (arith, moved, le, counts.1, off)
          | inr one ↦ omega (arith, moved, one.1, enough, counts.1)
        ]
      ]

  names-counted-there : (c : ℕ) → referenced_at_all m c ≤ count f h c → referenced_at_all m' c ≤ count x h' c
  names-counted-there c le =
      let moved = names-moved c in
      elim (cases_eq (block_at f h (c / counters_of_block h)) 0) [
        | inl none ↦ let counts = own-counts c none in omega (arith, moved, le, counts.0, counts.2)
        | inr there ↦ let counts = other-counts c there in let enough = (ready.others c there).0 in elim (which c) [
          | inl off ↦ omega (arith, moved, le, counts.0, off)
          | inr one ↦ omega (arith, moved, one.1, enough, counts.0)
        ]
      ]

  lowered-still : (c : ℕ) → counted m c ≤ count f h c → counted m' c ≤ count x h' c
  lowered-still c le = elim (cases_eq (block_at f h (c / counters_of_block h)) 0) [
    | inl none ↦ let counts = own-counts c none in omega (arith, counts.2, counts.3)
    | inr there ↦ let counts = other-counts c there in omega (arith, le, counts.0, counts.1)
  ]

  -- Cached tables and blocks still fit.
  block-still : (cluster : ℕ) (b : Block) → ((k : ℕ) → block_at f h k ≡ 0 → block_at f h' k ≡ cluster * cluster_size h → cluster ≢ 0 → b.counters ≡ counters_in f h (cluster * cluster_size h))
      → IsCachedBlock f h cluster b → IsCachedBlock x h' cluster b
  block-still cluster b fresh is = block-fits f x h o n cluster b
      (λ live.
      let there : block_at f h live.0 ≢ 0 = λ none. place-there (cluster_size h) cluster (pow_pos h.cluster_bits) live.3 (sym live.2 ∙ none) in
      let place : block_at x h' live.0 ≡ block_at f h live.0 = in-file.blocks live.0 ∙ old-blocks live.0 there in
      (live.0, block-inside x h' live.0 (λ none. there (sym place ∙ none)), place ∙ live.2, live.3))
      (λ clean live.
      let at : block_at f h' live.0 ≡ cluster * cluster_size h = sym (in-file.blocks live.0) ∙ live.2 in
      let some : cluster * cluster_size h ≢ 0 = place-there (cluster_size h) cluster (pow_pos h.cluster_bits) live.3 in
      elim (cases_eq (block_at f h live.0) 0) [
        | inl none ↦
            fresh live.0 none at live.3
            ∙ sym (counters-same f x h (cluster * cluster_size h) (in-file.free cluster (
            let new = newly-block live.0 none (λ z. some (sym at ∙ z)) cluster at in
            let not_referenced = (ready.free cluster new).0 in
            let le = refs-file f g h cluster in
            omega (arith, not_referenced, le))))
        | inr there ↦
            let place : block_at f h live.0 ≡ cluster * cluster_size h = sym (old-blocks live.0 there) ∙ at in
            is.clean clean (live.0, block-inside f h live.0 there, place, live.3)
            ∙ sym (counters-same f x h (cluster * cluster_size h) (subst (λ p. Same f x p (cluster_size h)) place (in-file.same_structure_outside.counters live.0 (block-inside f h live.0 there) there (λ e. cc))))
      ])
      is

  safe-still : WellFormed x H' m.cached m.order
  safe-still = record {
    consistent = in-file.consistent;
    tables_apart = sound.well_formed.tables_apart;
    blocks_apart = sound.well_formed.blocks_apart;
    tables = all-weaker _ _ (λ e is. table-fits f x h o n in-file.tables e.0 (λ k j at live. in-file.same_structure_outside.raw_entries k j live (λ e. cc)) e.1.value is) m.cached.tables sound.well_formed.tables;
    blocks = all-weaker _ _ (λ e both. block-still e.0 e.1.value both.1 both.0) m.cached.blocks (all-both _ _ m.cached.blocks sound.well_formed.blocks ready.cached);
    apart = λ c some.
        let base = in-file.structure (meets h c) in
        let marks = copied-same c in
        let names = names-moved c in
        elim (which c) [
          | inl none ↦ let one = sound.well_formed.apart c (omega (arith, base, marks, some, none)) in omega (arith, names, one, none)
          | inr one ↦ omega (arith, names, one.0, one.1)
        ];
    ordered = ordered-still f g x (in_memory m') h h' names-counted names-counted-there (λ c. named-counted x H' in-file.consistent c) lowered-still m.order sound.well_formed.ordered;
    covered = λ c. named-counted (in_memory m') H' over-there.consistent c;
  }

  table-still : IsTableOf x h' table
  table-still = record {
    layout = ready.layout;
    long = ready.long;
    placed = ready.placed ∙ ap (λ k. Some k) (sym (mul-div_left t (pow_pos h.cluster_bits)));
    names = λ i lt. sym (in-file.blocks i ∙ new-at i);
  }

  covered-still : (c : ℕ) → referenced m' c + waiting m c ≤ counted m' c
  covered-still c =
      let was = sound.covered c in
      let moved = references-moved c in
      elim (cases_eq (block_at f h (c / counters_of_block h)) 0) [
        | inl none ↦ let counts = own-counts c none in omega (arith, was, moved, counts.1, counts.3)
        | inr there ↦ let counts = other-counts c there in let enough = (ready.others c there).1 in elim (which c) [
          | inl off ↦ omega (arith, was, moved, counts.1, off)
          | inr one ↦ let le = refs-cached f g h c places in omega (arith, moved, one, le, enough, counts.1)
        ]
      ]

  pub table-sound : IsSound m'
  table-sound = record {
    well_formed = safe-still;
    table = table-still;
    covered = covered-still;
    not_referenced = λ c some.
        let none = sound.not_referenced c some in
        let moved = names-moved c in
        elim (which c) [
          | inl off ↦ omega (arith, none, moved, off)
          | inr one ↦ let le = metadata-among c m.pending in absurd (omega (arith, le, some, one.2))
        ];
  }

  kept-there : (c : ℕ) → structure f h (meets h c) ≡ 0 → Same f x (c * cluster_size h) (cluster_size h)
  kept-there c none = let part = header-part f h (meets h c) in unmet-stays f x h c 0 (cluster_size h) 0 64 (omega (arith, part, none)) (omega arith) (omega (arith, size)) out

  pub table-shows : ShowsEither m x H'
  table-shows = record {
    consistent = in-file.consistent;
    moved = (o, n, refl);
    header_tail_unchanged = λ p from lt. out p (inr from);
    l1 = λ k lt. in-file.same_structure_outside.l1 k lt (λ e. cc);
    tables = in-file.tables;
    raw_entries = λ k j live. inl (in-file.slots k j live);
    contents = λ k j live p some.
        let le = mapping-meets h p (slot x h' k j) in
        let one : 0 < of_mapping h (meets h (p / cluster_size h)) (slot f h k j) = subst (λ (v : Mapping). 0 < of_mapping h (meets h (p / cluster_size h)) v) (in-file.slots k j live) (omega (arith, le, some)) in
        let all = word-contents f h (p / cluster_size h) k j live in
        in-cluster h f x p (in-file.mapped (p / cluster_size h) (omega (arith, one, all)));
  }

  taken-none : (c : ℕ) → block_at f h (c / counters_of_block h) ≡ 0 → newly_counted m t n c ≡ 0
  taken-none c none = rw none refl

  taken-there : (c : ℕ) → block_at f h (c / counters_of_block h) ≢ 0 → newly_counted m t n c ≡ newly m t n c
  taken-there c there = there-weighs (block_at f h (c / counters_of_block h)) there (newly m t n c)

  pub table-quiet : GuestUnchanged (formerly m) (newly_counted m t n) m m'
  table-quiet = record {
    shows = table-shows;
    raw_entries = words-there;
    used_bytes_unchanged = λ c used none. kept-there c used.apart;
    apart = λ c used none.
        let base = in-file.structure (meets h c) in
        let was = used.apart in
        elim (cases_eq (block_at f h (c / counters_of_block h)) 0) [
          | inl empty ↦ let uncounted = (own-counts c empty).1 in let some = used.taken in absurd (omega (arith, some, uncounted))
          | inr there ↦ let off = taken-there c there in omega (arith, base, was, off, none)
        ];
    waits = λ c used none. omega arith;
    law = λ c.
        let moved = references-moved c in
        elim (cases_eq (block_at f h (c / counters_of_block h)) 0) [
          | inl none ↦ let counts = own-counts c none in let off = taken-none c none in omega (arith, moved, counts.1, counts.3, off)
          | inr there ↦ let counts = other-counts c there in let is = taken-there c there in omega (arith, moved, counts.1, is)
        ];
  }

  pub table-names : TableSwitched m m' t n
  table-names = record {
    own = λ c none. let counts = own-counts c none in (counts.1, counts.3, counts.2);
    others = λ c there. let counts = other-counts c there in (counts.1, counts.0);
    references = references-moved;
    names = names-moved;
  }

-- The first bytes of the header are written by one request.
module _ (m : Metadata) (table : TableValue) (t n : ℕ) (old new : StorageState) (is_in : IsIn old m) (ready : IsSound m → IsReadyTable m table t n)
    (loads : IsSound m → header_of true (splice m.file 0 (first_bytes (with_reftable m.header.fields (t * cluster_size m.header.fields) n))) ≡ Ok (with_refcount_table m.header (t * cluster_size m.header.fields) n)) where
  abbrev pointer : List ℕ
  pointer = first_bytes (with_reftable m.header.fields (t * cluster_size m.header.fields) n)

  long : length pointer ≡ 64
  long = length-first_bytes (with_reftable m.header.fields (t * cluster_size m.header.fields) n)

  pub switch-quietly : (result : Result Unit Fault) → AtomicWriteOutcome old new 0 pointer result → PreservesGuest (result ≡ Ok tt) (formerly m) (newly_counted m t n) old m new (with_table m table t n (bytes_of new.bytes))
  switch-quietly = at-once-quietly m (with_table m table t n) (λ x. refl) (formerly m) (newly_counted m t n) 0 pointer (omega (arith, long)) old new is_in
      (λ sound. (table-sound m table t n sound (ready sound) pointer long (loads sound), table-quiet m table t n sound (ready sound) pointer long (loads sound)))

  pub switch-names : IsTrue old.shape.keeps → IsSound m → (result : Result Unit Fault) → AtomicWriteOutcome old new 0 pointer result → result ≡ Ok tt → TableSwitched m (with_table m table t n (bytes_of new.bytes)) t n
  switch-names keeps sound result put done =
      subst (λ (x : Bytes). TableSwitched m (with_table m table t n x) t n) (sym (at-once-file m 0 pointer old new is_in result put keeps done)) (table-names m table t n sound (ready sound) pointer long (loads sound))

pub sound-sizes : (m : Metadata) → IsSound m → first_fault (rules_of_size m.header.fields) ≡ None
sound-sizes m sound =
    let was = sound.well_formed.consistent.readable.loads in
    subst (λ (h : Fields). first_fault (rules_of_size h) ≡ None) (sym (header-fields true m.file m.header was)) (loaded-parts true m.file m.header was).sizes

-- The header's first bytes still load, if the new table keeps the limits.
pub pointer-loads : (m : Metadata) (t n : ℕ) → IsSound m → ((p : ℕ) → m.file p < 256) → first_fault (rules_of_size (with_reftable m.header.fields (t * cluster_size m.header.fields) n)) ≡ None
    → header_of true (splice m.file 0 (first_bytes (with_reftable m.header.fields (t * cluster_size m.header.fields) n))) ≡ Ok (with_refcount_table m.header (t * cluster_size m.header.fields) n)
pointer-loads m t n sound bytes sizes =
    let was = sound.well_formed.consistent.readable.loads in
    let only : OnlyPlaces m.header (with_refcount_table m.header (t * cluster_size m.header.fields) n) = record { same = refl } in
    switch-header true m.file m.header (with_refcount_table m.header (t * cluster_size m.header.fields) n) was only
    (first-fields-fit true m.file m.header (with_refcount_table m.header (t * cluster_size m.header.fields) n) bytes was only sizes) sizes (name-behind m.file m.header was)
