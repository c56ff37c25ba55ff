-- Linking a block: an entry of the refcount table now references it.
use Rattle.std.proofs.Common.{◌≡◌, ◌≢◌, ℕ, ◌+◌, ◌*◌, ◌/◌, ◌%◌, ◌^◌, ◌<◌, ◌≤◌, refl, arith, ap, sym, subst, ◌∙◌, List, inl, inr, true, Option, Some, Bool}
use Rattle.std.specs.Prelude.{◌⊎◌, slice_index, slice_set, IsTrue, Result, Ok}
use Rattle.std.specs.Int.{w64, to_be_bytes}
use Rattle.std.proofs.lemmas.Bool.{cases_eq}
use Rattle.std.proofs.lemmas.List.{get_or-set_same, get_or-set_other, length-set}
use Rattle.std.proofs.lemmas.Nat.{mod_below, pow_pos}
use Rattle.imago_storage.specs.State.{StorageState}
use Rattle.imago_storage.specs.Through.{AtomicWriteOutcome}
use Rattle.imago_storage.specs.declared.fault.Fault.{Fault}
use Rattle.qcow2_types.specs.Bytes.{Bytes, bytes_of, splice}
use Rattle.qcow2_types.specs.Words.{Mapping, Layout, max_offset, block_offset}
use Rattle.qcow2_types.specs.Header.{Fields, Shaped, cluster_size}
use Rattle.qcow2_types.specs.Entries.{l2_table}
use Rattle.qcow2_types.specs.Counts.{block_at, count, counter, counters_of_block}
use Rattle.qcow2_types.specs.Frames.{Same, Outside}
use Rattle.qcow2_types.specs.References.{structure, of_mapping, meets}
use Rattle.qcow2_types.specs.Slots.{slot, Live}
use Rattle.qcow2_types.specs.Steps.{BlockEntered}
use Rattle.qcow2_types.specs.Versions.{copied, SamePlaces}
use Rattle.qcow2_types.proofs.Changes.BlockWordSteps.{block-entered-spliced}
use Rattle.qcow2_types.proofs.Counting.Consistent.{named-counted, meets-own, meets-other}
use Rattle.qcow2_types.proofs.Counting.Counters.{counter-same, some-counters}
use Rattle.qcow2_types.proofs.Counting.Either.{refs-file, refs-cached}
use Rattle.qcow2_types.proofs.Changes.Frames.{splice-is-outside, refcount_table-part, entries-fit}
use Rattle.qcow2_types.proofs.Fields.HeaderLimits.{header-limited}
use Rattle.qcow2_types.proofs.Counting.Parts.{refcount_table}
use Rattle.qcow2_types.proofs.Changes.WriteBack.{place-whole}
use Rattle.qcow2_metadata.specs.Places.{place_of}
use Rattle.qcow2_metadata.specs.Tables.{TableValue, with_raw_entry, table_start}
use Rattle.qcow2_metadata.specs.Blocks.{Block, counters_in}
use Rattle.qcow2_metadata.proofs.TableSteps.{block_named, block_word_named}
use Rattle.qcow2_alloc.specs.WellFormedness.{WellFormed, IsCachedBlock}
use Rattle.qcow2_alloc.specs.MakingRoom.{IsReadyBlock, BlockLinked, with_block}
use Rattle.qcow2_alloc.specs.GuestView.{IsTableOf, Metadata, in_memory, counted, referenced, referenced_at_all, waiting, one_at, IsSound, GuestUnchanged, ShowsEither, IsIn, PreservesGuest}
use Rattle.qcow2_alloc.proofs.GuestView.SingleRequests.{at-once-quietly, at-once-file}
use Rattle.qcow2_alloc.proofs.Memory.MemoryImage.{safe-memory}
use Rattle.qcow2_alloc.proofs.Memory.MemoryWords.{places-in-memory}
use Rattle.qcow2_alloc.proofs.Memory.Patches.{all-weaker, all-both, place-there, places-differ, shaped-in}
use Rattle.qcow2_alloc.proofs.GuestView.QuietCounters.{here-one, away-none}
use Rattle.qcow2_alloc.proofs.GuestView.QuietEntries.{metadata-among}
use Rattle.qcow2_alloc.proofs.GuestView.ShownDisks.{from-start, mapping-meets, in-cluster, memory-same}
use Rattle.qcow2_alloc.proofs.Memory.StructureWrites.{memory-beside, unmet-stays}
use Rattle.qcow2_alloc.proofs.Memory.FittingWords.{table-fits, counters-same}
use Rattle.qcow2_alloc.proofs.Memory.KeptWords.{word-contents, structure-named, named-more, copied-stays, ordered-still, block-fits}

pub count-none : (f : Bytes) (h : Fields) (c : ℕ) → block_at f h (c / counters_of_block h) ≡ 0 → count f h c ≡ 0
unfolding count
count-none f h c none = rw none refl

pub meets-one : (h : Fields) (c d : ℕ) → meets h c (d * cluster_size h) (cluster_size h) ≡ one_at d c
meets-one h c d = elim (cases_eq c d) [
  | inl same ↦ subst (λ k. meets h k (d * cluster_size h) (cluster_size h) ≡ one_at d k) (sym same) (meets-own h d ∙ sym (here-one d))
  | inr apart ↦ meets-other h c d (λ e. apart (sym e)) ∙ sym (away-none d c apart)
]

module _ (m : Metadata) (i d : ℕ) (modified : Bool) (sound : IsSound m) (ready : IsReadyBlock m i d) where
  abbrev f : Bytes
  f = m.file

  abbrev g : Bytes
  g = in_memory m

  abbrev h : Fields
  h = m.header.fields

  abbrev w : ℕ
  w = d * cluster_size m.header.fields

  abbrev at : ℕ
  at = m.header.fields.refcount_table_offset + 8 * i

  abbrev x : Bytes
  x = splice m.file (m.header.fields.refcount_table_offset + 8 * i) (to_be_bytes w64 (d * cluster_size m.header.fields))

  abbrev m' : Metadata
  m' = with_block m i d modified x

  places : SamePlaces f g h
  places = places-in-memory m.file m.header sound.well_formed.consistent m.cached sound.well_formed.tables sound.well_formed.blocks

  shaped : Shaped h
  shaped = shaped-in m.file m.header sound.well_formed.consistent

  empty : block_at f h i ≡ 0
  empty = sym (sound.table.names i ready.inside) ∙ ready.empty

  there : w ≢ 0
  there = place-there (cluster_size h) d (pow_pos h.cluster_bits) ready.cluster_nonzero

  small : w < 2 ^ 64
  small = let near : w ≤ max_offset = ready.reach in omega (arith, near)

  fits : 8 * i + 8 ≤ h.refcount_table_clusters * cluster_size h
  fits = entries-fit h i ready.inside

  out : Outside f x at 8
  out = splice-is-outside f at (to_be_bytes w64 w)

  memory-is : in_memory m' ≡ splice g at (to_be_bytes w64 w)
  memory-is = memory-beside m.file m.header sound.well_formed.consistent m.cached sound.well_formed.tables sound.well_formed.blocks refcount_table tt refl h.refcount_table_offset (h.refcount_table_clusters * cluster_size h) (λ v. refl)
      at (to_be_bytes w64 w) (omega arith) (omega arith) (omega (arith, fits))

  -- The block's cluster is outside the structure, so its bytes in memory are those in the file.
  unstructured : structure f h (meets h d) ≡ 0
  unstructured = let none = ready.not_referenced in let le = structure-named f g h d in omega (arith, none, le)

  counters-there : (c : ℕ) → c / counters_of_block h ≡ i → counter g h w (c % counters_of_block h) ≡ one_at d c
  counters-there c own =
      let some : 0 < counters_of_block h = some-counters h shaped in
      counter-same f g h w (memory-same m.file m.header d unstructured sound.well_formed.consistent m.cached m.order sound.well_formed) (c % counters_of_block h) (mod_below c (counters_of_block h) some) ∙ ready.counters c own

  in-file : BlockEntered f x m.header i d w
  in-file = block-entered-spliced f m.header sound.well_formed.consistent i ready.inside empty w small (block_word_named h.cluster_bits (Some d) shaped.low ready.reach) d w (block_named h.cluster_bits d shaped.low ready.reach) there refl
      (let none = ready.not_referenced in let le = refs-file f g h d in omega (arith, none, le)) (λ apart. (ready.counted apart).0)
      (λ own. let is = ready.counters d own in let one = here-one d in omega (arith, is, one))

  over-there : BlockEntered g (in_memory m') m.header i d w
  over-there = subst (λ (y : Bytes). BlockEntered g y m.header i d w) (sym memory-is)
      (block-entered-spliced g m.header (safe-memory m.file m.header m.cached m.order sound.well_formed) i ready.inside (places.blocks i ∙ empty) w small (block_word_named h.cluster_bits (Some d) shaped.low ready.reach) d w
      (block_named h.cluster_bits d shaped.low ready.reach) there refl
      (let none = ready.not_referenced in let le = refs-cached f g h d places in omega (arith, none, le)) (λ apart. (ready.counted apart).1)
      (λ own. let is = counters-there d own in let one = here-one d in omega (arith, is, one)))

  words-there : (k j : ℕ) → Live (l2_table f h) h k j → slot (in_memory m') h k j ≡ slot g h k j
  words-there k j live = over-there.slots k j (record { in_l1 = live.in_l1; is_there = (λ none. live.is_there (sym (places.l1 k) ∙ none)); in_table = live.in_table })

  structure-more : (c : ℕ) → structure x h (meets h c) ≡ structure f h (meets h c) + one_at d c
  structure-more c = in-file.structure (meets h c) ∙ ap (λ n. structure f h (meets h c) + n) (meets-one h c d)

  names-more : (c : ℕ) → referenced_at_all m' c ≡ referenced_at_all m c + one_at d c
  names-more c =
      let more = structure-more c in
      let all = named-more f g x (in_memory m') h h.refcount_table_offset h.refcount_table_clusters in-file.tables in-file.slots words-there c 0 (one_at d c) (omega (arith, more)) in
      omega (arith, all)

  copied-same : (c : ℕ) → copied x (in_memory m') h c ≡ copied f g h c
  copied-same c = copied-stays f g x (in_memory m') h h.refcount_table_offset h.refcount_table_clusters in-file.tables in-file.slots words-there c

  references-more : (c : ℕ) → referenced m' c ≡ referenced m c + one_at d c
  references-more c = elim (cases_eq c d) [
    | inl same ↦ subst (λ k. referenced m' k ≡ referenced m k + one_at d k) (sym same) (
        let none = ready.not_referenced in
        let le = refs-cached f g h d places in
        let once = over-there.named_once in
        let one = here-one d in
        omega (arith, none, le, once, one))
    | inr apart ↦ let same = over-there.references c apart in let none = away-none d c apart in omega (arith, same, none)
  ]

  which : (c : ℕ) → (one_at d c ≡ 0) ⊎ ((one_at d c ≡ 1) × (referenced_at_all m c ≡ 0) × (waiting m c ≡ 0))
  which c = elim (cases_eq c d) [
    | inl same ↦ inr (subst (λ k. (one_at d k ≡ 1) × (referenced_at_all m k ≡ 0) × (waiting m k ≡ 0)) (sym same) (here-one d, ready.not_referenced, ready.unlisted))
    | inr apart ↦ inl (away-none d c apart)
  ]

  own-counts : (c : ℕ) → c / counters_of_block h ≡ i → (count f h c ≡ 0) × (counted m c ≡ 0) × (count x h c ≡ one_at d c) × (counted m' c ≡ one_at d c)
  own-counts c own = (
    count-none f h c (ap (block_at f h) own ∙ empty),
    count-none g h c (ap (block_at g h) own ∙ places.blocks i ∙ empty),
    in-file.new_counts c own ∙ ready.counters c own,
    over-there.new_counts c own ∙ counters-there c own,
  )

  covers-one : (c : ℕ) → c / counters_of_block h ≢ i → (one_at d c ≤ count f h c) × (one_at d c ≤ counted m c)
  covers-one c apart = elim (cases_eq c d) [
    | inl same ↦
        let enough = ready.counted (λ own. apart (ap (λ k. k / counters_of_block h) same ∙ own)) in
        let one = here-one d in
        subst (λ k. (one_at d k ≤ count f h k) × (one_at d k ≤ counted m k)) (sym same) (omega (arith, enough.0, one), omega (arith, enough.1, one))
    | inr away ↦ let none = away-none d c away in (omega (arith, none), omega (arith, none))
  ]

  names-counted : (c : ℕ) → referenced_at_all m c ≤ counted m c → referenced_at_all m' c ≤ counted m' c
  names-counted c le =
      let more = names-more c in
      elim (cases_eq (c / counters_of_block h) i) [
        | inl own ↦ let counts = own-counts c own in omega (arith, more, le, counts.1, counts.3)
        | inr apart ↦ let same = over-there.counts c apart in let enough = (covers-one c apart).1 in elim (which c) [
          | inl none ↦ omega (arith, more, le, same, none)
          | inr one ↦ omega (arith, more, one.1, enough, same)
        ]
      ]

  names-counted-there : (c : ℕ) → referenced_at_all m c ≤ count f h c → referenced_at_all m' c ≤ count x h c
  names-counted-there c le =
      let more = names-more c in
      elim (cases_eq (c / counters_of_block h) i) [
        | inl own ↦ let counts = own-counts c own in omega (arith, more, le, counts.0, counts.2)
        | inr apart ↦ let same = in-file.counts c apart in let enough = (covers-one c apart).0 in elim (which c) [
          | inl none ↦ omega (arith, more, le, same, none)
          | inr one ↦ omega (arith, more, one.1, enough, same)
        ]
      ]

  lowered-still : (c : ℕ) → counted m c ≤ count f h c → counted m' c ≤ count x h c
  lowered-still c le = elim (cases_eq (c / counters_of_block h) i) [
    | inl own ↦ let counts = own-counts c own in omega (arith, counts.2, counts.3)
    | inr apart ↦ let file = in-file.counts c apart in let cached = over-there.counts c apart in omega (arith, le, file, cached)
  ]

  -- Cached tables and blocks still fit.
  not-new : (cluster b : ℕ) → block_at f h b ≡ cluster * cluster_size h → cluster ≢ 0 → b ≢ i
  not-new cluster b place some same = place-there (cluster_size h) cluster (pow_pos h.cluster_bits) some (sym place ∙ ap (block_at f h) same ∙ empty)

  same-cluster : (a b : ℕ) → a * cluster_size h ≡ b * cluster_size h → a ≡ b
  same-cluster a b same = elim (cases_eq a b) [
    | inl e ↦ e
    | inr apart ↦ absurd (places-differ (cluster_size h) a b (pow_pos h.cluster_bits) apart same)
  ]

  block-still : (cluster : ℕ) (b : Block) → (cluster ≡ d → b.counters ≡ counters_in f h w) → IsCachedBlock f h cluster b → IsCachedBlock x h cluster b
  block-still cluster b fresh is = block-fits f x h h.refcount_table_offset h.refcount_table_clusters cluster b
      (λ live. (live.0, live.1, in-file.blocks live.0 (not-new cluster live.0 live.2 live.3) ∙ live.2, live.3))
      (λ clean live. elim (cases_eq live.0 i) [
        | inl new ↦
            let here : cluster ≡ d = same-cluster cluster d (sym live.2 ∙ ap (block_at x h) new ∙ in-file.here) in
            fresh here ∙ sym (subst (λ k. counters_in x h (k * cluster_size h) ≡ counters_in f h (d * cluster_size h)) (sym here)
            (counters-same f x h w (in-file.free d (let none = ready.not_referenced in let le = refs-file f g h d in omega (arith, none, le)))))
        | inr old ↦
            let place : block_at f h live.0 ≡ cluster * cluster_size h = sym (in-file.blocks live.0 old) ∙ live.2 in
            let some : block_at f h live.0 ≢ 0 = λ none. place-there (cluster_size h) cluster (pow_pos h.cluster_bits) live.3 (sym place ∙ none) in
            is.clean clean (live.0, live.1, place, live.3)
            ∙ sym (counters-same f x h (cluster * cluster_size h) (subst (λ p. Same f x p (cluster_size h)) place (in-file.same_structure_outside.counters live.0 live.1 some (λ e. cc))))
      ])
      is

  safe-still : WellFormed x m.header m.cached m.order
  safe-still = record {
    consistent = in-file.consistent;
    tables_apart = sound.well_formed.tables_apart;
    blocks_apart = sound.well_formed.blocks_apart;
    tables = all-weaker _ _ (λ e is. table-fits f x h h.refcount_table_offset h.refcount_table_clusters in-file.tables e.0 (λ k j at live. in-file.same_structure_outside.raw_entries k j live (λ e. cc)) e.1.value is) m.cached.tables sound.well_formed.tables;
    blocks = all-weaker _ _ (λ e both. block-still e.0 e.1.value both.1 both.0) m.cached.blocks (all-both _ _ m.cached.blocks sound.well_formed.blocks ready.cached);
    apart = λ c some.
        let base = structure-more c in
        let marks = copied-same c in
        let names = names-more c in
        elim (which c) [
          | inl none ↦ let one = sound.well_formed.apart c (omega (arith, base, marks, some, none)) in omega (arith, names, one, none)
          | inr one ↦ omega (arith, names, one.0, one.1)
        ];
    ordered = ordered-still f g x (in_memory m') h h names-counted names-counted-there (λ c. named-counted x m.header in-file.consistent c) lowered-still m.order sound.well_formed.ordered;
    covered = λ c. named-counted (in_memory m') m.header over-there.consistent c;
  }

  table-still : IsTableOf x h m'.table
  table-still = record {
    layout = sound.table.layout;
    long = length-set m.table.raw_entries i w ∙ sound.table.long;
    placed = sound.table.placed;
    names = λ b lt. elim (cases_eq b i) [
      | inl same ↦ subst (λ k. block_offset (slice_index (slice_set m.table.raw_entries i w) k) ≡ block_at x h k) (sym same)
          (ap block_offset (get_or-set_same m.table.raw_entries i w 0 (omega (arith, sound.table.long, ready.inside))) ∙ block_named h.cluster_bits d shaped.low ready.reach ∙ sym in-file.here)
      | inr apart ↦ ap block_offset (get_or-set_other m.table.raw_entries i b w 0 apart) ∙ sound.table.names b lt ∙ sym (in-file.blocks b apart)
    ];
  }

  covered-still : (c : ℕ) → referenced m' c + waiting m c ≤ counted m' c
  covered-still c =
      let was = sound.covered c in
      let more = references-more c in
      elim (cases_eq (c / counters_of_block h) i) [
        | inl own ↦ let counts = own-counts c own in omega (arith, was, more, counts.1, counts.3)
        | inr apart ↦ let same = over-there.counts c apart in let enough = (covers-one c apart).1 in elim (which c) [
          | inl none ↦ omega (arith, was, more, same, none)
          | inr one ↦ let le = refs-cached f g h c places in omega (arith, more, one, le, enough, same)
        ]
      ]

  pub block-sound : IsSound m'
  block-sound = record {
    well_formed = safe-still;
    table = table-still;
    covered = covered-still;
    not_referenced = λ c some.
        let none = sound.not_referenced c some in
        let more = names-more c in
        elim (which c) [
          | inl away ↦ omega (arith, none, more, away)
          | inr one ↦ let le = metadata-among c m.pending in absurd (omega (arith, le, some, one.2))
        ];
  }

  kept-there : (c : ℕ) → structure f h (meets h c) ≡ 0 → Same f x (c * cluster_size h) (cluster_size h)
  kept-there c none =
      let part = refcount_table-part f h (meets h c) in
      unmet-stays f x h c h.refcount_table_offset (h.refcount_table_clusters * cluster_size h) at 8 (omega (arith, part, none)) (omega arith) (omega (arith, fits)) out

  pub block-shows : ShowsEither m x m.header
  block-shows = record {
    consistent = in-file.consistent;
    moved = (h.refcount_table_offset, h.refcount_table_clusters, refl);
    header_tail_unchanged = λ p from lt. from-start f x (cluster_size h) p (in-file.same_structure_outside.start (λ e. cc)) lt;
    l1 = λ k lt. in-file.same_structure_outside.l1 k lt (λ e. cc);
    tables = in-file.tables;
    raw_entries = λ k j live. inl (in-file.slots k j live);
    contents = λ k j live p some.
        let le = mapping-meets h p (slot x h k j) in
        let one : 0 < of_mapping h (meets h (p / cluster_size h)) (slot f h k j) = subst (λ (v : Mapping). 0 < of_mapping h (meets h (p / cluster_size h)) v) (in-file.slots k j live) (omega (arith, le, some)) in
        let all = word-contents f h (p / cluster_size h) k j live in
        in-cluster h f x p (in-file.mapped (p / cluster_size h) (omega (arith, one, all)));
  }

  pub block-quiet : (taken : ℕ → ℕ) → (d / counters_of_block h ≡ i → (c : ℕ) → taken c ≡ 0) → (d / counters_of_block h ≢ i → (c : ℕ) → taken c ≡ one_at d c) → GuestUnchanged (λ _. 0) taken m m'
  block-quiet taken by_itself by_another = record {
    shows = block-shows;
    raw_entries = words-there;
    used_bytes_unchanged = λ c used none. kept-there c used.apart;
    apart = λ c used none.
        let more = structure-more c in
        let was = used.apart in
        elim (cases_eq (d / counters_of_block h) i) [
          | inr other ↦ let is = by_another other c in omega (arith, more, was, is, none)
          | inl own ↦ elim (cases_eq c d) [
            | inr away ↦ let off = away-none d c away in omega (arith, more, was, off)
            | inl same ↦
                let uncounted = (own-counts c (ap (λ k. k / counters_of_block h) same ∙ own)).1 in
                absurd (let some = used.taken in omega (arith, some, uncounted))
          ]
        ];
    waits = λ c used none. omega arith;
    law = λ c.
        let more = references-more c in
        elim (cases_eq (c / counters_of_block h) i) [
          | inl own ↦ let counts = own-counts c own in elim (cases_eq (d / counters_of_block h) i) [
            | inl itself ↦ let none = by_itself itself c in omega (arith, more, counts.1, counts.3, none)
            | inr other ↦
                let is = by_another other c in
                let off = away-none d c (λ same. other (sym (ap (λ k. k / counters_of_block h) same) ∙ own)) in
                omega (arith, more, counts.1, counts.3, is, off)
          ]
          | inr apart ↦ let same = over-there.counts c apart in elim (cases_eq (d / counters_of_block h) i) [
            | inl itself ↦
                let none = by_itself itself c in
                let off = away-none d c (λ e. apart (ap (λ k. k / counters_of_block h) e ∙ itself)) in
                omega (arith, more, same, none, off)
            | inr other ↦ let is = by_another other c in omega (arith, more, same, is)
          ]
        ];
  }

  pub block-names : BlockLinked m m' i d
  block-names = record {
    here = in-file.here;
    blocks = in-file.blocks;
    own = λ c own. let counts = own-counts c own in (counts.1, counts.3, counts.2);
    others = λ c apart. (over-there.counts c apart, in-file.counts c apart);
    references = references-more;
    names = names-more;
  }

-- The entry is written by one request.
module _ (m : Metadata) (i d : ℕ) (modified : Bool) (old new : StorageState) (is_in : IsIn old m) (ready : IsSound m → IsReadyBlock m i d) where
  abbrev entered : TableValue
  entered = with_raw_entry m.table i (d * cluster_size m.header.fields)

  module _ (sound : IsSound m) where
    at-word : table_start entered + 8 * i ≡ m.header.fields.refcount_table_offset + 8 * i
    at-word =
        let limited = header-limited true m.file m.header sound.well_formed.consistent.readable.loads in
        let whole : m.header.fields.refcount_table_offset / cluster_size m.header.fields * cluster_size m.header.fields ≡ m.header.fields.refcount_table_offset = place-whole m.header.fields.cluster_bits m.header.fields.refcount_table_offset limited.refcount_place in
        ap (λ (l : Layout). place_of l.cluster_bits m.table.cluster + 8 * i) sound.table.layout
        ∙ ap (λ (c : Option ℕ). place_of m.header.fields.cluster_bits c + 8 * i) sound.table.placed
        ∙ ap (λ p. p + 8 * i) whole

    this-word : to_be_bytes w64 (slice_index entered.raw_entries i) ≡ to_be_bytes w64 (d * cluster_size m.header.fields)
    this-word = ap (to_be_bytes w64) (get_or-set_same m.table.raw_entries i (d * cluster_size m.header.fields) 0 (let long = sound.table.long in let lt = (ready sound).inside in omega (arith, long, lt)))

    put-there : splice m.file (table_start entered + 8 * i) (to_be_bytes w64 (slice_index entered.raw_entries i)) ≡ splice m.file (m.header.fields.refcount_table_offset + 8 * i) (to_be_bytes w64 (d * cluster_size m.header.fields))
    put-there = ap (λ p. splice m.file p (to_be_bytes w64 (slice_index entered.raw_entries i))) at-word ∙ ap (λ (l : List ℕ). splice m.file (m.header.fields.refcount_table_offset + 8 * i) l) this-word

  by-taken : (taken : ℕ → ℕ) → (IsSound m → (d / counters_of_block m.header.fields ≡ i → (c : ℕ) → taken c ≡ 0) × (d / counters_of_block m.header.fields ≢ i → (c : ℕ) → taken c ≡ one_at d c))
      → (result : Result Unit Fault) → AtomicWriteOutcome old new (table_start entered + 8 * i) (to_be_bytes w64 (slice_index entered.raw_entries i)) result → PreservesGuest (result ≡ Ok tt) (λ _. 0) taken old m new (with_block m i d modified (bytes_of new.bytes))
  by-taken taken is = at-once-quietly m (with_block m i d modified) (λ x. refl) (λ _. 0) taken (table_start entered + 8 * i) (to_be_bytes w64 (slice_index entered.raw_entries i)) (omega arith) old new is_in
      (λ sound. subst (λ (x : Bytes). IsSound (with_block m i d modified x) × GuestUnchanged (λ _. 0) taken m (with_block m i d modified x)) (sym (put-there sound))
      (block-sound m i d modified sound (ready sound), block-quiet m i d modified sound (ready sound) taken (is sound).0 (is sound).1))

  -- A block that another block counts uses an allocated cluster. A block that counts itself uses none.
  pub counted-block-quietly : d / counters_of_block m.header.fields ≢ i → (result : Result Unit Fault) → AtomicWriteOutcome old new (table_start entered + 8 * i) (to_be_bytes w64 (slice_index entered.raw_entries i)) result
      → PreservesGuest (result ≡ Ok tt) (λ _. 0) (one_at d) old m new (with_block m i d modified (bytes_of new.bytes))
  counted-block-quietly other = by-taken (one_at d) (λ sound. ((λ own. absurd (other own)), (λ _ c. refl)))

  pub own-block-quietly : d / counters_of_block m.header.fields ≡ i → (result : Result Unit Fault) → AtomicWriteOutcome old new (table_start entered + 8 * i) (to_be_bytes w64 (slice_index entered.raw_entries i)) result
      → PreservesGuest (result ≡ Ok tt) (λ _. 0) (λ _. 0) old m new (with_block m i d modified (bytes_of new.bytes))
  own-block-quietly own = by-taken (λ _. 0) (λ sound. ((λ _ c. refl), (λ other. absurd (other own))))

  pub names-block : IsTrue old.shape.keeps → IsSound m → (result : Result Unit Fault) → AtomicWriteOutcome old new (table_start entered + 8 * i) (to_be_bytes w64 (slice_index entered.raw_entries i)) result → result ≡ Ok tt
      → BlockLinked m (with_block m i d modified (bytes_of new.bytes)) i d
  names-block keeps sound result put done =
      subst (λ (x : Bytes). BlockLinked m (with_block m i d modified x) i d)
      (sym (at-once-file m (table_start entered + 8 * i) (to_be_bytes w64 (slice_index entered.raw_entries i)) old new is_in result put keeps done ∙ put-there sound))
      (block-names m i d modified sound (ready sound))
