-- Switching the header to the table in its free area. The table's clusters are now referenced, and those of the old table are freed later.
use Rattle.std.proofs.Common.{◌≡◌, ◌≢◌, ℕ, ◌+◌, ◌*◌, ◌/◌, ◌<◌, ◌≤◌, refl, arith, ap, sym, subst, ◌∙◌, [], ◌∷◌, ◌++◌, length, inl, inr, Result, Ok, None, Bool, true, false}
use Rattle.std.specs.Prelude.{◌==◌, ◌&&◌, if◌then◌else◌, IsTrue, slice_index}
use Rattle.std.proofs.lemmas.Bool.{cases_Bool, cases_eq, cases_lt, ne_eqb}
use Rattle.std.proofs.lemmas.Bool.Decides.{nat_tests}
use Rattle.std.proofs.lemmas.Nat.{le-div}
use Rattle.std.proofs.Math.Nat.{div-mul-le_self}
use Rattle.imago_storage.specs.State.{StorageState}
use Rattle.imago_storage.specs.Through.{WriteOutcome, AtomicWriteOutcome}
use Rattle.imago_storage.specs.declared.fault.Fault.{Fault}
use Rattle.qcow2_types.specs.Bytes.{bytes_of, splice}
use Rattle.qcow2_types.specs.Counts.{block_at, counters_of_block}
use Rattle.qcow2_types.specs.Header.{Fields, Header, first_fault, rules_of_size, header_of, cluster_size}
use Rattle.qcow2_types.specs.HeaderBytes.{first_bytes}
use Rattle.qcow2_types.specs.HeaderSwitch.{FirstFieldsFit, OnlyPlaces}
use Rattle.qcow2_types.specs.Pending.{FreeEntry}
use Rattle.qcow2_types.specs.References.{meets}
use Rattle.qcow2_types.specs.Switched.{with_refcount_table}
use Rattle.qcow2_types.specs.TableBytes.{table_bytes}
use Rattle.qcow2_types.specs.Words.{block_offset}
use Rattle.qcow2_types.proofs.Counting.Counters.{some-counters}
use Rattle.qcow2_types.proofs.Counting.Either.{refs-cached}
use Rattle.qcow2_types.proofs.Changes.Frames.{refcount_table-part}
use Rattle.qcow2_types.proofs.Fields.HeaderLimits.{header-limited}
use Rattle.qcow2_types.proofs.Switching.HeaderSwitch.{switch-header, name-behind}
use Rattle.qcow2_types.proofs.Changes.WriteBack.{place-whole}
use Rattle.qcow2_metadata.specs.Tables.{TableValue, table_start}
use Rattle.qcow2_alloc.specs.declared.allocation.searching.Run.{Run}
use Rattle.qcow2_alloc.specs.FreeList.{covers}
use Rattle.qcow2_alloc.specs.Growing.{lacks}
use Rattle.qcow2_alloc.specs.MakingRoom.{run_of, rank, newly, formerly, newly_counted, IsReadyTable, IsGrownTable, TableSwitched, with_table}
use Rattle.qcow2_alloc.specs.MovingTables.{IsGrownCopy, HasFreeAreaFor, IsTaken, naming_table}
use Rattle.qcow2_alloc.specs.GuestView.{Metadata, in_memory, counted, referenced, waiting, IsUsed, IsSound, IsIn, PreservesGuest}
use Rattle.qcow2_alloc.proofs.Blocks.RunCounts.{covers-behind}
use Rattle.qcow2_alloc.proofs.Searching.FreeClusters.{old-table-waits}
use Rattle.qcow2_alloc.proofs.Growth.LongerReftables.{covers-inside, covers-before, newly-run, old-counts, new-counts}
use Rattle.qcow2_alloc.proofs.Freeing.ClusterOccurrences.{covers-meets}
use Rattle.qcow2_alloc.proofs.Memory.MemoryWords.{places-in-memory}
use Rattle.qcow2_alloc.proofs.Growth.TableMoves.{place-there, all-are, table-grown, table-ready}
use Rattle.qcow2_alloc.proofs.Blocks.NewBlockNames.{lack-here}
use Rattle.qcow2_alloc.proofs.Memory.Patches.{shaped-in}
use Rattle.qcow2_alloc.proofs.GuestView.QuietNames.{table-names}
use Rattle.qcow2_alloc.proofs.GuestView.QuietSequences.{quiet-then, quiet-otherwise}
use Rattle.qcow2_alloc.proofs.Growth.TableSwitches.{switch-quietly, switch-names, sound-sizes}

-- 1 if cluster `c` is in the run and a block counts it, else 0.
abbrev pub part_named : TableValue → ℕ → Run → ℕ → ℕ
part_named table k run c = if block_offset (slice_index table.raw_entries (c / k)) == 0 then 0 else covers c (run_of run.first run.len)

empty-part : (w x : ℕ) → w ≡ 0 → (if w == 0 then 0 else x) ≡ 0
empty-part w x none = rw none refl

there-part : (w x : ℕ) → w ≢ 0 → (if w == 0 then 0 else x) ≡ x
there-part w x some = rw (ne_eqb w 0 some) refl

first-empty : (w : ℕ) (b : Bool) → ((w == 0) && b) ≡ true → w ≡ 0
first-empty w b is = grind (arith, nat_tests)

-- The clusters of the image's refcount table.
abbrev pub old_run : Metadata → FreeEntry
old_run m = run_of (m.header.fields.refcount_table_offset / cluster_size m.header.fields) m.header.fields.refcount_table_clusters

pub old-run-is : (m : Metadata) → IsSound m → (c : ℕ) → covers c (old_run m) ≡ formerly m c
old-run-is m sound c =
    let limited = header-limited true m.file m.header sound.well_formed.consistent.readable.loads in
    covers-meets m.header.fields c (old_run m)
    ∙ ap (λ p. meets m.header.fields c p (m.header.fields.refcount_table_clusters * cluster_size m.header.fields)) (place-whole m.header.fields.cluster_bits m.header.fields.refcount_table_offset limited.refcount_place)

pub old-run-unused : (m : Metadata) (c : ℕ) → IsUsed m c → formerly m c ≡ 0
old-run-unused m c used = let part = refcount_table-part m.file m.header.fields (meets m.header.fields c) in let none = used.apart in omega (arith, part, none)

-- A grown table was written to a run that image `m` took, and the storage keeps writes.
module _ (m : Metadata) (run : Run) (n : ℕ) (copy : TableValue) (sound : IsSound m) (low : 9 ≤ m.header.fields.cluster_bits) (grown : IsGrownCopy m.header.fields m.table run n copy) (room : HasFreeAreaFor m.header.fields m.table run n) (taken : IsTaken m run)
    (old new : StorageState) (is_in : IsIn old m) (keeps : IsTrue old.shape.keeps) (put : WriteOutcome {T = Unit {0}} old new (table_start copy) (table_bytes copy.raw_entries) (Ok tt)) (mine : ℕ → ℕ) (used : (c : ℕ) → run.first ≤ c → c < run.first + run.len → 0 < mine c)
    (unlisted : (c : ℕ) → run.first ≤ c → c < run.first + run.len → waiting m c ≡ 0) (was : ℕ → ℕ) (counts : (c : ℕ) → counted m c ≡ was c + part_named m.table (counters_of_block m.header.fields) run c) (zero : (c : ℕ) → run.first ≤ c → c < run.first + run.len → was c ≡ 0) where
  abbrev h : Fields
  h = m.header.fields

  abbrev k : ℕ
  k = counters_of_block m.header.fields

  abbrev lack : ℕ → Bool
  lack = lacks m.table (counters_of_block m.header.fields) run.first run.len

  abbrev copied : TableValue
  copied = record copy { modified = false }

  -- The cluster of the table.
  abbrev place : ℕ
  place = run.first + rank (lacks m.table (counters_of_block m.header.fields) run.first run.len) (length copy.raw_entries)

  abbrev m5 : Metadata
  m5 = record m { file = bytes_of new.bytes }

  some-k : 0 < k
  some-k = some-counters m.header.fields (shaped-in m.file m.header sound.well_formed.consistent)

  block-there : (c : ℕ) → run.first ≤ c → c < run.first + run.len → lack (c / k) ≡ false → block_offset (slice_index m.table.raw_entries (c / k)) ≢ 0
  block-there c from to off none =
      let whole : c / k * k ≤ c = div-mul-le_self c k in
      let low_part : run.first / k * k ≤ run.first = div-mul-le_self run.first k in
      let is = lack-here h m.table run (c / k) none (le-div (run.first / k) c k some-k (omega (arith, low_part, from))) (omega (arith, whole, to)) in
      absurd (let both : true ≡ false = sym is ∙ off in cc both)

  enough : (c : ℕ) → run.first ≤ c → c < run.first + run.len → lack (c / k) ≡ false → 1 ≤ counted m c
  enough c from to off =
      let is = counts c in
      let part = there-part (block_offset (slice_index m.table.raw_entries (c / k))) (covers c (run_of run.first run.len)) (block-there c from to off) in
      let one = covers-inside c run.first run.len from to in
      omega (arith, is, part, one)

  grown-there : IsGrownTable m5 copied run.first lack n
  grown-there = table-grown m run n copy sound low grown room taken old new is_in keeps (Ok tt) put mine used refl unlisted enough

  ready : IsSound m5 → IsReadyTable m5 copied place n
  ready sound' = table-ready m run n copy sound low grown room taken old new is_in keeps (Ok tt) put mine used refl sound' unlisted enough

  place-is : table_start copy ≡ place * cluster_size h
  place-is = place-there m run n copy sound low grown room taken

  run-is : rank lack (length copy.raw_entries) + n ≡ run.len
  run-is = all-are m run n copy sound low grown room taken

  covers-run : (c : ℕ) → covers c (run_of run.first (rank lack (length copy.raw_entries) + n)) ≡ covers c (run_of run.first run.len)
  covers-run c = ap (λ l. covers c (run_of run.first l)) run-is

  not-in-run : (c : ℕ) → lack (c / k) ≡ false → block_offset (slice_index m.table.raw_entries (c / k)) ≡ 0 → covers c (run_of run.first run.len) ≡ 0
  not-in-run c off none = elim (cases_lt c run.first) [
    | inl lt ↦ covers-before c run.first run.len lt
    | inr from ↦ elim (cases_lt c (run.first + run.len)) [
      | inl to ↦ absurd (block-there c from to off none)
      | inr past ↦ covers-behind c run.first run.len past
    ]
  ]

  -- The switch uses exactly the clusters with a refcount that was raised for it.
  pub part-is : IsSound m5 → (c : ℕ) → newly_counted m5 place n c ≡ part_named m.table k run c
  part-is sound' c = elim (cases_Bool (lack (c / k))) [
    | inl is ↦
        new-counts m5 copied run.first n lack sound' grown-there c is
        ∙ sym (empty-part (block_offset (slice_index m.table.raw_entries (c / k))) (covers c (run_of run.first run.len)) (first-empty (block_offset (slice_index m.table.raw_entries (c / k))) _ is))
    | inr off ↦
        old-counts m5 copied run.first n lack sound' grown-there c off ∙ covers-run c ∙ sym (elim (cases_eq (block_offset (slice_index m.table.raw_entries (c / k))) 0) [
          | inl none ↦ empty-part (block_offset (slice_index m.table.raw_entries (c / k))) (covers c (run_of run.first run.len)) none ∙ sym (not-in-run c off none)
          | inr some ↦ there-part (block_offset (slice_index m.table.raw_entries (c / k))) (covers c (run_of run.first run.len)) some
        ])
  ]

  -- The header's pointer is written.
  module _ (fit : FirstFieldsFit (naming_table m.header copy).fields) (clusters : (naming_table m.header copy).fields.refcount_table_clusters ≡ n) (sizes : first_fault (rules_of_size h) ≡ None → first_fault (rules_of_size (naming_table m.header copy).fields) ≡ None)
      (last : StorageState) (result : Result Unit Fault) (pointed : AtomicWriteOutcome new last 0 (first_bytes (naming_table m.header copy).fields) result) where
    abbrev H' : Header
    H' = with_refcount_table m.header (place * cluster_size m.header.fields) n

    pub header-is : naming_table m.header copy ≡ H'
    header-is = ap (λ (c : ℕ). with_refcount_table m.header (table_start copy) c) clusters ∙ ap (λ (p : ℕ). with_refcount_table m.header p n) place-is

    loads : IsSound m5 → header_of true (splice m5.file 0 (first_bytes H'.fields)) ≡ Ok H'
    loads sound' =
        let loaded = sound'.well_formed.consistent.readable.loads in
        let only : OnlyPlaces m.header H' = record { same = refl } in
        switch-header true m5.file m.header H' loaded only (subst (λ (H : Header). FirstFieldsFit H.fields) header-is fit)
        (subst (λ (H : Header). first_fault (rules_of_size H.fields) ≡ None) header-is (sizes (sound-sizes m sound))) (name-behind m5.file m.header loaded)

    at-once : AtomicWriteOutcome new last 0 (first_bytes H'.fields) result
    at-once = subst (λ (H : Header). AtomicWriteOutcome new last 0 (first_bytes H.fields) result) header-is pointed

    abbrev m6 : Metadata
    m6 = with_table m5 copied place n (bytes_of last.bytes)

    abbrev pub m7 : Metadata
    m7 = record m6 { pending = m.pending ++ old_run m ∷ [] }

    pub pointer-quietly : PreservesGuest (result ≡ Ok tt) (formerly m5) (newly_counted m5 place n) new m5 last m6
    pointer-quietly = switch-quietly m5 copied place n new last refl ready loads result at-once

    switched : IsTrue new.shape.keeps → IsSound m5 → result ≡ Ok tt → TableSwitched m5 m6 place n
    switched keeps' sound' done = switch-names m5 copied place n new last refl ready loads keeps' sound' result at-once done

    -- A cluster that was referenced isn't newly referenced.
    taken-unnamed : IsSound m5 → (c : ℕ) → 0 < referenced m5 c → newly_counted m5 place n c ≡ 0
    taken-unnamed sound' c some = elim (cases_lt 0 (newly_counted m5 place n c)) [
      | inr least ↦ omega (arith, least)
      | inl new_there ↦
          let places = places-in-memory m5.file m5.header sound'.well_formed.consistent m5.cached sound'.well_formed.tables sound'.well_formed.blocks in
          let le = refs-cached m5.file (in_memory m5) m5.header.fields c places in
          let none = ((ready sound').free c (weighs (block_at m5.file h (c / k)) (newly m5 place n c) new_there)).0 in
          absurd (omega (arith, some, le, none))
    ]
      where
        weighs : (b w : ℕ) → 0 < (if b == 0 then 0 else w) → 0 < w
        weighs b w there = elim (cases_eq b 0) [
          | inl none ↦ let zeroed = empty-part b w none in absurd (omega (arith, zeroed, there))
          | inr is ↦ let same = there-part b w is in omega (arith, same, there)
        ]

    -- The clusters of the old table are added to the free list.
    pub waits-quietly : PreservesGuest (result ≡ Ok tt) (formerly m5) (λ c. newly_counted m5 place n c + covers c (old_run m)) new m5 last m7
    waits-quietly =
        let q = pointer-quietly in
        record {
          shape = q.shape;
          counts_not_fallen = q.counts_not_fallen;
          passes = q.passes;
          holds = λ keeps' sound' done.
              let six = q.holds keeps' sound' done in
              let seven = old-table-waits m5 copied place n (bytes_of last.bytes) sound' (ready sound') (switched keeps' sound' done) six.0 in (
                seven.0,
                quiet-otherwise m5 m7 (λ c. formerly m5 c + 0) (λ c. newly_counted m5 place n c + covers c (old_run m)) (formerly m5) (λ c. newly_counted m5 place n c + covers c (old_run m)) (λ c. omega arith) (λ c u none. none)
                    (quiet-then m5 m6 m7 (formerly m5) (newly_counted m5 place n) (λ _. 0) (λ c. covers c (old_run m)) sound' six.0 (taken-unnamed sound') six.1 seven.1),
              );
        }

    -- The refcounts of the run rise, and no others.
    pub counts-filled : IsTrue new.shape.keeps → (sound' : IsSound m5) → result ≡ Ok tt → ((c : ℕ) → counted m5 c ≡ counted m c) → (c : ℕ) → counted m7 c ≡ was c + covers c (run_of run.first run.len)
    counts-filled keeps' sound' done same c =
        let s = switched keeps' sound' done in
        let five = same c in
        let four = counts c in
        elim (cases_eq (block_at m5.file h (c / k)) 0) [
          | inl none ↦
              let own = s.own c none in
              let all : newly m5 place n c ≡ covers c (run_of run.first run.len) = newly-run m5 copied run.first n lack sound' grown-there c ∙ covers-run c in
              omega (arith, own.0, own.1, five, four, all)
          | inr there ↦
              let stays = (s.others c there).0 in
              let part = there-part (block_offset (slice_index m.table.raw_entries (c / k))) (covers c (run_of run.first run.len)) (λ none. there (table-names m5 sound' (c / k) ∙ none)) in
              omega (arith, stays, five, four, part)
        ]
