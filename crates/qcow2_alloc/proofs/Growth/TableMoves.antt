-- Writing a grown refcount table to its free area, and referencing it from the header.
use Rattle.std.proofs.Common.{◌≡◌, ℕ, ◌+◌, ◌-◌, ◌*◌, ◌/◌, ◌^◌, ◌<◌, ◌≤◌, arith, ap, sym, ◌∙◌, List, [], ◌∷◌, length, inl, inr, Result, Ok, Err, None, Some, Option, Bool, true, false}
use Rattle.std.specs.Prelude.{◌==◌, ◌&&◌, nat_eq, IsTrue, slice_index}
use Rattle.std.specs.List.{AllByRecursion}
use Rattle.std.specs.Map.{lookup}
use Rattle.std.proofs.lemmas.Bool.{cases_Bool, cases_lt}
use Rattle.std.proofs.lemmas.Bool.Decides.{nat_tests}
use Rattle.std.proofs.lemmas.Nat.{pow-add}
use Rattle.std.proofs.Math.Nat.{mul-le-mul, mul-le-mul_right}
use Rattle.imago_storage.specs.State.{StorageState}
use Rattle.imago_storage.specs.Through.{WriteOutcome}
use Rattle.imago_storage.specs.declared.fault.Fault.{Fault}
use Rattle.qcow2_types.specs.Bytes.{Bytes, bytes_of, splice, raw_entry}
use Rattle.qcow2_types.specs.Counts.{counters_of_block}
use Rattle.qcow2_types.specs.Frames.{Same}
use Rattle.qcow2_types.specs.Header.{Fields, cluster_size, entries_of_cluster}
use Rattle.qcow2_types.specs.TableBytes.{table_bytes}
use Rattle.qcow2_types.specs.Words.{Layout, block_offset}
use Rattle.qcow2_types.proofs.Counting.Counters.{some-counters}
use Rattle.qcow2_types.proofs.Changes.Over.{words-length, table-over}
use Rattle.qcow2_metadata.specs.Blocks.{Block, counters_in}
use Rattle.qcow2_metadata.specs.Places.{place_of}
use Rattle.qcow2_metadata.specs.Tables.{TableValue, table_start}
use Rattle.qcow2_alloc.specs.declared.allocation.searching.Run.{Run}
use Rattle.qcow2_alloc.specs.declared.async_lru_cache.Slot.{Slot}
use Rattle.qcow2_alloc.specs.FreeList.{covers}
use Rattle.qcow2_alloc.specs.Growing.{lacks, lacking}
use Rattle.qcow2_alloc.specs.MakingRoom.{run_of, rank, CountsTheSame, IsGrownTable, IsReadyTable}
use Rattle.qcow2_alloc.specs.MovingTables.{IsGrownCopy, HasFreeAreaFor, IsTaken}
use Rattle.qcow2_alloc.specs.GuestView.{Metadata, counted, referenced_at_all, waiting, IsUsed, IsSound, IsIn, PreservesGuest}
use Rattle.qcow2_alloc.proofs.Growth.FirstRooms.{rank-stays, lacks-inside}
use Rattle.qcow2_alloc.proofs.Flushing.EntryFlushes.{spliced-bytes}
use Rattle.qcow2_alloc.proofs.Memory.FreeClusterWrites.{run-quietly, run-counts, put-outside}
use Rattle.qcow2_alloc.proofs.Growth.LongerReftables.{grown-ready, covers-before}
use Rattle.qcow2_alloc.proofs.Blocks.RunCounts.{covers-behind}
use Rattle.qcow2_alloc.proofs.Blocks.NewBlockNames.{rank-before, word-inside}
use Rattle.qcow2_alloc.proofs.Memory.Patches.{shaped-in}
use Rattle.qcow2_alloc.proofs.Blocks.NewBlockWrites.{own-still}

put-file : (m : Metadata) (at : ℕ) (bytes : List ℕ) (old new : StorageState) → IsIn old m → (result : Result Unit Fault) → WriteOutcome old new at bytes result → IsTrue old.shape.keeps → result ≡ Ok tt → bytes_of new.bytes ≡ splice m.file at bytes
put-file m at bytes old new is_in (Ok done) put keeps is = spliced-bytes old.bytes at bytes new.bytes (put.answer.content keeps) ∙ ap (λ (f : Bytes). splice f at bytes) (sym is_in)
put-file m at bytes old new is_in (Err fault) put keeps is = absurd (cc is)

pub cluster-words : (h : Fields) → 9 ≤ h.cluster_bits → 8 * entries_of_cluster h ≡ cluster_size h
cluster-words h low =
    let split : h.cluster_bits ≡ h.cluster_bits - 3 + 3 = omega (arith, low) in
    let row : 2 ^ h.cluster_bits ≡ 2 ^ (h.cluster_bits - 3) * 2 ^ 3 = ap (λ n. 2 ^ n) split ∙ pow-add 2 (h.cluster_bits - 3) 3 in
    omega (arith, row)

rank-behind : (new : ℕ → Bool) (a b : ℕ) → a ≤ b → ((i : ℕ) → new i ≡ true → i < a) → rank new b ≡ rank new a
rank-behind new a b le all =
    let on = rank-stays new a (b - a) (λ i from to. elim (cases_Bool (new i)) [ inl is ↦ (let lt = all i is in absurd (omega (arith, lt, from))) | inr off ↦ off ]) in
    let there : rank new (a + (b - a)) ≡ rank new b = ap (rank new) (omega (arith, le)) in
    sym there ∙ on

pub rank-both : (new : ℕ → Bool) (a b : ℕ) → ((i : ℕ) → new i ≡ true → i < a) → ((i : ℕ) → new i ≡ true → i < b) → rank new a ≡ rank new b
rank-both new a b in_a in_b = elim (cases_lt a b) [
  | inl lt ↦ sym (rank-behind new a b (omega (arith, lt)) in_a)
  | inr le ↦ rank-behind new b a le in_b
]

none-cached : (m : Metadata) (key : ℕ → ℕ) (new : ℕ → Bool) (es : List (ℕ × Slot Block)) → ((i : ℕ) → new i ≡ true → lookup (nat_eq (key i)) es ≡ None)
    → AllByRecursion (λ e. (i : ℕ) → new i ≡ true → e.0 ≡ key i → e.1.value.counters ≡ counters_in m.file m.header.fields (e.0 * cluster_size m.header.fields)) es
none-cached m key new [] none = tt
none-cached m key new (e ∷ es) none = (
  λ i is same. absurd (here (key i) (sym same) (none i is)),
  none-cached m key new es (λ i is. behind (key i) (none i is)),
)
  where
    eqb-here : (a b : ℕ) → a ≡ b → nat_eq a b ≡ true
    eqb-here a b same = grind (arith, nat_tests)

    here : (k : ℕ) → k ≡ e.0 → lookup (nat_eq k) (e ∷ es) ≡ None → ⊥
    here k same absent = let at : nat_eq k e.0 ≡ true = eqb-here k e.0 same in let found = rw at at absent in cc found

    behind : (k : ℕ) → lookup (nat_eq k) (e ∷ es) ≡ None → lookup (nat_eq k) es ≡ None
    behind k absent = elim (cases_Bool (nat_eq k e.0)) [
      | inl t ↦ absurd (let found = rw t at absent in cc found)
      | inr f ↦ rw f at absent
    ]

module _ (m : Metadata) (run : Run) (n : ℕ) (copy : TableValue) (sound : IsSound m) (low : 9 ≤ m.header.fields.cluster_bits) (grown : IsGrownCopy m.header.fields m.table run n copy) (room : HasFreeAreaFor m.header.fields m.table run n) (taken : IsTaken m run) where
  abbrev h : Fields
  h = m.header.fields

  abbrev k : ℕ
  k = counters_of_block m.header.fields

  abbrev lack : ℕ → Bool
  lack = lacks m.table (counters_of_block m.header.fields) run.first run.len

  -- The cluster of the table.
  abbrev pub t : ℕ
  t = run.first + rank (lacks m.table (counters_of_block m.header.fields) run.first run.len) (length copy.raw_entries)

  some-k : 0 < k
  some-k = some-counters m.header.fields (shaped-in m.file m.header sound.well_formed.consistent)

  inside-words : (i : ℕ) → lack i ≡ true → i < length copy.raw_entries
  inside-words i is =
      let to = (lacks-inside m.table k run.first run.len i is).1 in
      let le : n * entries_of_cluster h * k ≡ length copy.raw_entries * k = ap (λ w. w * k) (sym grown.long) in
      let inside = room.inside in
      word-inside i k (length copy.raw_entries) (run.first + run.len) some-k to (omega (arith, le, inside))

  inside-run : (i : ℕ) → lack i ≡ true → i < run.first + run.len
  inside-run i is =
      let to = (lacks-inside m.table k run.first run.len i is).1 in
      let le : i * 1 ≤ i * k = mul-le-mul (omega arith) some-k in
      omega (arith, to, le)

  pub blocks-are : rank lack (length copy.raw_entries) ≡ lacking m.table k run.first run.len
  blocks-are = rank-both lack (length copy.raw_entries) (run.first + run.len) inside-words inside-run

  pub all-are : rank lack (length copy.raw_entries) + n ≡ run.len
  all-are = let is = blocks-are in let enough = room.enough in omega (arith, is, enough)

  pub placed-there : copy.cluster ≡ Some t
  placed-there = grown.placed ∙ ap (λ b. Some (run.first + b)) (sym blocks-are)

  pub place-there : table_start copy ≡ t * cluster_size h
  place-there = ap (λ (l : Layout). place_of l.cluster_bits copy.cluster) grown.layout ∙ ap (λ (c : Option ℕ). place_of h.cluster_bits c) placed-there

  pub bytes-there : length (table_bytes copy.raw_entries) ≡ n * cluster_size h
  bytes-there =
      let size = words-length copy.raw_entries in
      let long = grown.long in
      let row = cluster-words h low in
      let all : n * (8 * entries_of_cluster h) ≡ n * cluster_size h = ap (λ w. n * w) row in
      let part : n * (8 * entries_of_cluster h) ≡ 8 * (n * entries_of_cluster h) = omega arith in
      omega (arith, size, long, all, part)

  -- The table is written there.
  module _ (old new : StorageState) (is_in : IsIn old m) (keeps : IsTrue old.shape.keeps) (done : Result Unit Fault) (put : WriteOutcome old new (table_start copy) (table_bytes copy.raw_entries) done) (ours : ℕ → ℕ) (used : (c : ℕ) → run.first ≤ c → c < run.first + run.len → 0 < ours c) where
    free-there : IsSound m → (d : ℕ) → t ≤ d → d ≤ t + (n - 1) → (referenced_at_all m d ≡ 0) × (IsUsed m d → 0 < ours d)
    free-there s d from to =
        let all = all-are in
        let more = room.more in
        let above : run.first ≤ d = omega (arith, from) in
        let below : d < run.first + run.len = omega (arith, from, to, all, more) in
        (taken.free d above below, λ u. used d above below)

    from-there : t * cluster_size h ≤ table_start copy
    from-there = let is = place-there in omega (arith, is)

    to-there : table_start copy + length (table_bytes copy.raw_entries) ≤ (t + (n - 1) + 1) * cluster_size h
    to-there =
        let is = place-there in
        let size = bytes-there in
        let more = room.more in
        let sum : (t + (n - 1) + 1) * cluster_size h ≡ (t + n) * cluster_size h = ap (λ c. c * cluster_size h) (omega (arith, more)) in
        let parts : (t + n) * cluster_size h ≡ t * cluster_size h + n * cluster_size h = omega arith in
        omega (arith, is, size, sum, parts)

    pub table-quietly : PreservesGuest (done ≡ Ok tt) ours ours old m new (record m { file = bytes_of new.bytes })
    table-quietly = run-quietly m t (n - 1) (table_start copy) (table_bytes copy.raw_entries) ours old new is_in from-there to-there free-there done put

    module _ (is : done ≡ Ok tt) where
      pub table-counts : CountsTheSame m (record m { file = bytes_of new.bytes })
      table-counts = run-counts m t (n - 1) (table_start copy) (table_bytes copy.raw_entries) ours old new is_in from-there to-there free-there done put keeps sound is

      abbrev pub m' : Metadata
      m' = record m { file = bytes_of new.bytes }

      -- The new blocks before it keep their bytes.
      block-kept : (i : ℕ) → lack i ≡ true → Same m.file (bytes_of new.bytes) ((run.first + rank lack i) * cluster_size h) (cluster_size h)
      block-kept i is_lack j less =
          let out = put-outside old new (table_start copy) (table_bytes copy.raw_entries) done put keeps is in
          let before = rank-before h m.table run i (length copy.raw_entries) (inside-words i is_lack) is_lack in
          let le : (run.first + rank lack i + 1) * cluster_size h ≤ t * cluster_size h = mul-le-mul_right (cluster_size h) (omega (arith, before)) in
          let place = place-there in
          out ((run.first + rank lack i) * cluster_size h + j) (inl (omega (arith, le, place, less))) ∙ ap (λ (f : Bytes). f ((run.first + rank lack i) * cluster_size h + j)) (sym is_in)

      word-there : (i : ℕ) → i < length copy.raw_entries → raw_entry (bytes_of new.bytes) (t * cluster_size h) i ≡ slice_index copy.raw_entries i
      word-there i lt =
          ap (λ (f : Bytes). raw_entry f (t * cluster_size h) i) (put-file m (table_start copy) (table_bytes copy.raw_entries) old new is_in done put keeps is)
          ∙ ap (λ (p : ℕ). raw_entry (splice m.file p (table_bytes copy.raw_entries)) (t * cluster_size h) i) place-there
          ∙ table-over m.file (t * cluster_size h) copy.raw_entries i grown.fit lt

      run-whole : (c : ℕ) → covers c (run_of run.first (rank lack (length copy.raw_entries) + n)) ≡ covers c (run_of run.first run.len)
      run-whole c = ap (λ l. covers c (run_of run.first l)) all-are

      covered-inside : (c : ℕ) → 0 < covers c (run_of run.first (rank lack (length copy.raw_entries) + n)) → (run.first ≤ c) × (c < run.first + run.len)
      covered-inside c some = (
        elim (cases_lt c run.first) [
          | inl lt ↦ let none = covers-before c run.first run.len lt in let same = run-whole c in absurd (omega (arith, some, none, same))
          | inr from ↦ from
        ],
        elim (cases_lt c (run.first + run.len)) [
          | inl to ↦ to
          | inr le ↦ let none = covers-behind c run.first run.len le in let same = run-whole c in absurd (omega (arith, some, none, same))
        ],
      )

      -- `IsGrownTable` holds, if those clusters of the area are counted that old blocks count.
      pub table-grown : ((c : ℕ) → run.first ≤ c → c < run.first + run.len → waiting m c ≡ 0) → ((c : ℕ) → run.first ≤ c → c < run.first + run.len → lack (c / k) ≡ false → 1 ≤ counted m c)
          → IsGrownTable m' (record copy { modified = false }) run.first lack n
      table-grown unlisted enough = record {
        layout = grown.layout;
        long = grown.long;
        placed = placed-there;
        written = word-there;
        sane = grown.sane;
        longer = grown.longer;
        inside = inside-words;
        cluster_nonzero = room.start_nonzero;
        news = grown.news;
        empty = λ i is_lack. first-empty (block_offset (slice_index m.table.raw_entries i)) _ is_lack;
        olds = grown.olds;
        free = λ c some. let at = covered-inside c some in (table-counts.names c ∙ taken.free c at.0 at.1, unlisted c at.0 at.1);
        counters = λ i c is_lack own. own-still m.file (bytes_of new.bytes) h (run.first + rank lack i) i run some-k (block-kept i is_lack) (taken.counters i is_lack) c own ∙ sym (run-whole c);
        counted = λ c some off.
            let at = covered-inside c some in
            let one = enough c at.0 at.1 off in
            let file = table-counts.file c in
            let memory = table-counts.memory c in
            let same = taken.written c in
            (omega (arith, one, file, same), omega (arith, one, memory));
        cached = none-cached m' (λ i. run.first + rank lack i) lack m.cached.blocks taken.uncached;
      }
        where
          first-empty : (w : ℕ) (b : Bool) → ((w == 0) && b) ≡ true → w ≡ 0
          first-empty w b is = grind (arith, nat_tests)

      pub table-ready : IsSound m' → ((c : ℕ) → run.first ≤ c → c < run.first + run.len → waiting m c ≡ 0) → ((c : ℕ) → run.first ≤ c → c < run.first + run.len → lack (c / k) ≡ false → 1 ≤ counted m c)
          → IsReadyTable m' (record copy { modified = false }) t n
      table-ready sound' unlisted enough = grown-ready m' (record copy { modified = false }) run.first n lack sound' (table-grown unlisted enough)
