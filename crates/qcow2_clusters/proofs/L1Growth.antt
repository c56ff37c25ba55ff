-- A call that lengthens the L1 table.
use Rattle.std.proofs.Common.{◌≡◌, ℕ, ◌+◌, ◌-◌, ◌*◌, ◌/◌, ◌^◌, ◌<◌, ◌≤◌, refl, arith, ap, sym, subst, ◌∙◌, inl, inr, length, List, [], ◌∷◌, ◌++◌, Ok, Err, Result}
use Rattle.std.specs.Prelude.{◌==◌, if◌then◌else◌, IsErrOf, IsOkUnless, OnOk, EachIndex, max, min, replicate, slice_index}
use Rattle.std.proofs.Math.Nat.{le-max_left, le-max_right, lt-div-mul-add}
use Rattle.std.proofs.Math.Path.{fun_ext}
use Rattle.std.proofs.lemmas.Bool.{cases_eq, cases_lt, ne_eqb}
use Rattle.std.proofs.lemmas.Bool.Decides.{nat_tests}
use Rattle.std.proofs.lemmas.List.{append-nil, get_or_past, length-append, length-replicate}
use Rattle.std.proofs.lemmas.Nat.{pow_pos}
use Rattle.imago_storage.specs.State.{StorageState}
use Rattle.imago_storage.specs.Calls.{Cause, CountsNotFallen}
use Rattle.imago_storage.specs.Through.{WriteOutcome, AtomicWriteOutcome}
use Rattle.imago_storage.specs.declared.fault.Fault.{Fault}
use Rattle.imago_storage.specs.declared.fault.Fault.TheVariants.{DamagedTable, Limit, Memory}
use Rattle.imago_storage.proofs.Composing.{keeps_on, later_both, later_same}
use Rattle.qcow2_types.specs.Bytes.{Bytes, bytes_of, splice}
use Rattle.qcow2_types.specs.Header.{Fields, Header, cluster_size, layout_of}
use Rattle.qcow2_types.specs.HeaderBytes.{first_bytes}
use Rattle.qcow2_types.specs.Pending.{FreeEntry}
use Rattle.qcow2_types.specs.References.{meets}
use Rattle.qcow2_types.specs.Switched.{with_refcount_table, with_reftable}
use Rattle.qcow2_types.specs.TableBytes.{AreFit, table_bytes}
use Rattle.qcow2_types.proofs.Switching.HeaderSwitch.{length-first_bytes}
use Rattle.qcow2_types.proofs.Changes.Over.{words-length}
use Rattle.qcow2_types.proofs.Changes.WriteBack.{place-whole}
use Rattle.qcow2_metadata.specs.Tables.{TableValue, grown_l1, padded, table_start}
use Rattle.qcow2_alloc.specs.declared.file.ImageFile.{ImageFile}
use Rattle.qcow2_alloc.specs.Causes.{HasCause}
use Rattle.qcow2_alloc.specs.Crowding.{room_for, space}
use Rattle.qcow2_alloc.specs.FreeList.{covers}
use Rattle.qcow2_alloc.specs.Going.{HadNoResourceError}
use Rattle.qcow2_alloc.specs.MakingRoom.{run_of}
use Rattle.qcow2_alloc.specs.Opening.{IsL1Of}
use Rattle.qcow2_alloc.specs.GuestView.{Metadata, GuestUnchanged, IsSound, counted, referenced_at_all, referenced, waiting}
use Rattle.qcow2_alloc.specs.Freeing.{NoneFreeBefore}
use Rattle.qcow2_alloc.proofs.Causes.{storage-cause}
use Rattle.qcow2_alloc.proofs.Flushing.FaultlessCalls.{faultless-then, put-faultless}
use Rattle.qcow2_alloc.proofs.Growth.TableSwitches.{sound-sizes}
use Rattle.qcow2_alloc.proofs.GuestView.SingleRequests.{at-once-file, put-done}
use Rattle.qcow2_steps.specs.Advancing.{KeepsHeader}
use Rattle.qcow2_steps.specs.LongerL1.{old_l1}
use Rattle.qcow2_steps.proofs.Headers.{header-counts, header-l1, header-same, header-then}
use Rattle.qcow2_steps.proofs.Steps.{put-off-advances, quiet-advances}
use Rattle.qcow2_clusters.specs.Lengthening.{IsTooLong, IsTop, LengthensL1, LinksL1, StandsIn, clusters_for, l1_clusters, l1_run, lengthening, linking_l1}
use Rattle.qcow2_clusters.specs.MakingTables.{HasEntriesOf, PlacesL1}
use Rattle.qcow2_clusters.specs.Progress.{Kind, Progresses, both, handing}
use Rattle.qcow2_clusters.specs.Flushed.{AreEmpty, Clusters, IsReady, clusters_state, flushed_metadata, storage}
use Rattle.qcow2_clusters.specs.Room.{IsFull, LeavesRoom, first_free_in}
use Rattle.qcow2_clusters.specs.declared.space.Space.{Space}
use Rattle.qcow2_clusters.specs.Storing.{AreReserved, StoresRun, run_handed_by, storing_causes}
use Rattle.qcow2_clusters.proofs.ProgressSums.{AdvancesBy, progresses-halted, progresses-in-memory, progresses-otherwise, progresses-then-given, progresses-weaker, quiet-progresses, wider-both, wider-handing}
use Rattle.qcow2_clusters.proofs.RoomAfterAllocations.{leaves-as, marked-as, storing-as}
use Rattle.qcow2_clusters.proofs.LongerTables.{IsStoredL1, later, part-meets, stored-advances, stored-counts, stored-entered, stored-unnamed}
use Rattle.qcow2_clusters.proofs.TableCreation.{l1-placed, once-progresses}
use Rattle.qcow2_clusters.proofs.TableNames.{l1-long, l1-same}
use Rattle.qcow2_clusters.proofs.StartsAtRest.{begun-quiet, begun-quietly}

-- Entries fit their clusters.
taken-by : (h : Fields) (n : ℕ) → 8 * n + (cluster_size h - 1) < clusters_for h n * cluster_size h + cluster_size h
taken-by h n = lt-div-mul-add (pow_pos h.cluster_bits)

pub some-taken : (h : Fields) (n : ℕ) → 0 < n → 0 < clusters_for h n
some-taken h n some =
    let all = taken-by h n in
    let size : 0 < cluster_size h = pow_pos h.cluster_bits in
    elim (cases_lt 0 (clusters_for h n)) [
      | inl there ↦ there
      | inr least ↦
          let none : clusters_for h n ≡ 0 = omega (arith, least) in
          let empty : clusters_for h n * cluster_size h ≡ 0 * cluster_size h = ap (λ k. k * cluster_size h) none in
          absurd (omega (arith, all, size, some, empty))
    ]

pub words-fit : (h : Fields) (ws : List ℕ) → length (table_bytes ws) ≤ clusters_for h (length ws) * cluster_size h
words-fit h ws =
    let all = taken-by h (length ws) in
    let size : 0 < cluster_size h = pow_pos h.cluster_bits in
    let long = words-length ws in
    omega (arith, all, size, long)

-- The table is in the same cluster after its metadata is written.
pub stands-still : (h : Fields) (table : TableValue) (was result : Result ℕ Fault) (table' : TableValue) → OnOk result (result ≡ was)
    → StandsIn h table was table' → StandsIn h table result table'
stands-still h table was (Ok first) table' same stands = subst (λ (r : Result ℕ Fault). StandsIn h table r table') (sym same) stands
stands-still h table was (Err fault) table' same stands = record { layout = stands.layout; raw_entries = stands.raw_entries; placed = tt }

-- No longer table can be made: it would be too long, or memory ran out.
pub grow-refused : {T : Type 0} (ready : Type 0) (full : ℕ → Type 0) (at number faults : ℕ) (fault : Fault)
    → (2 ^ 22 < at + 1 → IsErrOf {T = T} (Err fault) (Limit number)) → (at + 1 ≤ 2 ^ 22 → IsOkUnless {T = T} (Err fault) Memory)
    → (2 ^ 22 < at + 1 → full number) → HasCause (storing_causes ready full faults faults) fault
grow-refused {T} ready full at number faults fault far near told = elim (cases_lt (2 ^ 22) (at + 1)) [
  | inl long ↦ let e = far long in let same : fault ≡ Limit number = cc e in subst (HasCause (storing_causes ready full faults faults)) (sym same) (λ is. told long)
  | inr short ↦ let e = near short in let same : fault ≡ Memory = cc e in subst (HasCause (storing_causes ready full faults faults)) (sym same) tt
]

short-enough : (i : ℕ) → (2 ^ 22 < i + 1 → ⊥) → i + 1 ≤ 2 ^ 22
short-enough i near = elim (cases_lt (2 ^ 22) (i + 1)) [ inl long ↦ absurd (near long) | inr short ↦ short ]

module _ {S : Type 0} (state : S → StorageState) (top : TableValue) (i : ℕ) (c : Clusters S) where
  abbrev Asked : Type 0
  Asked = IsTop state top c

  -- The call fails before it changes anything.
  pub l1-not-begun : (fault : Fault) (top' : TableValue) → AreEmpty c.caches → HasEntriesOf top top'
      → (IsReady state c → Asked → 2 ^ 22 < i + 1 → fault ≡ Limit (min (i + 1) (2 ^ 64 - 1)))
      → HasCause (storing_causes (IsReady state c × Asked) (IsTooLong state top i c c) (storage state c).faults (storage state c).faults) fault
      → LengthensL1 state top i c (Err fault) top' c
  l1-not-begun fault top' empty same far why = record {
    progress = λ asked. quiet-progresses (HadNoResourceError {T = Unit} (Err fault)) (λ _. 0) (λ _. 0) (storage state c) (flushed_metadata state c) (storage state c) (flushed_metadata state c)
        (λ sound k some. refl) (begun-quietly (HadNoResourceError {T = Unit} (Err fault)) (storage state c) (flushed_metadata state c) refl);
    empty = empty;
    room = record { tables = refl; blocks = refl };
    header = header-same c.file.header;
    shape = refl;
    counts_not_fallen = later_same (storage state c);
    faults = λ whole. (refl, refl);
    held = refl;
    l1 = λ ready asked whole. l1-same (flushed_metadata state c).file c.file.header.fields top top' same.layout same.raw_entries asked;
    long = tt;
    raw_entries = tt;
    waits = λ asked. tt;
    far = λ ready asked long. ap (λ (f : Fault). Err f) (far ready asked long);
    leaves = λ ready asked. tt;
    marked = λ asked ready whole marked. marked;
    cause = why;
  }

  -- The header's offset isn't valid for a table of this image.
  pub l1-not-placed : (fault : Fault) (top' : TableValue) → AreEmpty c.caches → PlacesL1 c.file.header.fields top (Err fault) top'
      → LengthensL1 state top i c (Err fault) top' c
  l1-not-placed fault top' empty places =
      let is : Err fault ≡ Err DamagedTable = places.err in
      let damaged : fault ≡ DamagedTable = cc is in
      l1-not-begun fault top' empty places.same (λ ready asked long. absurd (places.cause asked.layout (l1-placed (flushed_metadata state c) ready.sound)))
      (subst (HasCause (storing_causes (IsReady state c × Asked) (IsTooLong state top i c c) (storage state c).faults (storage state c).faults)) (sym damaged)
      (λ both. places.cause both.1.layout (l1-placed (flushed_metadata state c) both.0.sound)))

  -- The longer table isn't stored.
  pub l1-not-stored : (n : ℕ) (content : List ℕ) (fault : Fault) (top' : TableValue) (c1 : Clusters S) → HasEntriesOf top top'
      → (2 ^ 22 < i + 1 → ⊥) → n ≡ l1_clusters c.file.header.fields top i → StoresRun state n content c (Err fault) c1
      → LengthensL1 state top i c (Err fault) top' c1
  l1-not-stored n content fault top' c1 same near taken stores = record {
    progress = λ asked. progresses-weaker (HadNoResourceError {T = ℕ} (Err fault)) (HadNoResourceError {T = Unit} (Err fault))
        (handing (run_handed_by n (Err fault)) (λ _. 0)) (handing (λ _. 0) (λ _. 0)) (storage state c) (flushed_metadata state c) (storage state c1) (flushed_metadata state c1)
        (wider-handing (run_handed_by n (Err fault)) (λ _. 0) (handing (λ _. 0) (λ _. 0))) (λ whole. whole) (λ d. refl) (λ d. refl) stores.progress;
    empty = stores.rests.empty;
    room = stores.rests.room;
    header = header-counts c.file.header c1.file.header stores.rests.header;
    shape = stores.rests.shape;
    counts_not_fallen = stores.rests.counts_not_fallen;
    faults = stores.rests.faults;
    held = stores.held;
    l1 = λ ready asked whole. l1-same (flushed_metadata state c1).file c1.file.header.fields top top' same.layout same.raw_entries (stores.l1 ready whole top asked);
    long = tt;
    raw_entries = tt;
    waits = λ asked. tt;
    far = λ ready asked long. absurd (near long);
    leaves = λ ready asked. tt;
    marked = λ asked. stores.marked;
    cause = storing-as (IsFull n (flushed_metadata state c) (first_free_in c) (flushed_metadata state c1) (first_free_in c1))
        (IsTooLong state top i c c1) (storage state c).faults (storage state c1).faults (λ both. both.0) fault
        (λ number at is full. inr (short-enough i near, subst (λ k. IsFull k (flushed_metadata state c) (first_free_in c) (flushed_metadata state c1) (first_free_in c1) number) taken full))
        stores.cause;
  }

-- Each index of a file has a byte.
pub each-byte : (bytes : List ℕ) → EachIndex bytes (λ k. slice_index bytes k < 256) → (k : ℕ) → slice_index bytes k < 256
each-byte bytes fit k = elim (cases_lt k (length bytes)) [
  | inl below ↦ fit k below
  | inr behind ↦ let none = get_or_past bytes k 0 behind in omega (arith, none)
]

-- A range meets a cluster at most once, and an empty range never.
meets-most : (h : Fields) (d first long : ℕ) → meets h d first long ≤ 1
meets-most h d first long = grind (arith, nat_tests)

none-met : (h : Fields) (d first : ℕ) → meets h d first (0 * 8) ≡ 0
none-met h d first = refl

pub padded-long : (ws : List ℕ) (n : ℕ) → length ws ≤ n → length (padded ws n) ≡ n
padded-long ws n longer =
    length-append ws (replicate (n - length ws) 0) ∙ (let zeroes = length-replicate {A = ℕ} (n - length ws) 0 in omega (arith, zeroes, longer))

-- The clusters of the old table are added to the free list.
put-off-run : (m : Metadata) (bits place n : ℕ) (taken : ℕ → ℕ) → IsSound m → GuestUnchanged (λ _. 0) (λ _. 0) m m
    → ((d : ℕ) → taken d ≡ (if n == 0 then 0 else covers d (run_of (place / 2 ^ bits) ((8 * n + (2 ^ bits - 1)) / 2 ^ bits))))
    → ((d : ℕ) → referenced m d + waiting m d + taken d ≤ counted m d) → ((d : ℕ) → 0 < taken d → referenced_at_all m d ≡ 0)
    → AdvancesBy (handing (λ _. 0) taken) m (record m { pending = m.pending ++ l1_run bits place n })
put-off-run m bits place n taken sound guest_unchanged is enough not_referenced = elim (cases_eq n 0) [
  | inl none ↦
      let all : l1_run bits place n ≡ [] = rw none refl in
      let same : m.pending ++ [] ≡ m.pending = append-nil m.pending in
      subst (λ (l : List FreeEntry). AdvancesBy (handing (λ _. 0) taken) m (record m { pending = l }))
      (sym (ap (λ (l : List FreeEntry). m.pending ++ l) all ∙ same))
      (subst (λ (t : ℕ → ℕ). AdvancesBy (handing (λ _. 0) t) m m) (sym (fun_ext (λ d. is d ∙ rw none refl)))
      (quiet-advances m m (λ _. 0) (λ _. 0) sound sound guest_unchanged (λ k some. refl)))
  | inr some ↦
      let e : FreeEntry = run_of (place / 2 ^ bits) ((8 * n + (2 ^ bits - 1)) / 2 ^ bits) in
      let here : (d : ℕ) → taken d ≡ covers d e = λ d. is d ∙ rw (ne_eqb n 0 some) refl in
      let one : l1_run bits place n ≡ e ∷ [] = rw (ne_eqb n 0 some) refl in
      subst (λ (l : List FreeEntry). AdvancesBy (handing (λ _. 0) taken) m (record m { pending = m.pending ++ l })) (sym one)
      (subst (λ (t : ℕ → ℕ). AdvancesBy (handing (λ _. 0) t) m (record m { pending = m.pending ++ e ∷ [] })) (sym (fun_ext here))
      (put-off-advances m e sound (λ d. let le = enough d in let same = here d in omega (arith, le, same))
      (λ d there. not_referenced d (let same = here d in omega (arith, there, same)))))
]

-- The number of clusters of the longer table depends only on its length.
pub clusters-taken : (h : Fields) (top placed grown : TableValue) (i : ℕ) → placed.raw_entries ≡ top.raw_entries → grown ≡ grown_l1 (layout_of h) placed i
    → clusters_for h (length grown.raw_entries) ≡ l1_clusters h top i
clusters-taken h top placed grown i same grows = ap (clusters_for h)
    (ap (λ (t : TableValue). length t.raw_entries) grows ∙ padded-long placed.raw_entries (max (length placed.raw_entries) (i + 1)) (le-max_left (length placed.raw_entries) (i + 1))
    ∙ ap (λ (ws : List ℕ). max (length ws) (i + 1)) same)

-- The longer table is stored, and the header isn't yet written.
module _ {S : Type 0} (state : S → StorageState) (top placed grown : TableValue) (i : ℕ) (c : Clusters S) (first : ℕ) (c1 : Clusters S)
    (places : PlacesL1 c.file.header.fields top (Ok tt) placed) (grows : grown ≡ grown_l1 (layout_of c.file.header.fields) placed i)
    (stores : StoresRun state (clusters_for c.file.header.fields (length grown.raw_entries)) (table_bytes grown.raw_entries) c (Ok first) c1)
    (table : TableValue) (stands : StandsIn c.file.header.fields grown (Ok first) table) (fit : AreFit grown.raw_entries)
    (answer : Result Unit Fault) (file : ImageFile S) (names : LinksL1 state table placed c1.file answer file) (near : 2 ^ 22 < i + 1 → ⊥) where
  abbrev h : Fields
  h = c.file.header.fields

  abbrev h1 : Fields
  h1 = c1.file.header.fields

  abbrev m : Metadata
  m = flushed_metadata state c

  abbrev m1 : Metadata
  m1 = flushed_metadata state c1

  abbrev n : ℕ
  n = max (length placed.raw_entries) (i + 1)

  abbrev Given : Type 0
  Given = IsTop state top c

  abbrev k : ℕ
  k = clusters_for c.file.header.fields (length grown.raw_entries)

  abbrev run : ℕ → ℕ
  run d = covers d (run_of first (clusters_for c.file.header.fields (length grown.raw_entries)))

  moved : c1.file.header ≡ with_refcount_table c.file.header stores.rests.header.0 stores.rests.header.1
  moved = stores.rests.header.2

  -- A property of the header before holds for the header now, whose refcount table may have moved.
  by-header : (P : Fields → Type 0) → P (with_reftable c.file.header.fields stores.rests.header.0 stores.rests.header.1) → P h1
  by-header P p = subst (λ (H : Header). P H.fields) (sym moved) p

  stored-so : IsReady state c → Given → IsStoredL1 m1 table placed n first
  stored-so ready given = record {
    rest = refl;
    of = l1-same m1.file h1 top placed places.same.layout places.same.raw_entries (stores.l1 ready tt top given);
    layout = by-header (λ x. table.layout ≡ layout_of x) (stands.layout ∙ ap (λ (t : TableValue). t.layout) grows);
    raw_entries = stands.raw_entries ∙ ap (λ (t : TableValue). t.raw_entries) grows;
    longer = le-max_left (length placed.raw_entries) (i + 1);
    place = by-header (λ x. table_start table ≡ first * cluster_size x) stands.placed.1;
    some = stores.named.0;
    fit = subst AreFit (sym stands.raw_entries) fit;
    stored = λ j less.
        by-header (λ x. m1.file (first * cluster_size x + j) ≡ slice_index (table_bytes table.raw_entries) j)
        (stores.stored ready j (subst (λ (ws : List ℕ). j < length (table_bytes ws)) stands.raw_entries less)
        ∙ ap (λ (ws : List ℕ). slice_index (table_bytes ws) j) (sym stands.raw_entries));
    reserved = by-header (λ x. AreReserved (clusters_for x (length table.raw_entries)) m1 first)
        (subst (λ (ws : List ℕ). AreReserved (clusters_for h (length ws)) m1 first) (sym stands.raw_entries) (stores.reserved ready));
    bytes = each-byte (storage state c1).bytes names.bytes;
    sizes = names.sizes (sound-sizes m1 (stores.progress.holds ready.keeps ready.sound tt).sound);
  }

  -- The bytes of the request.
  abbrev bytes : List ℕ
  bytes = first_bytes (linking_l1 c1.file.header table).fields

  abbrev m2 : Metadata
  m2 = record (flushed_metadata state c1) { file = bytes_of (state file.image).bytes; header = linking_l1 c1.file.header table }

  abbrev one : Kind
  one = handing (run_handed_by (clusters_for c.file.header.fields (length grown.raw_entries)) (Ok first)) (λ _. 0)

  abbrev two : Kind
  two = handing (old_l1 (flushed_metadata state c)) (λ d. covers d (run_of first (clusters_for c.file.header.fields (length grown.raw_entries))))

  old-same : (d : ℕ) → old_l1 m1 d ≡ old_l1 m d
  old-same d = by-header (λ x. meets x d x.l1_offset (x.l1_entries * 8) ≡ old_l1 m d) refl

  run-same : (d : ℕ) → covers d (run_of first (clusters_for h1 (length table.raw_entries))) ≡ run d
  run-same d = by-header (λ x. covers d (run_of first (clusters_for x (length table.raw_entries))) ≡ run d)
      (ap (λ (ws : List ℕ). covers d (run_of first (clusters_for h (length ws)))) stands.raw_entries)

  named-step : IsReady state c → Given → IsSound m1
      → AdvancesBy two m1 (record m1 { file = splice m1.file 0 bytes; header = linking_l1 c1.file.header table })
  named-step ready given sound =
      subst (λ (t : ℕ → ℕ). AdvancesBy (handing t run) m1 (later m1 table placed n first sound (stored-so ready given))) (fun_ext old-same)
      (subst (λ (t : ℕ → ℕ). AdvancesBy (handing (old_l1 m1) t) m1 (later m1 table placed n first sound (stored-so ready given))) (fun_ext run-same)
      (stored-advances m1 table placed n first sound (stored-so ready given)))

  named-progress : Given → Progresses (answer ≡ Ok tt) (both one two) (storage state c) m (state file.image) m2
  named-progress given =
      progresses-then-given (answer ≡ Ok tt) (HadNoResourceError {T = ℕ} (Ok first)) one two (storage state c) m
      (storage state c1) m1 (state file.image) m2 tt stores.progress names.put.put.shape names.put.put.counts_not_fallen
      (λ keeps sound step. once-progresses m1 two 0 bytes (let long = length-first_bytes (linking_l1 c1.file.header table).fields in omega (arith, long)) (storage state c1) (state file.image) refl
      (linking_l1 c1.file.header table) (named-step record { keeps = keeps; sound = sound } given) answer names.put)

  shape-still : (state file.image).shape ≡ (storage state c).shape
  shape-still = names.put.put.shape ∙ stores.rests.shape

  later-still : CountsNotFallen (storage state c) (state file.image)
  later-still = later_both (storage state c) (storage state c1) (state file.image) stores.rests.counts_not_fallen names.put.put.counts_not_fallen

  -- The request fails, which is a resource error.
  module _ (fault : Fault) (refused : answer ≡ Err fault) (space : Space) (held : space.to_free.held ≡ c.space.to_free.held)
      (header : file.header ≡ linking_l1 c1.file.header placed) where
    never : HadNoResourceError {T = Unit} (Err fault) → ⊥
    never whole =
        let same = subst (λ (r : Result Unit Fault). HadNoResourceError r) (sym refused) whole in
        let is = put-done (storage state c1) (state file.image) 0 bytes answer names.put.put same in
        absurd (cc (sym refused ∙ is))

    cause-of : (r : Result Unit Fault) → AtomicWriteOutcome (storage state c1) (state file.image) 0 bytes r → r ≡ Err fault
        → Cause (storage state c1).faults (state file.image).faults fault
    cause-of r done is = (subst (λ (r : Result Unit Fault). WriteOutcome (storage state c1) (state file.image) 0 bytes r) is done.put).answer.cause

    pub l1-not-named : LengthensL1 state top i c (Err fault) placed (clusters_state file c1.caches space)
    l1-not-named = record {
      progress = λ given. progresses-halted (answer ≡ Ok tt) (HadNoResourceError {T = Unit} (Err fault)) (both one two) (handing (λ _. 0) (λ _. 0))
          (storage state c) m (state file.image) m2 (flushed_metadata state (clusters_state file c1.caches space))
          (wider-both one two (handing (λ _. 0) (λ _. 0)) (wider-handing one.excess_added one.taken (handing (λ _. 0) (λ _. 0)))
          (wider-handing two.excess_added two.taken (handing (λ _. 0) (λ _. 0)))) (λ keeps sound whole. never whole) (named-progress given);
      empty = stores.rests.empty;
      room = stores.rests.room;
      header = header-then c.file.header c1.file.header file.header (header-counts c.file.header c1.file.header stores.rests.header)
          (subst (KeepsHeader c1.file.header) (sym header) (header-l1 c1.file.header (table_start placed) (length placed.raw_entries)));
      shape = shape-still;
      counts_not_fallen = later-still;
      faults = λ whole. absurd (never whole);
      held = held;
      l1 = λ ready asked whole. absurd (never whole);
      long = tt;
      raw_entries = tt;
      waits = λ asked. tt;
      far = λ ready asked long. absurd (near long);
      leaves = λ ready asked. tt;
      marked = λ asked ready whole. absurd (never whole);
      cause = let same = (stores.rests.faults tt).0 in storage-cause _ _ _ (omega (arith, same)) (omega arith) fault (cause-of answer names.put refused);
    }

  -- The request succeeds, and the clusters of the old table are added to the free list.
  module _ (done : answer ≡ Ok tt) (header : file.header ≡ linking_l1 c1.file.header table) (held : ℕ) (one-less : held + 1 ≡ c1.space.to_free.held) where
    abbrev waits : List FreeEntry
    waits = l1_run placed.layout.cluster_bits (table_start placed) (length placed.raw_entries)

    abbrev c2 : Clusters S
    c2 = clusters_state file c1.caches (record { allocator = c1.space.allocator; to_free = record { entries = c1.space.to_free.entries ++ waits; held = held } })

    abbrev m3 : Metadata
    m3 = record m2 { pending = m1.pending ++ waits }

    resting-is : flushed_metadata state c2 ≡ m3
    resting-is = ap (λ (H : Header). record m3 { header = H }) header

    waits-is : Given → waits ≡ l1_run h.cluster_bits h.l1_offset h.l1_entries
    waits-is given =
        ap (λ b. l1_run b (table_start placed) (length placed.raw_entries)) places-bits
        ∙ ap (λ p. l1_run h.cluster_bits p (length placed.raw_entries)) places.place
        ∙ ap (λ j. l1_run h.cluster_bits h.l1_offset j) (ap length places.same.raw_entries ∙ l1-long m.file h top given)
      where
        places-bits : placed.layout.cluster_bits ≡ h.cluster_bits
        places-bits = ap (λ l. l.cluster_bits) places.same.layout ∙ places.bits

    -- The old table's use of a cluster.
    old-is : IsReady state c → (d : ℕ)
        → old_l1 m d ≡ (if h.l1_entries == 0 then 0 else covers d (run_of (h.l1_offset / cluster_size h) (clusters_for h h.l1_entries)))
    old-is ready d = elim (cases_eq h.l1_entries 0) [
      | inl none ↦ ap (λ j. meets h d h.l1_offset (j * 8)) none ∙ none-met h d h.l1_offset ∙ sym (rw none refl)
      | inr some ↦
          let place : h.l1_offset / cluster_size h * cluster_size h ≡ h.l1_offset = place-whole h.cluster_bits h.l1_offset (l1-placed m ready.sound) in
          ap (λ p. meets h d p (h.l1_entries * 8)) (sym place) ∙ part-meets h d (h.l1_offset / cluster_size h) h.l1_entries
          ∙ rw (ne_eqb h.l1_entries 0 some) refl
    ]

    file-is : IsReady state c → m2.file ≡ splice m1.file 0 bytes
    file-is ready = at-once-file m1 0 bytes (storage state c1) (state file.image) refl answer names.put (keeps_on (storage state c) (storage state c1) stores.progress.shape ready.keeps) done

    later-there : (ready : IsReady state c) (given : Given) (sound : IsSound m1) → m2 ≡ later m1 table placed n first sound (stored-so ready given)
    later-there ready given sound = ap (λ (x : Bytes). record m2 { file = x }) (file-is ready)

    unnamed-there : IsReady state c → Given → IsSound m1 → (d : ℕ) → 0 < old_l1 m d → referenced_at_all m2 d ≡ 0
    unnamed-there ready given sound d some =
        let most = meets-most h d h.l1_offset (h.l1_entries * 8) in
        let own : old_l1 m1 d ≡ 1 = old-same d ∙ (let e : old_l1 m d ≡ 1 = omega (arith, most, some) in e) in
        subst (λ (x : Metadata). referenced_at_all x d ≡ 0) (sym (later-there ready given sound))
        (stored-unnamed m1 table placed n first sound (stored-so ready given) d own)

    abbrev three : Kind
    three = handing (λ _. 0) (old_l1 (flushed_metadata state c))

    wait-step : IsReady state c → Given → AdvancesBy (both one two) m m2 → AdvancesBy three m2 m3
    wait-step ready given step =
        let sound1 = (stores.progress.holds ready.keeps ready.sound tt).sound in
        subst (λ (l : List FreeEntry). AdvancesBy three m2 (record m2 { pending = m1.pending ++ l })) (sym (waits-is given))
        (put-off-run m2 h.cluster_bits h.l1_offset h.l1_entries (old_l1 m) step.sound (begun-quiet m2 refl step.sound).1 (old-is ready)
        (λ d. let law = step.law d in let was = ready.sound.covered d in omega (arith, law, was))
        (unnamed-there ready given sound1))

    all-progress : Given → Progresses (HadNoResourceError {T = Unit} (Ok tt)) (both (both one two) three) (storage state c) m (state file.image) m3
    all-progress given = progresses-then-given (HadNoResourceError {T = Unit} (Ok tt)) (answer ≡ Ok tt) (both one two) three (storage state c) m
        (state file.image) m2 (state file.image) m3 done (named-progress given) refl (later_same (state file.image))
        (λ keeps sound step. progresses-in-memory (HadNoResourceError {T = Unit} (Ok tt)) three (state file.image) m2 m3
        (λ sound2 whole. wait-step record { keeps = keeps; sound = sound } given step))

    -- The new table uses the clusters that were taken.
    new-is : (d : ℕ) → old_l1 (flushed_metadata state c2) d ≡ run d
    new-is d =
        ap (λ (H : Header). meets H.fields d H.fields.l1_offset (H.fields.l1_entries * 8)) header
        ∙ by-header (λ x. meets x d (table_start table) (length table.raw_entries * 8) ≡ run d)
        (ap (λ p. meets h d p (length table.raw_entries * 8)) stands.placed.1 ∙ ap (λ (ws : List ℕ). meets h d (first * cluster_size h) (length ws * 8)) stands.raw_entries
        ∙ part-meets h d first (length grown.raw_entries))

    entered : IsReady state c → Given → IsTop state table c2
    entered ready given =
        let sound1 = (stores.progress.holds ready.keeps ready.sound tt).sound in
        subst (λ (H : Header). IsL1Of m2.file H.fields table) (sym header)
        (subst (λ (x : Metadata). IsL1Of x.file x.header.fields table) (sym (later-there ready given sound1))
        (stored-entered m1 table placed n first sound1 (stored-so ready given)))

    words-are : table.raw_entries ≡ padded placed.raw_entries n
    words-are = stands.raw_entries ∙ ap (λ (t : TableValue). t.raw_entries) grows

    -- The refcounts are the same as before.
    counts-still : IsReady state c → Given → (d : ℕ) → counted m2 d ≡ counted m1 d
    counts-still ready given d =
        let sound1 = (stores.progress.holds ready.keeps ready.sound tt).sound in
        subst (λ (x : Metadata). counted x d ≡ counted m1 d) (sym (later-there ready given sound1))
        (stored-counts m1 table placed n first sound1 (stored-so ready given) d)

    leaves-there : IsReady state c → Given
        → LeavesRoom (room_for h (l1_clusters h top i)) (flushed_metadata state c) (first_free_in c) (flushed_metadata state c2) (first_free_in c2)
    leaves-there ready given =
        subst (λ k. LeavesRoom (room_for h k) (flushed_metadata state c) (first_free_in c) (flushed_metadata state c2) (first_free_in c2))
        (clusters-taken h top placed grown i places.same.raw_entries grows)
        (leaves-as (room_for h k) m m m1 (flushed_metadata state c2) (first_free_in c) (first_free_in c1) refl (λ d. refl)
        (ap (λ (H : Header). space H.fields) header)
        (λ d. subst (λ (x : Metadata). counted x d ≡ counted m1 d) (sym resting-is) (counts-still ready given d)) (stores.leaves ready))

    marked-there : IsReady state c → Given → NoneFreeBefore m (first_free_in c) → NoneFreeBefore (flushed_metadata state c2) (first_free_in c2)
    marked-there ready given marked = marked-as m1 (flushed_metadata state c2) (first_free_in c1)
        (λ d. subst (λ (x : Metadata). counted x d ≡ counted m1 d) (sym resting-is) (counts-still ready given d)) (stores.marked ready tt marked)

    abbrev kind : Kind
    kind = lengthening (flushed_metadata state c) (flushed_metadata state c2) (Ok tt)

    pub l1-named : LengthensL1 state top i c (Ok tt) table c2
    l1-named = record {
      progress = λ given. progresses-otherwise (HadNoResourceError {T = Unit} (Ok tt)) (HadNoResourceError {T = Unit} (Ok tt)) (both (both one two) three) kind
          (storage state c) m (storage state c2) (flushed_metadata state c2)
          (wider-both (both one two) three kind (wider-both one two kind (wider-handing one.excess_added one.taken kind) (wider-handing two.excess_added two.taken kind)) (wider-handing three.excess_added three.taken kind))
          (λ keeps sound whole. whole)
          (λ keeps sound whole d. let new = new-is d in omega (arith, new))
          (λ keeps sound whole d used none. let new = new-is d in omega (arith, new, none))
          (subst (λ (x : Metadata). Progresses (HadNoResourceError {T = Unit} (Ok tt)) (both (both one two) three) (storage state c) m (state file.image) x) (sym resting-is) (all-progress given));
      empty = stores.rests.empty;
      room = stores.rests.room;
      header = header-then c.file.header c1.file.header file.header (header-counts c.file.header c1.file.header stores.rests.header)
          (subst (KeepsHeader c1.file.header) (sym header) (header-l1 c1.file.header (table_start table) (length table.raw_entries)));
      shape = shape-still;
      counts_not_fallen = later-still;
      faults = λ whole. faultless-then (stores.rests.faults tt)
          (put-faultless (storage state c1) (state file.image) 0 bytes answer names.put.put (subst (λ (r : Result Unit Fault). HadNoResourceError r) (sym done) tt));
      held = let more = stores.held in omega (arith, one-less, more);
      l1 = λ ready given whole. entered ready given;
      long = let more = le-max_right (length placed.raw_entries) (i + 1) in
          subst (λ (H : Header). i < H.fields.l1_entries) (sym header)
          (let all : length table.raw_entries ≡ n = ap length words-are ∙ padded-long placed.raw_entries n (le-max_left (length placed.raw_entries) (i + 1)) in omega (arith, more, all));
      raw_entries = words-are ∙ ap (λ (ws : List ℕ). padded ws (max (length ws) (i + 1))) places.same.raw_entries;
      waits = λ given. (c1.space.to_free.entries, ap (λ (l : List FreeEntry). c1.space.to_free.entries ++ l) (waits-is given));
      far = λ ready asked long. absurd (near long);
      leaves = λ ready given. (short-enough i near, leaves-there ready given);
      marked = λ given ready whole. marked-there ready given;
      cause = tt;
    }
