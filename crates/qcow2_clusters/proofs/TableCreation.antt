-- Making the L1 entry reference a new L2 table.
use Rattle.std.proofs.Common.{◌≡◌, ◌≢◌, ℕ, ◌+◌, ◌*◌, ◌^◌, ◌<◌, refl, arith, ap, sym, subst, ◌∙◌, inl, inr, length, List, Ok, Err, Result, true}
use Rattle.std.specs.Prelude.{◌⊎◌, IfErr, IsTrue, slice_set}
use Rattle.std.specs.Int.{w64, to_be_bytes}
use Rattle.imago_storage.specs.State.{StorageState, Shape}
use Rattle.imago_storage.specs.Calls.{Cause, IsFaultless, UnchangedButFaults, CountsNotFallen}
use Rattle.imago_storage.specs.Through.{WriteOutcome, AtomicWriteOutcome}
use Rattle.imago_storage.specs.declared.fault.Fault.{Fault}
use Rattle.imago_storage.specs.declared.fault.Fault.TheVariants.{DamagedTable, Memory}
use Rattle.imago_storage.proofs.Composing.{keeps_on, later_both, later_same, no_stops, one_stop, tells_on}
use Rattle.qcow2_types.specs.Bytes.{Bytes, bytes_of, splice, raw_entry}
use Rattle.qcow2_types.specs.Entries.{entry, l2_mapping, l2_table}
use Rattle.qcow2_types.specs.Header.{Fields, Header, cluster_size, layout_of, entries_of_cluster}
use Rattle.qcow2_types.specs.References.{meets, of_cluster}
use Rattle.qcow2_types.specs.Switched.{with_refcount_table}
use Rattle.qcow2_types.specs.Words.{is_copied, is_cluster_offset}
use Rattle.qcow2_types.proofs.Fields.HeaderLimits.{header-limited}
use Rattle.qcow2_metadata.specs.Places.{IsAddressable}
use Rattle.qcow2_metadata.specs.Tables.{TableValue, table_start}
use Rattle.qcow2_alloc.specs.declared.cache.MetadataCaches.{MetadataCaches}
use Rattle.qcow2_alloc.specs.Allocators.{first_free_of}
use Rattle.qcow2_alloc.specs.Caches.{HasRoomOf}
use Rattle.qcow2_alloc.specs.Crowding.{room_for, space}
use Rattle.qcow2_alloc.specs.Allocating.{MovedTable}
use Rattle.qcow2_alloc.specs.Causes.{HasCause}
use Rattle.qcow2_alloc.specs.Going.{HadNoResourceError}
use Rattle.qcow2_alloc.specs.Opening.{IsL1Of}
use Rattle.qcow2_alloc.specs.GuestView.{Metadata, IsIn, IsSound, counted, referenced_at_all, one_at}
use Rattle.qcow2_alloc.specs.Freeing.{NoneFreeBefore}
use Rattle.qcow2_alloc.proofs.Causes.{storage-cause}
use Rattle.qcow2_alloc.proofs.Flushing.FaultlessCalls.{faultless-then, put-faultless}
use Rattle.qcow2_alloc.proofs.GuestView.SingleRequests.{at-once-file, put-done}
use Rattle.qcow2_steps.specs.Advancing.{MayBeCrashImage}
use Rattle.qcow2_steps.specs.NewTables.{old_table, slot_or_none}
use Rattle.qcow2_clusters.specs.MakingTables.{EntersTable, HasEntriesOf, IsContent, NamesNewTable, PlacesTable, replacing}
use Rattle.qcow2_clusters.specs.Progress.{Kind, Progresses, both, handing}
use Rattle.qcow2_clusters.specs.Flushed.{AreEmpty, Clusters, IsReady, clusters_state, flushed_metadata, storage}
use Rattle.qcow2_clusters.specs.Room.{IsFull, LeavesRoom, first_free_in}
use Rattle.qcow2_clusters.specs.Storing.{Stores, handed_by, storing_causes}
use Rattle.qcow2_clusters.proofs.ProgressSums.{AdvancesBy, IsWider, LeftBy, progresses-halted, progresses-otherwise, progresses-then-given, progresses-weaker, wider-both, wider-handing}
use Rattle.qcow2_clusters.proofs.RoomAfterAllocations.{leaves-as, marked-as, storing-as}
use Rattle.qcow2_clusters.proofs.TableNames.{IsReplacement, bytes-mean, from-zero, l1-moved, l1-same, l1-table, naming_word, replaced-advances, replaced-copied, replaced-counts, replaced-entered, replaced-named, replaced-unnamed, resting-memory, slots-kept}

-- One request changes the file, and with it the image.
module _ (m : Metadata) (kind : Kind) (at : ℕ) (bytes : List ℕ) (some : 0 < length bytes) (old new : StorageState) (is_in : IsIn old m) (H' : Header)
    (advances : IsSound m → AdvancesBy kind m (record m { file = splice m.file at bytes; header = H' })) where
  once-answer : (result : Result Unit Fault) → AtomicWriteOutcome old new at bytes result
      → Progresses (result ≡ Ok tt) kind old m new (record m { file = bytes_of new.bytes; header = H' })
  once-answer (Ok done) put = record {
    shape = put.put.shape;
    counts_not_fallen = put.put.counts_not_fallen;
    passes = λ keeps sound no_change_refused. (
      put.put.answer.crash_image_is_bytes,
      one_stop (LeftBy kind m) old new (put.single_request some) (λ same tells keeps'. subst (LeftBy kind m)
          (sym (put.put.answer.crash_image_is_bytes same (tells_on old new put.put.shape tells) (keeps_on old new put.put.shape keeps')))
          (left keeps' sound)),
    );
    holds = λ keeps sound done. subst (λ (x : Bytes). AdvancesBy kind m (record m { file = x; header = H' })) (sym (is keeps)) (advances sound);
  }
    where
      is : IsTrue old.shape.keeps → bytes_of new.bytes ≡ splice m.file at bytes
      is keeps = at-once-file m at bytes old new is_in (Ok done) put keeps refl

      left : IsTrue old.shape.keeps → IsSound m → LeftBy kind m new.bytes
      left keeps sound = (H', subst (λ (x : Bytes). MayBeCrashImage kind.gives m x H') (sym (is keeps)) (advances sound).file)
  once-answer (Err fault) put = record {
    shape = put.put.shape;
    counts_not_fallen = put.put.counts_not_fallen;
    passes = λ keeps sound no_change_refused. (
      elim put.put.answer.crash_image_is_bytes [ inl rose ↦ absurd (no_change_refused rose) | inr stays ↦ stays ],
      no_stops (LeftBy kind m) old new put.single_request.0 put.single_request.1,
    );
    holds = λ keeps sound done. absurd (cc done);
  }

  pub once-progresses : (result : Result Unit Fault) → AtomicWriteOutcome old new at bytes result
      → Progresses (result ≡ Ok tt) kind old m new (record m { file = bytes_of new.bytes; header = H' })
  once-progresses = once-answer

-- The L1 table of a consistent image has a valid offset.
pub l1-placed : (m : Metadata) → IsSound m → IsTrue (is_cluster_offset m.header.fields.cluster_bits m.header.fields.l1_offset)
l1-placed m sound = (header-limited true m.file m.header sound.well_formed.consistent.readable.loads).l1_place

pub if-refused : (result : Result ℕ Fault) (P Q : Fault → Type 0) → ((fault : Fault) → P fault → Q fault) → IfErr result P → IfErr result Q
if-refused (Ok t) P Q from why = tt
if-refused (Err fault) P Q from why = from fault why

-- Only reads were made, and nothing has changed in memory.
pub record IsKept {S : Type 0} (state : S → StorageState) (c c' : Clusters S) : Type 0 where
  pub kept : UnchangedButFaults (storage state c) (storage state c')
  pub counts_not_fallen : CountsNotFallen (storage state c) (storage state c')
  pub header : c'.file.header ≡ c.file.header
  pub caches : c'.caches ≡ c.caches

pub kept-itself : {S : Type 0} (state : S → StorageState) (c : Clusters S) → IsKept state c c
kept-itself state c = record {
  kept = record { shape = refl; bytes = refl; refusals = refl; crash_image = refl; past_crash_images = refl };
  counts_not_fallen = later_same (storage state c);
  header = refl;
  caches = refl;
}

-- The call fails with a resource error before its first change, or the image isn't as `asked`.
pub not-begun : {S : Type 0} (state : S → StorageState) (asked : Type 0) (kind : Kind) (i : ℕ) (c : Clusters S) (fault : Fault)
    (top' : TableValue) (c' : Clusters S) → AreEmpty c.caches → IsKept state c c'
    → (IsReady state c → asked → HadNoResourceError {T = ℕ} (Err fault) → ⊥)
    → (HadNoResourceError {T = ℕ} (Err fault) → IsFaultless (storage state c) (storage state c'))
    → HasCause (storing_causes (IsReady state c × asked) (IsFull 1 (flushed_metadata state c) (first_free_in c) (flushed_metadata state c') (first_free_in c'))
    (storage state c).faults (storage state c').faults) fault
    → NamesNewTable state asked kind i c (Err fault) top' c'
not-begun {S} state asked kind i c fault top' c' empty is never faultless why = record {
  progress = λ asks. record {
    shape = is.kept.shape;
    counts_not_fallen = is.counts_not_fallen;
    passes = λ keeps sound no_change_refused. (
      λ same tells keeps'. is.kept.crash_image
          ∙ same (subst (λ (s : Shape). IsTrue s.tells) is.kept.shape tells) (subst (λ (s : Shape). IsTrue s.keeps) is.kept.shape keeps')
          ∙ sym is.kept.bytes,
      no_stops (LeftBy kind (flushed_metadata state c)) (storage state c) (storage state c') is.kept.crash_image is.kept.past_crash_images,
    );
    holds = λ keeps sound whole. absurd (never record { keeps = keeps; sound = sound } asks whole);
  };
  rests = record {
    empty = subst (λ (caches : MetadataCaches S). AreEmpty caches) (sym is.caches) empty;
    room = subst (λ (caches : MetadataCaches S). HasRoomOf c.caches caches) (sym is.caches) record { tables = refl; blocks = refl };
    header = (c.file.header.fields.refcount_table_offset, c.file.header.fields.refcount_table_clusters, is.header);
    shape = is.kept.shape;
    counts_not_fallen = is.counts_not_fallen;
    faults = faultless;
  };
  l1 = λ ready asks whole. absurd (never ready asks whole);
  table_linked = λ ready asks. tt;
  copied = λ ready asks. tt;
  leaves = λ ready asks. tt;
  marked = λ asks ready whole. absurd (never ready asks whole);
  cause = why;
}

-- The condition can be strengthened, and the kind widened.
pub narrowed : {S : Type 0} (state : S → StorageState) (asked asked' : Type 0) (kind kind' : Kind) (i : ℕ) (c : Clusters S)
    (result : Result ℕ Fault) (top' : TableValue) (c' : Clusters S) → (asked' → asked) → IsWider kind kind'
    → (asked' → (d : ℕ) → kind.excess_added d + kind'.taken d ≡ kind'.excess_added d + kind.taken d)
    → (asked' → (d : ℕ) → kind'.taken d ≡ 0 → kind.taken d ≡ 0)
    → NamesNewTable state asked kind i c result top' c' → NamesNewTable state asked' kind' i c result top' c'
narrowed state asked asked' kind kind' i c result top' c' from wider same spared named = record {
  progress = λ asks. progresses-otherwise (HadNoResourceError result) (HadNoResourceError result) kind kind' (storage state c) (flushed_metadata state c)
      (storage state c') (flushed_metadata state c') wider (λ keeps sound whole. whole) (λ keeps sound whole. same asks)
      (λ keeps sound whole d used none. spared asks d none) (named.progress (from asks));
  rests = named.rests;
  l1 = λ ready asks. named.l1 ready (from asks);
  table_linked = λ ready asks. named.table_linked ready (from asks);
  copied = λ ready asks. named.copied ready (from asks);
  leaves = λ ready asks. named.leaves ready (from asks);
  marked = λ asks. named.marked (from asks);
  cause = if-refused result _ _ (λ fault. storing-as _ _ _ _ (λ both. (both.0, from both.1)) fault (λ number at is told. told)) named.cause;
}

-- The number of reserved slots doesn't matter to the image.
abbrev pub with_held : {S : Type 0} → Clusters S → ℕ → Clusters S
with_held c n =
    clusters_state c.file c.caches (record { allocator = c.space.allocator; to_free = record { entries = c.space.to_free.entries; held = n } })

pub held-aside : {S : Type 0} (state : S → StorageState) (asked : Type 0) (kind : Kind) (i : ℕ) (c : Clusters S) (result : Result ℕ Fault)
    (top' : TableValue) (c' : Clusters S) (n : ℕ) → NamesNewTable state asked kind i c result top' c'
    → NamesNewTable state asked kind i c result top' (with_held c' n)
held-aside state asked kind i c result top' c' n named = record {
  progress = named.progress;
  rests = record {
    empty = named.rests.empty;
    room = named.rests.room;
    header = named.rests.header;
    shape = named.rests.shape;
    counts_not_fallen = named.rests.counts_not_fallen;
    faults = named.rests.faults;
  };
  l1 = named.l1;
  table_linked = named.table_linked;
  copied = named.copied;
  leaves = named.leaves;
  marked = named.marked;
  cause = named.cause;
}

-- The call doesn't begin: memory ran out, or the L1 table's offset isn't valid.
abbrev pub WhyNotBegun : Fields → TableValue → Fault → Type 0
WhyNotBegun h l1 fault = (fault ≡ Memory)
    ⊎ ((fault ≡ DamagedTable) × (l1.layout ≡ layout_of h → IsTrue (is_cluster_offset h.cluster_bits h.l1_offset) → ⊥))

module _ {S : Type 0} (state : S → StorageState) (content : List ℕ) (l1 : TableValue) (i : ℕ) (c : Clusters S) where
  abbrev Asked : Type 0
  Asked = IsContent state content l1 i c

  never-begun : (fault : Fault) → WhyNotBegun c.file.header.fields l1 fault → IsReady state c → Asked → HadNoResourceError {T = ℕ} (Err fault) → ⊥
  never-begun fault (inl memory) ready asked whole = subst (λ (x : Fault). HadNoResourceError {T = ℕ} (Err x)) memory whole
  never-begun fault (inr damaged) ready asked whole = damaged.1 asked.top_word.l1.layout (l1-placed (flushed_metadata state c) ready.sound)

  why-not-begun : (full : ℕ → Type 0) (fault : Fault) (before after : ℕ) → WhyNotBegun c.file.header.fields l1 fault
      → HasCause (storing_causes (IsReady state c × Asked) full before after) fault
  why-not-begun full fault before after (inl memory) = subst (HasCause (storing_causes (IsReady state c × Asked) full before after)) (sym memory) tt
  why-not-begun full fault before after (inr damaged) =
      subst (HasCause (storing_causes (IsReady state c × Asked) full before after)) (sym damaged.0)
      (λ both. damaged.1 both.1.top_word.l1.layout (l1-placed (flushed_metadata state c) both.0.sound))

  pub not-placed : (fault : Fault) (l1' : TableValue) → AreEmpty c.caches → WhyNotBegun c.file.header.fields l1 fault
      → PlacesTable state content l1 i c (Err fault) l1' c
  not-placed fault l1' empty why = record {
    named = not-begun state Asked (replacing (flushed_metadata state c) i (Err fault)) i c fault l1' c empty (kept-itself state c)
        (never-begun fault why) (λ whole. (refl, refl))
        (why-not-begun (IsFull 1 (flushed_metadata state c) (first_free_in c) (flushed_metadata state c) (first_free_in c)) fault (storage state c).faults (storage state c).faults why);
    held = refl;
    raw_entries = tt;
    old = λ ready asked. tt;
  }

  -- Nothing is stored.
  pub not-stored : (fault : Fault) (l1' : TableValue) (c1 : Clusters S) → HasEntriesOf l1 l1'
      → Stores state content c (Err fault) c1 → PlacesTable state content l1 i c (Err fault) l1' c1
  not-stored fault l1' c1 same stores = record {
    named = record {
      progress = λ asked. progresses-weaker (HadNoResourceError {T = ℕ} (Err fault)) (HadNoResourceError {T = ℕ} (Err fault))
          (handing (handed_by (Err fault)) (λ _. 0)) (replacing (flushed_metadata state c) i (Err fault))
          (storage state c) (flushed_metadata state c) (storage state c1) (flushed_metadata state c1)
          (wider-handing (handed_by (Err fault)) (λ _. 0) (replacing (flushed_metadata state c) i (Err fault))) (λ whole. whole)
          (λ d. refl) (λ d. refl) stores.progress;
      rests = stores.rests;
      l1 = λ ready asked whole.
          l1-same (flushed_metadata state c1).file c.file.header.fields l1 l1' same.layout same.raw_entries
          (l1-moved (flushed_metadata state c1).file c.file.header c1.file.header stores.rests.header.0 stores.rests.header.1 l1
          stores.rests.header.2 (stores.l1 ready whole l1 asked.top_word.l1));
      table_linked = λ ready asked. tt;
      copied = λ ready asked. tt;
      leaves = λ ready asked. tt;
      marked = λ asked. stores.marked;
      cause = storing-as _ _ _ _ (λ both. both.0) fault (λ number at is told. told) stores.cause;
    };
    held = stores.held;
    raw_entries = tt;
    old = λ ready asked. tt;
  }

-- The entry is written, and nothing else has changed in memory except the reserved slots.
pub record IsWritten {S : Type 0} (c1 c2 : Clusters S) : Type 0 where
  pub header : c2.file.header ≡ c1.file.header
  pub caches : c2.caches ≡ c1.caches
  pub allocator : c2.space.allocator ≡ c1.space.allocator
  pub entries : c2.space.to_free.entries ≡ c1.space.to_free.entries

-- The content is stored, and the entry is set in memory.
module _ {S : Type 0} (state : S → StorageState) (content : List ℕ) (l1 : TableValue) (i : ℕ) (c : Clusters S) (t : ℕ) (c1 : Clusters S)
    (full : length content ≡ cluster_size c.file.header.fields) (stores : Stores state content c (Ok t) c1)
    (placed l1' table : TableValue) (answer : Result Unit Fault) (c2 : Clusters S) (same : HasEntriesOf l1 placed)
    (place : table_start placed ≡ c.file.header.fields.l1_offset)
    (first : table_start table ≡ t * cluster_size c.file.header.fields) (left : IsWritten c1 c2)
    (enters : EntersTable state i table placed c1.file answer l1' c2.file) where
  abbrev h : Fields
  h = c.file.header.fields

  abbrev h1 : Fields
  h1 = c1.file.header.fields

  abbrev m : Metadata
  m = flushed_metadata state c

  abbrev m1 : Metadata
  m1 = flushed_metadata state c1

  abbrev Given : Type 0
  Given = IsContent state content l1 i c

  moved : c1.file.header ≡ with_refcount_table c.file.header stores.rests.header.0 stores.rests.header.1
  moved = stores.rests.header.2

  size-same : cluster_size h1 ≡ cluster_size h
  size-same = ap (λ (H : Header). cluster_size H.fields) moved

  -- The offset of the entry.
  abbrev at : ℕ
  at = c1.file.header.fields.l1_offset + 8 * i

  abbrev bytes : List ℕ
  bytes = to_be_bytes w64 (naming_word c1.file.header.fields t)

  word-is : 2 ^ 63 + table_start table ≡ naming_word h1 t
  word-is = ap (λ n. 2 ^ 63 + n) first ∙ ap (λ n. 2 ^ 63 + t * n) (sym size-same)

  at-is : table_start placed + 8 * i ≡ at
  at-is = ap (λ n. n + 8 * i) (place ∙ sym (ap (λ (H : Header). H.fields.l1_offset) moved))

  put : AtomicWriteOutcome (storage state c1) (storage state c2) at bytes answer
  put = subst (λ p. AtomicWriteOutcome (storage state c1) (storage state c2) p bytes answer) at-is
      (subst (λ w. AtomicWriteOutcome (storage state c1) (storage state c2) (table_start placed + 8 * i) (to_be_bytes w64 w) answer) word-is
      enters.put)

  abbrev m2 : Metadata
  m2 = record (flushed_metadata state c1) { file = bytes_of (storage state c2).bytes }

  resting-is : flushed_metadata state c2 ≡ m2
  resting-is = cc left.header

  -- The L1 table and its L2 tables are unchanged until then, with the same meanings.
  module _ (ready : IsReady state c) (given : Given) where
    of : IsL1Of m1.file h1 l1
    of = stores.l1 ready tt l1 given.top_word.l1

    inside-still : i < h1.l1_entries
    inside-still = subst (λ (H : Header). i < H.fields.l1_entries) (sym moved) given.top_word.inside

    table-still : l2_table m1.file h1 i ≡ l2_table m.file h i
    table-still = l1-table m1.file h1 l1 of i inside-still ∙ sym (l1-table m.file h l1 given.top_word.l1 i given.top_word.inside)

    old-still : (d : ℕ) → old_table m1 i d ≡ old_table m i d
    old-still d = ap (of_cluster h1 (meets h1 d)) table-still
        ∙ ap (λ (H : Header). of_cluster H.fields (meets H.fields d) (l2_table m.file h i)) moved

    advanced : AdvancesBy (handing (handed_by (Ok t)) (λ _. 0)) m m1
    advanced = stores.progress.holds ready.keeps ready.sound tt

    entries-still : (guest : ℕ) → entry m1.file h1 guest ≡ entry m.file h guest
    entries-still guest = elim (advanced.raw_entries guest) [
      | inl e ↦
          ap (λ (x : Bytes). entry x h1 guest) (sym (resting-memory m1 refl)) ∙ e
          ∙ ap (λ (x : Bytes). entry x h guest) (resting-memory m refl)
      | inr none ↦ absurd none
    ]

    long-same : entries_of_cluster h1 ≡ entries_of_cluster h
    long-same = ap (λ (H : Header). entries_of_cluster H.fields) moved

    stored-still : (k : ℕ) → k < cluster_size h1 → m1.file (t * cluster_size h1 + k) ≡ bytes_of content (0 + k)
    stored-still k within =
        ap (λ n. m1.file (t * n + k)) size-same ∙ stores.stored ready k (omega (arith, full, within, size-same)) ∙ sym (from-zero content k)

    words-still : (j : ℕ) → j < entries_of_cluster h1 → l2_mapping m1.file h1 (t * cluster_size h1) j ≡ slot_or_none m1.file h1 i j
    words-still j less =
        bytes-mean m1.file (bytes_of content) h1 (t * cluster_size h1) 0 stored-still j less
        ∙ ap (λ (H : Header). l2_mapping (bytes_of content) H.fields 0 j) moved
        ∙ given.raw_entries j (subst (λ n. j < n) long-same less)
        ∙ sym (slots-kept m.file m1.file h h1 i ready.sound.well_formed.consistent.readable.tables advanced.sound.well_formed.consistent.readable.tables
        long-same entries-still j less)

    -- So the reserved cluster can replace the table.
    replacement : IsReplacement m1 i t
    replacement = record {
      rest = refl;
      inside = inside-still;
      some = stores.named.0;
      reach = subst (λ (H : Header). IsAddressable H.fields.cluster_bits t) (sym moved) stores.named.1;
      reserved = stores.reserved ready;
      raw_entries = words-still;
    }

  abbrev one : Kind
  one = handing (handed_by (Ok t)) (λ _. 0)

  abbrev two : Kind
  two = handing (old_table m1 i) (one_at t)

  wider : (kind : Kind) → IsWider (both one two) kind
  wider kind = wider-both one two kind (wider-handing (handed_by (Ok t)) (λ _. 0) kind) (wider-handing (old_table m1 i) (one_at t) kind)

  abbrev Done : Metadata → Type 0
  Done m' = Progresses (answer ≡ Ok tt) (both one two) (storage state c) (flushed_metadata state c) (storage state c2) m'

  progress : Given → Done (flushed_metadata state c2)
  progress given = subst Done (sym resting-is)
      (progresses-then-given (answer ≡ Ok tt) (HadNoResourceError {T = ℕ} (Ok t)) one two (storage state c) (flushed_metadata state c)
      (storage state c1) m1 (storage state c2) m2 tt stores.progress put.put.shape put.put.counts_not_fallen
      (λ keeps sound step. once-progresses m1 two at bytes (omega arith) (storage state c1) (storage state c2) refl m1.header
      (λ sound1. replaced-advances m1 i t sound1 (replacement record { keeps = keeps; sound = sound } given)) answer put))

  -- The entry is linked in the file and in memory.
  module _ (done : answer ≡ Ok tt) (ready : IsReady state c) (given : Given) where
    sound1 : IsSound m1
    sound1 = (stores.progress.holds ready.keeps ready.sound tt).sound

    file-is : (flushed_metadata state c2).file ≡ splice m1.file at bytes
    file-is = at-once-file m1 at bytes (storage state c1) (storage state c2) refl answer put
        (keeps_on (storage state c) (storage state c1) stores.progress.shape ready.keeps) done

    entered : IsL1Of (flushed_metadata state c2).file h l1'
    entered =
        let of1 = l1-same m1.file h1 l1 placed same.layout same.raw_entries (of ready given) in
        let raw_entries = enters.raw_entries ∙ ap (slice_set placed.raw_entries i) word-is in
        let is = replaced-entered m1 i t sound1 (replacement ready given) placed l1' of1 enters.layout raw_entries in
        l1-moved (flushed_metadata state c2).file c.file.header c1.file.header stores.rests.header.0 stores.rests.header.1 l1' moved
        (subst (λ (x : Bytes). IsL1Of x h1 l1') (sym file-is) is)

    named : l2_table (flushed_metadata state c2).file h i ≡ t * cluster_size h
    named =
        let is = replaced-named m1 i t sound1 (replacement ready given) in
        subst (λ (H : Header). l2_table (flushed_metadata state c2).file H.fields i ≡ t * cluster_size H.fields) moved
        (subst (λ (x : Bytes). l2_table x h1 i ≡ t * cluster_size h1) (sym file-is) is)

    marked : is_copied (raw_entry (flushed_metadata state c2).file h.l1_offset i) ≡ true
    marked =
        let is = replaced-copied m1 i t sound1 (replacement ready given) in
        subst (λ (H : Header). is_copied (raw_entry (flushed_metadata state c2).file H.fields.l1_offset i) ≡ true) moved
        (subst (λ (x : Bytes). is_copied (raw_entry x h1.l1_offset i) ≡ true) (sym file-is) is)

    not_referenced : (d : ℕ) → d ≢ 0 → l2_table m.file h i ≡ d * cluster_size h → referenced_at_all (flushed_metadata state c2) d ≡ 0
    not_referenced d some at-d =
        let there : l2_table m1.file h1 i ≡ d * cluster_size h1 = table-still ready given ∙ at-d ∙ ap (λ n. d * n) (sym size-same) in
        let is = replaced-unnamed m1 i t sound1 (replacement ready given) d some there in
        subst (λ (x : Metadata). referenced_at_all x d ≡ 0) (sym resting-is)
        (subst (λ (x : Bytes). referenced_at_all (record m1 { file = x }) d ≡ 0) (sym file-is) is)

    -- The refcounts are the same as before.
    counts-still : (d : ℕ) → counted (flushed_metadata state c2) d ≡ counted m1 d
    counts-still d =
        let is = replaced-counts m1 i t sound1 (replacement ready given) d in
        subst (λ (x : Metadata). counted x d ≡ counted m1 d) (sym resting-is)
        (subst (λ (x : Bytes). counted (record m1 { file = x }) d ≡ counted m1 d) (sym file-is) is)

    leaves-there : LeavesRoom (room_for h 1) m (first_free_in c) (flushed_metadata state c2) (first_free_in c2)
    leaves-there = subst (λ k. LeavesRoom (room_for h 1) m (first_free_in c) (flushed_metadata state c2) k) (sym (ap first_free_of left.allocator))
        (leaves-as (room_for h 1) m m m1 (flushed_metadata state c2) (first_free_in c) (first_free_in c1) refl (λ d. refl)
        (ap (λ (H : Header). space H.fields) left.header) counts-still (stores.leaves ready))

    marked-there : NoneFreeBefore m (first_free_in c) → NoneFreeBefore (flushed_metadata state c2) (first_free_in c2)
    marked-there marked = subst (NoneFreeBefore (flushed_metadata state c2)) (sym (ap first_free_of left.allocator))
        (marked-as m1 (flushed_metadata state c2) (first_free_in c1) counts-still (stores.marked ready tt marked))

  empty-still : AreEmpty c2.caches
  empty-still = subst (λ (caches : MetadataCaches S). AreEmpty caches) (sym left.caches) stores.rests.empty

  room-still : HasRoomOf c.caches c2.caches
  room-still = subst (λ (caches : MetadataCaches S). HasRoomOf c.caches caches) (sym left.caches) stores.rests.room

  moved-still : MovedTable c.file.header c2.file.header
  moved-still = subst (λ (H : Header). MovedTable c.file.header H) (sym left.header) stores.rests.header

  shape-still : (storage state c2).shape ≡ (storage state c).shape
  shape-still = put.put.shape ∙ stores.rests.shape

  later-still : CountsNotFallen (storage state c) (storage state c2)
  later-still = later_both (storage state c) (storage state c1) (storage state c2) stores.rests.counts_not_fallen put.put.counts_not_fallen

  pub entered-so : answer ≡ Ok tt → c2.space.to_free.held ≡ c1.space.to_free.held → PlacesTable state content l1 i c (Ok t) l1' c2
  entered-so done held = record {
    named = record {
      progress = λ given. progresses-otherwise (answer ≡ Ok tt) (HadNoResourceError {T = ℕ} (Ok t)) (both one two) (replacing m i (Ok t))
          (storage state c) (flushed_metadata state c) (storage state c2) (flushed_metadata state c2)
          (wider (replacing m i (Ok t))) (λ keeps sound whole. done)
          (λ keeps sound whole d. let same = old-still record { keeps = keeps; sound = sound } given d in omega (arith, same))
          (λ keeps sound whole d used none. omega (arith, none)) (progress given);
      rests = record {
        empty = empty-still;
        room = room-still;
        header = moved-still;
        shape = shape-still;
        counts_not_fallen = later-still;
        faults = λ whole. faultless-then (stores.rests.faults tt)
            (put-faultless (storage state c1) (storage state c2) at bytes answer put.put
            (subst (λ (r : Result Unit Fault). HadNoResourceError r) (sym done) tt));
      };
      l1 = λ ready given whole. entered done ready given;
      table_linked = λ ready given. (stores.named.0, named done ready given);
      copied = λ ready given. marked done ready given;
      leaves = leaves-there done;
      marked = λ given ready whole. marked-there done ready given;
      cause = tt;
    };
    held = held ∙ stores.held;
    raw_entries = enters.raw_entries ∙ ap (λ (ws : List ℕ). slice_set ws i (2 ^ 63 + table_start table)) same.raw_entries
        ∙ ap (λ n. slice_set l1.raw_entries i (2 ^ 63 + n)) first;
    old = λ ready given. not_referenced done ready given;
  }

  -- The write fails with a resource error.
  pub not-entered : (fault : Fault) → answer ≡ Err fault → c2.space.to_free.held ≡ c.space.to_free.held
      → PlacesTable state content l1 i c (Err fault) l1' c2
  not-entered fault refused held = record {
    named = record {
      progress = λ given. progresses-halted (answer ≡ Ok tt) (HadNoResourceError {T = ℕ} (Err fault)) (both one two) (replacing m i (Err fault))
          (storage state c) (flushed_metadata state c) (storage state c2) (flushed_metadata state c2) (flushed_metadata state c2)
          (wider (replacing m i (Err fault))) (λ keeps sound whole. never whole) (progress given);
      rests = record {
        empty = empty-still;
        room = room-still;
        header = moved-still;
        shape = shape-still;
        counts_not_fallen = later-still;
        faults = λ whole. absurd (never whole);
      };
      l1 = λ ready given whole. absurd (never whole);
      table_linked = λ ready given. tt;
      copied = λ ready given. tt;
      leaves = λ ready given. tt;
      marked = λ given ready whole. absurd (never whole);
      cause = let same = (stores.rests.faults tt).0 in storage-cause _ _ _ (omega (arith, same)) (omega arith) fault (cause-of answer put refused);
    };
    held = held;
    raw_entries = tt;
    old = λ ready given. tt;
  }
    where
      never : HadNoResourceError {T = ℕ} (Err fault) → ⊥
      never whole =
          let same = subst (λ (r : Result Unit Fault). HadNoResourceError r) (sym refused) whole in
          let is = put-done (storage state c1) (storage state c2) at bytes answer put.put same in
          absurd (cc (sym refused ∙ is))

      cause-of : (r : Result Unit Fault) → AtomicWriteOutcome (storage state c1) (storage state c2) at bytes r → r ≡ Err fault
          → Cause (storage state c1).faults (storage state c2).faults fault
      cause-of r done is =
          (subst (λ (r : Result Unit Fault). WriteOutcome (storage state c1) (storage state c2) at bytes r) is done.put).answer.cause
