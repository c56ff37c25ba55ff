-- An L2 table is copied, or an empty one is made.
use Rattle.std.proofs.Common.{◌≡◌, ◌≢◌, ℕ, ◌+◌, ◌*◌, ◌<◌, refl, arith, ap, sym, subst, ◌∙◌, inl, inr, List, [], ◌∷◌, ◌++◌, Ok, Err, Option, Result, Some, None, true}
use Rattle.std.specs.Prelude.{◌^◌, ◌==◌, ◌&&◌, if◌then◌else◌, IfErr, IfOk, IsTrue, OnOk, replicate, slice_index, slice_set}
use Rattle.std.proofs.lemmas.Bool.{and_parts, cases_eq, ne_eqb}
use Rattle.std.proofs.lemmas.Bool.Decides.{nat_tests}
use Rattle.std.proofs.lemmas.List.{get_or-replicate}
use Rattle.std.proofs.lemmas.Nat.{pow_pos}
use Rattle.imago_storage.specs.State.{StorageState}
use Rattle.imago_storage.specs.Calls.{Cause, IsFaultless, CountsNotFallen}
use Rattle.imago_storage.specs.declared.fault.Fault.{Fault}
use Rattle.imago_storage.specs.declared.fault.Fault.TheVariants.{DamagedTable, Memory, Storage}
use Rattle.imago_storage.proofs.Composing.{later_same}
use Rattle.qcow2_types.specs.Bytes.{Bytes, bytes_of, raw_entry}
use Rattle.qcow2_types.specs.Entries.{l1_table_sound, l2_mapping, l2_table}
use Rattle.qcow2_types.specs.Header.{Fields, Header, cluster_size}
use Rattle.qcow2_types.specs.References.{meets, of_cluster}
use Rattle.qcow2_types.specs.Pending.{FreeEntry}
use Rattle.qcow2_types.specs.Words.{bits_at, is_copied, is_cluster_offset, l1_entry_valid, table_offset}
use Rattle.qcow2_types.proofs.Counting.Bounded.{all-below}
use Rattle.qcow2_metadata.specs.Tables.{TableValue}
use Rattle.qcow2_alloc.specs.Allocating.{MovedTable}
use Rattle.qcow2_alloc.specs.Allocators.{table_of}
use Rattle.qcow2_alloc.specs.Causes.{HasCause}
use Rattle.qcow2_alloc.specs.Crowding.{room_for}
use Rattle.qcow2_alloc.specs.FreeList.{FreeList, covers}
use Rattle.qcow2_alloc.specs.Going.{HadNoResourceError}
use Rattle.qcow2_alloc.specs.Opening.{IsL1Of}
use Rattle.qcow2_alloc.specs.GuestView.{Metadata, IsSound, referenced_at_all}
use Rattle.qcow2_alloc.specs.declared.cache.CacheDependency.TheVariants.{Unset}
use Rattle.qcow2_alloc.specs.declared.file.ImageFile.{ImageFile}
use Rattle.qcow2_alloc.specs.Freeing.{NoneFreeBefore}
use Rattle.qcow2_alloc.proofs.Causes.{storage-cause}
use Rattle.qcow2_alloc.proofs.Freeing.ClusterOccurrences.{covers-one}
use Rattle.qcow2_alloc.proofs.Memory.Patches.{place-there}
use Rattle.qcow2_steps.specs.NewTables.{old_table}
use Rattle.qcow2_steps.proofs.TableCopySteps.{none-there, slot-there}
use Rattle.qcow2_steps.proofs.Steps.{meets-one, put-off-advances}
use Rattle.qcow2_clusters.specs.MakingTables.{CopiesTable, FindsTable, HasTable, IsClusterOf, IsContent, IsTableless, IsTopRawEntry, MakesTable, NamesNewTable, PlacesTable, copying, replaced_table, making, replacing, table_entry}
use Rattle.qcow2_clusters.specs.Progress.{Kind, Progresses, both, handing}
use Rattle.qcow2_clusters.specs.Flushed.{AreEmpty, Clusters, IsReady, clusters_state, nothing_cached, flushed_metadata, storage}
use Rattle.qcow2_clusters.specs.Room.{IsFull, LeavesRoom, first_free_in}
use Rattle.qcow2_clusters.specs.Storing.{handed_by, storing_causes}
use Rattle.qcow2_clusters.proofs.ProgressSums.{AdvancesBy, IsWider, progresses-in-memory, progresses-otherwise, progresses-then-given, wider-both, wider-handing}
use Rattle.qcow2_clusters.proofs.RoomAfterAllocations.{leaves-as, storing-as}
use Rattle.qcow2_clusters.proofs.TableCreation.{IsKept, held-aside, if-refused, kept-itself, narrowed, not-begun, with_held}
use Rattle.qcow2_clusters.proofs.TableNames.{bytes-mean, from-zero, l1-table, l1-word, zeroes-map}

pub none-found : (found : Option ℕ) → ((t : ℕ) → found ≡ Some t → ⊥) → found ≡ None
none-found None none = refl
none-found (Some t) none = absurd (none t refl)

-- The fault of a failed read is a resource error.
cut-off : (before after : ℕ) (fault : Fault) → Cause before after fault → HadNoResourceError {T = ℕ} (Err fault) → ⊥
cut-off before after Memory why whole = whole
cut-off before after Storage why whole = whole
cut-off before after fault why whole = absurd why

-- The L1 entry references no table, so a table of zeroes has the same meanings.
module _ {S : Type 0} (state : S → StorageState) (l1 : TableValue) (i : ℕ) (c : Clusters S) where
  abbrev h : Fields
  h = c.file.header.fields

  blank-content : IsTableless state l1 i c → IsContent state (replicate (cluster_size h) 0) l1 i c
  blank-content is = record {
    top_word = is.top_word;
    raw_entries = λ j less.
        zeroes-map (bytes_of (replicate (cluster_size h) 0)) h 0 (λ k within. from-zero (replicate (cluster_size h) 0) k
        ∙ get_or-replicate (cluster_size h) k 0 0 within) j less
        ∙ sym (none-there (flushed_metadata state c).file h i j is.none);
  }

  nothing-given-up : IsTableless state l1 i c → (result : Result ℕ Fault) (d : ℕ) → replaced_table (flushed_metadata state c) i result d ≡ 0
  nothing-given-up is (Ok t) d = rw is.none refl
  nothing-given-up is (Err fault) d = refl

  made-so : (result : Result ℕ Fault) (l1' : TableValue) (c' : Clusters S)
      → NamesNewTable state (IsContent state (replicate (cluster_size h) 0) l1 i c) (replacing (flushed_metadata state c) i result) i c result l1' c'
      → NamesNewTable state (IsTableless state l1 i c) (making result) i c result l1' c'
  made-so result l1' c' = narrowed state (IsContent state (replicate (cluster_size h) 0) l1 i c) (IsTableless state l1 i c)
      (replacing (flushed_metadata state c) i result) (making result) i c result l1' c' blank-content
      (wider-handing (λ d. handed_by result d + replaced_table (flushed_metadata state c) i result d) (handed_by result) (making result))
      (λ is d. let none = nothing-given-up is result d in omega (arith, none))
      (λ is d none. omega (arith, none))

  pub not-made : (fault : Fault) (l1' : TableValue) (c' : Clusters S)
      → PlacesTable state (replicate (cluster_size h) 0) l1 i c (Err fault) l1' c' → MakesTable state l1 i c (Err fault) l1' c'
  not-made fault l1' c' places = record { named = made-so (Err fault) l1' c' places.named; held = places.held }

  pub made : (t : ℕ) (l1' : TableValue) (c' : Clusters S) (n : ℕ) → n + 1 ≡ c'.space.to_free.held
      → PlacesTable state (replicate (cluster_size h) 0) l1 i c (Ok t) l1' c' → MakesTable state l1 i c (Ok t) l1' (with_held c' n)
  made t l1' c' n one places = record {
    named = held-aside state (IsTableless state l1 i c) (making (Ok t)) i c (Ok t) l1' c' n (made-so (Ok t) l1' c' places.named);
    held = let more = places.held in omega (arith, one, more);
  }

  -- Memory runs out before the call begins.
  pub not-filled : AreEmpty c.caches → MakesTable state l1 i c (Err Memory) l1 c
  not-filled empty = record {
    named = not-begun state (IsTableless state l1 i c) (making (Err Memory)) i c Memory l1 c empty (kept-itself state c)
        (λ ready is whole. whole) (λ whole. absurd whole) tt;
    held = refl;
  }

  -- The L1 entry of the file has a valid offset.
  placed : IsTopRawEntry state l1 i c → IsTrue (is_cluster_offset h.cluster_bits (table_offset (slice_index l1.raw_entries i)))
  unfolding l1_table_sound
  placed is =
      let f : Bytes = (flushed_metadata state c).file in
      let w : ℕ = raw_entry (flushed_metadata state c).file h.l1_offset i in
      let here : l1_entry_valid h.cluster_bits w ≡ true =
      all-below h.l1_entries (λ k. l1_entry_valid h.cluster_bits (raw_entry f h.l1_offset k)) is.l1.sound i is.inside in
      let parts = and_parts ((bits_at w 0 9 == 0) && (bits_at w 56 7 == 0)) (is_cluster_offset h.cluster_bits (table_offset w)) here in
      subst (λ (x : ℕ). IsTrue (is_cluster_offset h.cluster_bits (table_offset x))) (sym (l1-word f h l1 is.l1 i is.inside)) parts.1

  -- The L1 entry references no table with a valid offset.
  pub not-found : AreEmpty c.caches → FindsTable h.cluster_bits (slice_index l1.raw_entries i) None
      → CopiesTable state l1 i c (Err DamagedTable) l1 c
  not-found empty none = record {
    named = not-begun state (HasTable state l1 i c) (copying (flushed_metadata state c) i (Err DamagedTable)) i c DamagedTable l1 c empty
        (kept-itself state c) (λ ready is whole. never is) (λ whole. (refl, refl)) (λ both. never both.1);
    held = refl;
    raw_entries = tt;
    waits = λ is. tt;
  } where
    never : HasTable state l1 i c → ⊥
    never is = none
        (λ zero. is.table_exists (l1-table (flushed_metadata state c).file h l1 is.top_word.l1 i is.top_word.inside ∙ zero)) (placed is.top_word)

  -- The table can't be read.
  pub not-read : (fault : Fault) (c' : Clusters S) → AreEmpty c.caches → IsKept state c c'
      → c'.space.to_free.held ≡ c.space.to_free.held → Cause (storage state c).faults (storage state c').faults fault
      → CopiesTable state l1 i c (Err fault) l1 c'
  not-read fault c' empty kept held why = record {
    named = not-begun state (HasTable state l1 i c) (copying (flushed_metadata state c) i (Err fault)) i c fault l1 c' empty kept
        (λ ready is whole. cut-off (storage state c).faults (storage state c').faults fault why whole)
        (λ whole. absurd (cut-off (storage state c).faults (storage state c').faults fault why whole))
        (storage-cause _ _ _ (omega arith) (omega arith) fault why);
    held = held;
    raw_entries = tt;
    waits = λ is. tt;
  }

-- The table in cluster `old` is copied.
module _ {S : Type 0} (state : S → StorageState) (l1 : TableValue) (i : ℕ) (c : Clusters S) (old : ℕ) (content : List ℕ)
    (finds : FindsTable c.file.header.fields.cluster_bits (slice_index l1.raw_entries i) (Some old))
    (is : IsClusterOf (storage state c).bytes c.file.header.fields old content) where
  abbrev h' : Fields
  h' = c.file.header.fields

  abbrev m : Metadata
  m = flushed_metadata state c

  table-at : HasTable state l1 i c → l2_table m.file h' i ≡ old * cluster_size h'
  table-at has = l1-table m.file h' l1 has.top_word.l1 i has.top_word.inside ∙ finds.2

  copied-content : HasTable state l1 i c → IsContent state content l1 i c
  copied-content has = record {
    top_word = has.top_word;
    raw_entries = λ j less.
        bytes-mean (bytes_of content) m.file h' 0 (old * cluster_size h') (λ k within. from-zero content k
        ∙ is.reads k (omega (arith, is.whole, within))) j less
        ∙ ap (λ p. l2_mapping m.file h' p j) (sym (table-at has))
        ∙ sym (slot-there m.file h' i j has.table_exists);
  }

  given-up-is : HasTable state l1 i c → (d : ℕ) → old_table m i d ≡ covers d (table_entry old)
  given-up-is has d =
      ap (of_cluster h' (meets h' d)) (table-at has)
      ∙ chosen (old * cluster_size h') (meets h' d (old * cluster_size h') (cluster_size h'))
      (place-there (cluster_size h') old (pow_pos h'.cluster_bits) finds.0)
      ∙ meets-one h' old d ∙ sym (covers-one d (table_entry old) refl)
    where
      chosen : (p n : ℕ) → p ≢ 0 → (if p == 0 then 0 else n) ≡ n
      chosen p n apart = grind (arith, nat_tests)

  pub not-copied : (fault : Fault) (l1' : TableValue) (c' : Clusters S) → PlacesTable state content l1 i c (Err fault) l1' c'
      → CopiesTable state l1 i c (Err fault) l1' c'
  not-copied fault l1' c' places = record {
    named = narrowed state (IsContent state content l1 i c) (HasTable state l1 i c) (replacing m i (Err fault))
        (copying m i (Err fault)) i c (Err fault) l1' c' copied-content
        (wider-handing (λ d. handed_by (Err fault) d + replaced_table m i (Err fault) d) (handed_by (Err fault)) (copying m i (Err fault)))
        (λ has d. refl) (λ has d none. refl) places.named;
    held = places.held;
    raw_entries = tt;
    waits = λ has. tt;
  }

  module _ (t : ℕ) (l1' : TableValue) (c1 : Clusters S) (places : PlacesTable state content l1 i c (Ok t) l1' c1) (n : ℕ)
      (one-less : n + 1 ≡ c1.space.to_free.held) where
    abbrev entry : FreeList
    entry = record { entries = c1.space.to_free.entries ++ table_entry old ∷ []; held = n }

    abbrev c2 : Clusters S
    c2 = clusters_state c1.file c1.caches (record { allocator = c1.space.allocator; to_free = entry })

    abbrev m1 : Metadata
    m1 = flushed_metadata state c1

    abbrev first : Kind
    first = replacing m i (Ok t)

    abbrev second : Kind
    second = handing (λ _. 0) (λ d. covers d (table_entry old))

    -- Nothing references the old table, and its refcount is still above 0, so it can become pending.
    waits-soundly : IsReady state c → HasTable state l1 i c → AdvancesBy first m m1 → AdvancesBy second m1 (flushed_metadata state c2)
    waits-soundly ready has step = put-off-advances m1 (table_entry old) step.sound
        (λ d.
        let law = step.law d in
        let was = ready.sound.covered d in
        let same = given-up-is has d in
        omega (arith, law, was, same))
        (λ d some. elim (cases_eq d old) [
          | inl here ↦ subst (λ k. referenced_at_all m1 k ≡ 0) (sym here) (places.old ready (copied-content has) old finds.0 (table-at has))
          | inr apart ↦
              let none : covers d (table_entry old) ≡ 0 = covers-one d (table_entry old) refl ∙ rw (ne_eqb d old apart) refl in
              absurd (omega (arith, some, none))
        ])

    wider : IsWider (both first second) (copying m i (Ok t))
    wider = wider-both first second (copying m i (Ok t))
        (wider-handing (λ d. handed_by (Ok t) d + replaced_table m i (Ok t) d) (handed_by (Ok t)) (copying m i (Ok t)))
        (wider-handing (λ _. 0) (λ d. covers d (table_entry old)) (copying m i (Ok t)))

    progress : HasTable state l1 i c → Progresses (HadNoResourceError {T = ℕ} (Ok t)) (copying m i (Ok t)) (storage state c) m
        (storage state c2) (flushed_metadata state c2)
    progress has = progresses-otherwise (HadNoResourceError {T = ℕ} (Ok t)) (HadNoResourceError {T = ℕ} (Ok t)) (both first second) (copying m i (Ok t))
        (storage state c) m (storage state c2) (flushed_metadata state c2) wider (λ keeps sound whole. whole)
        (λ keeps sound whole d. let same = given-up-is has d in omega (arith, same))
        (λ keeps sound whole d used none. let same = given-up-is has d in omega (arith, same, none))
        (progresses-then-given (HadNoResourceError {T = ℕ} (Ok t)) (HadNoResourceError {T = ℕ} (Ok t)) first second (storage state c) m
        (storage state c1) m1 (storage state c1) (flushed_metadata state c2) tt (places.named.progress (copied-content has)) refl
        (later_same (storage state c1))
        (λ keeps sound step. progresses-in-memory (HadNoResourceError {T = ℕ} (Ok t)) second (storage state c1) m1 (flushed_metadata state c2)
        (λ sound1 whole. waits-soundly record { keeps = keeps; sound = sound } has step)))

    pub copied-so : CopiesTable state l1 i c (Ok t) l1' c2
    copied-so = record {
      named = record {
        progress = progress;
        rests = record {
          empty = places.named.rests.empty;
          room = places.named.rests.room;
          header = places.named.rests.header;
          shape = places.named.rests.shape;
          counts_not_fallen = places.named.rests.counts_not_fallen;
          faults = places.named.rests.faults;
        };
        l1 = λ ready has. places.named.l1 ready (copied-content has);
        table_linked = λ ready has. places.named.table_linked ready (copied-content has);
        copied = λ ready has. places.named.copied ready (copied-content has);
        leaves = λ ready has. leaves-as (room_for h' 1) m m m1 (flushed_metadata state c2) (first_free_in c) (first_free_in c1) refl (λ d. refl) refl (λ d. refl)
            (places.named.leaves ready (copied-content has));
        marked = λ has. places.named.marked (copied-content has);
        cause = tt;
      };
      held = let more = places.held in omega (arith, one-less, more);
      raw_entries = places.raw_entries;
      waits = λ has. (old, c1.space.to_free.entries, table-at has, refl);
    }

-- A read before the change preserves everything.
module _ {S : Type 0} (state : S → StorageState) (c : Clusters S) (file : ImageFile S) (image : state file.image ≡ state c.file.image)
    (header : file.header ≡ c.file.header) (l1 : TableValue) (i : ℕ) where
  abbrev cr : Clusters S
  cr = clusters_state file c.caches c.space

  abbrev all_flushed : StorageState → Header → Metadata
  all_flushed s H = record {
    file = bytes_of s.bytes;
    header = H;
    cached = nothing_cached;
    order = Unset;
    table = table_of c.space.allocator;
    pending = c.space.to_free.entries;
  }

  before : (P : StorageState → Header → Type 0) → P (state file.image) file.header → P (storage state c) c.file.header
  before P p = subst (λ (H : Header). P (storage state c) H) header (subst (λ (s : StorageState). P s file.header) image p)

  behind : (P : StorageState → Header → Type 0) → P (storage state c) c.file.header → P (state file.image) file.header
  behind P p = subst (λ (s : StorageState). P s file.header) (sym image) (subst (λ (H : Header). P (storage state c) H) (sym header) p)

  ready-behind : IsReady state c → IsReady state cr
  ready-behind ready = record {
    keeps = behind (λ s H. IsTrue s.shape.keeps) ready.keeps;
    sound = behind (λ s H. IsSound (all_flushed s H)) ready.sound;
  }

  table-behind : HasTable state l1 i c → HasTable state l1 i cr
  table-behind has = record {
    top_word = record {
      l1 = behind (λ s H. IsL1Of (bytes_of s.bytes) H.fields l1) has.top_word.l1;
      inside = behind (λ s H. i < H.fields.l1_entries) has.top_word.inside;
    };
    table_exists = behind (λ s H. l2_table (bytes_of s.bytes) H.fields i ≢ 0) has.table_exists;
  }

  pub found-behind : (old : ℕ) → FindsTable c.file.header.fields.cluster_bits (slice_index l1.raw_entries i) (Some old)
      → FindsTable file.header.fields.cluster_bits (slice_index l1.raw_entries i) (Some old)
  found-behind old finds = behind (λ s H. FindsTable H.fields.cluster_bits (slice_index l1.raw_entries i) (Some old)) finds

  pub content-behind : (old : ℕ) (content : List ℕ) → IsClusterOf (storage state c).bytes c.file.header.fields old content
      → IsClusterOf (state file.image).bytes file.header.fields old content
  content-behind old content is = behind (λ s H. IsClusterOf s.bytes H.fields old content) is

  pub read-before : (result : Result ℕ Fault) (l1' : TableValue) (c' : Clusters S) → CopiesTable state l1 i cr result l1' c'
      → CopiesTable state l1 i c result l1' c'
  read-before result l1' c' copies = record {
    named = record {
      progress = λ has. before (λ s H. Progresses (HadNoResourceError result) (copying (all_flushed s H) i result) s (all_flushed s H) (storage state c')
          (flushed_metadata state c')) (copies.named.progress (table-behind has));
      rests = record {
        empty = copies.named.rests.empty;
        room = copies.named.rests.room;
        header = before (λ s H. MovedTable H c'.file.header) copies.named.rests.header;
        shape = before (λ s H. (storage state c').shape ≡ s.shape) copies.named.rests.shape;
        counts_not_fallen = before (λ s H. CountsNotFallen s (storage state c')) copies.named.rests.counts_not_fallen;
        faults = λ whole. before (λ s H. IsFaultless s (storage state c')) (copies.named.rests.faults whole);
      };
      l1 = λ ready has whole. before (λ s H. IsL1Of (flushed_metadata state c').file H.fields l1')
          (copies.named.l1 (ready-behind ready) (table-behind has) whole);
      table_linked = λ ready has. before (λ s H. IfOk result (λ t.
          (t ≢ 0) × (l2_table (flushed_metadata state c').file H.fields i ≡ t * cluster_size H.fields)))
          (copies.named.table_linked (ready-behind ready) (table-behind has));
      copied = λ ready has. before (λ s H. IfOk result (λ t. is_copied (raw_entry (flushed_metadata state c').file H.fields.l1_offset i) ≡ true))
          (copies.named.copied (ready-behind ready) (table-behind has));
      leaves = λ ready has. before (λ s H. OnOk result (LeavesRoom (room_for H.fields 1) (all_flushed s H) (first_free_in c) (flushed_metadata state c') (first_free_in c')))
          (copies.named.leaves (ready-behind ready) (table-behind has));
      marked = λ has ready whole. before (λ s H. NoneFreeBefore (all_flushed s H) (first_free_in c) → NoneFreeBefore (flushed_metadata state c') (first_free_in c'))
          (copies.named.marked (table-behind has) (ready-behind ready) whole);
      cause = before (λ s H. IfErr result (HasCause (storing_causes (IsReady state c × HasTable state l1 i c)
          (IsFull 1 (all_flushed s H) (first_free_in c) (flushed_metadata state c') (first_free_in c')) s.faults (storage state c').faults)))
          (if-refused result _ _ (λ fault. storing-as _ _ _ _ (λ both. (ready-behind both.0, table-behind both.1)) fault (λ number at is told. told))
          copies.named.cause);
    };
    held = copies.held;
    raw_entries = before (λ s H. IfOk result (λ t. l1'.raw_entries ≡ slice_set l1.raw_entries i (2 ^ 63 + t * cluster_size H.fields))) copies.raw_entries;
    waits = λ has. before (λ s H. IfOk result (λ t. (old : ℕ) × (before : List FreeEntry)
        × (l2_table (bytes_of s.bytes) H.fields i ≡ old * cluster_size H.fields)
        × (c'.space.to_free.entries ≡ before ++ table_entry old ∷ [])))
        (copies.waits (table-behind has));
  }
