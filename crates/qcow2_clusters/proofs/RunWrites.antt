-- Data is written to consecutive clusters that were reserved in a flushed image.
use Rattle.std.proofs.Common.{◌≡◌, ℕ, ◌+◌, ◌-◌, ◌*◌, ◌<◌, ◌≤◌, refl, arith, sym, subst, ◌∙◌, inl, inr, List, length, Result, Ok, Err}
use Rattle.std.specs.Prelude.{slice_index}
use Rattle.std.proofs.lemmas.Bool.{cases_lt}
use Rattle.imago_storage.specs.State.{StorageState}
use Rattle.imago_storage.specs.Calls.{Spliced}
use Rattle.imago_storage.specs.Through.{WriteOutcome}
use Rattle.imago_storage.specs.declared.fault.Fault.{Fault}
use Rattle.imago_storage.proofs.Composing.{keeps_on, later_both}
use Rattle.qcow2_types.specs.Bytes.{bytes_of}
use Rattle.qcow2_types.specs.Header.{Header, cluster_size}
use Rattle.qcow2_types.proofs.Counting.Either.{refs-cached}
use Rattle.qcow2_alloc.specs.declared.file.ImageFile.{ImageFile}
use Rattle.qcow2_alloc.specs.Crowding.{room_for}
use Rattle.qcow2_alloc.specs.Going.{IsNotResourceError, HadNoResourceError}
use Rattle.qcow2_alloc.specs.FreeList.{covers}
use Rattle.qcow2_alloc.specs.MakingRoom.{run_of}
use Rattle.qcow2_alloc.specs.GuestView.{IsSound, IsUsed, Metadata, PreservesGuest, in_memory, referenced}
use Rattle.qcow2_alloc.specs.Freeing.{NoneFreeBefore}
use Rattle.qcow2_alloc.proofs.Causes.{storage-cause}
use Rattle.qcow2_alloc.proofs.Flushing.FaultlessCalls.{faultless-then, never-mild, put-faultless}
use Rattle.qcow2_alloc.proofs.Blocks.RunCounts.{covers-behind}
use Rattle.qcow2_alloc.proofs.Growth.LongerReftables.{covers-before, covers-inside}
use Rattle.qcow2_alloc.proofs.Memory.FreeClusterWrites.{run-quietly}
use Rattle.qcow2_alloc.proofs.GuestView.SingleRequests.{put-whole}
use Rattle.qcow2_steps.specs.Data.{WritesBeside}
use Rattle.qcow2_steps.proofs.DataRuns.{beside-reserved, beside-words}
use Rattle.qcow2_steps.proofs.Values.{places-there}
use Rattle.qcow2_clusters.specs.Progress.{Progresses, both, handing}
use Rattle.qcow2_clusters.specs.Flushed.{Clusters, IsReady, KeepsL1, clusters_state, flushed_metadata, storage}
use Rattle.qcow2_clusters.specs.Room.{LeavesRoom, first_free_in}
use Rattle.qcow2_clusters.specs.Storing.{AreReserved, StoresRun, run_handed_by}
use Rattle.qcow2_clusters.proofs.ProgressSums.{progresses-halted, progresses-otherwise, progresses-then-given, quiet-progresses, wider-both, wider-handing}
use Rattle.qcow2_clusters.proofs.RoomAfterAllocations.{leaves-as, marked-as}
use Rattle.qcow2_clusters.proofs.StartsAtRest.{l1-kept}

module _ {S : Type 0} (state : S → StorageState) (n : ℕ) (some : 0 < n) (before : List ℕ) (x : ℕ) (c mid : Clusters S)
    (run : StoresRun state n before c (Ok x) mid) (after : ImageFile S) (header : after.header ≡ mid.file.header) (place : ℕ) (bytes : List ℕ)
    (low : x * cluster_size mid.file.header.fields ≤ place)
    (high : place + length bytes ≤ (x + (n - 1) + 1) * cluster_size mid.file.header.fields) where
  abbrev m1 : Metadata
  m1 = flushed_metadata state mid

  abbrev m2 : Metadata
  m2 = record m1 { file = bytes_of (state after.image).bytes }

  abbrev given : ℕ → ℕ
  given d = covers d (run_of x n)

  ready-mid : IsReady state c → IsReady state mid
  ready-mid ready = record {
    keeps = keeps_on (storage state c) (storage state mid) run.rests.shape ready.keeps;
    sound = (run.progress.holds ready.keeps ready.sound tt).sound;
  }

  -- A cluster outside the run isn't allocated.
  apart : (d : ℕ) → (x ≤ d → d < x + n → ⊥) → given d ≡ 0
  apart d not = elim (cases_lt d x) [
    | inl lower ↦ covers-before d x n lower
    | inr from ↦ elim (cases_lt d (x + n)) [
      | inl to ↦ absurd (not from to)
      | inr behind ↦ covers-behind d x n behind
    ]
  ]

  unused : IsReady state c → (d : ℕ) → IsUsed (flushed_metadata state c) d → given d ≡ 0
  unused ready d used = apart d (λ from to. run.unused ready d from to used)

  spared : IsReady state c → IsSound m1 → (d : ℕ) → 0 < referenced m1 d → given d ≡ 0
  spared ready sound d named = apart d (λ from to.
      let none = (run.reserved ready d from to).not_referenced in
      let least = refs-cached m1.file (in_memory m1) m1.header.fields d (places-there m1 sound) in
      omega (arith, none, least, named))

  module _ (done : Result Unit Fault) (put : WriteOutcome (storage state mid) (state after.image) place bytes done) where
    -- The write takes the clusters and allocates them again.
    write-quietly : IsReady state c → PreservesGuest (HadNoResourceError done) given given (storage state mid) m1 (state after.image) m2
    write-quietly ready =
        put-whole m1 m2 given given (storage state mid) (state after.image) place bytes done put
        (run-quietly m1 x (n - 1) place bytes given (storage state mid) (state after.image) refl low high (λ sound d from upto.
        let inside : d < x + n = omega (arith, upto, some) in
        ((run.reserved ready d from inside).not_referenced, λ used. let one = covers-inside d x n from inside in omega (arith, one))) done put)

    -- So the call as a whole allocates them.
    both-progress : Progresses (HadNoResourceError done) (handing given (λ _. 0)) (storage state c) (flushed_metadata state c) (state after.image) m2
    both-progress =
        progresses-otherwise (HadNoResourceError done) (HadNoResourceError done) (both (handing given (λ _. 0)) (handing given given)) (handing given (λ _. 0))
        (storage state c) (flushed_metadata state c) (state after.image) m2
        (wider-both (handing given (λ _. 0)) (handing given given) (handing given (λ _. 0)) (wider-handing given (λ _. 0) (handing given (λ _. 0)))
        (wider-handing given given (handing given (λ _. 0))))
        (λ keeps sound whole. whole) (λ keeps sound whole d. omega arith)
        (λ keeps sound whole d used none. let no = unused (record { keeps = keeps; sound = sound }) d used in omega (arith, no))
        (progresses-then-given (HadNoResourceError done) (HadNoResourceError {T = ℕ} (Ok x)) (handing given (λ _. 0)) (handing given given)
        (storage state c) (flushed_metadata state c) (storage state mid) m1 (state after.image) m2 tt run.progress put.shape put.counts_not_fallen (λ keeps sound step.
        let ready : IsReady state c = record { keeps = keeps; sound = sound } in
        quiet-progresses (HadNoResourceError done) given given (storage state mid) m1 (state after.image) m2 (spared ready) (write-quietly ready)))

  -- The write succeeds: the clusters are still reserved.
  module _ (put : WriteOutcome {T = Unit} (storage state mid) (state after.image) place bytes (Ok tt)) where
    spliced : IsReady state c → Spliced (storage state mid).bytes place bytes (state after.image).bytes
    spliced ready = put.answer.content (ready-mid ready).keeps

    beside : IsReady state c → WritesBeside m1 x (n - 1) place (length bytes) m2.file
    beside ready = record {
      apart = λ d from upto. (run.reserved ready d from (omega (arith, upto, some))).used.apart;
      low = low;
      high = high;
      outside = λ p off. elim off [ inl lower ↦ (spliced ready).before p lower | inr higher ↦ (spliced ready).after p higher ];
    }

    has_no_dirty_data : IsReady state c → AreReserved n m2 x
    has_no_dirty_data ready d from to =
        beside-reserved m1 m2.file (beside-words m1 (ready-mid ready).sound x (n - 1) place (length bytes) m2.file (beside ready)) d
        (run.reserved ready d from to)

    leaves-there : IsReady state c → LeavesRoom (room_for c.file.header.fields n) (flushed_metadata state c) (first_free_in c) m2 (first_free_in mid)
    leaves-there ready = leaves-as (room_for c.file.header.fields n) (flushed_metadata state c) (flushed_metadata state c) m1 m2 (first_free_in c) (first_free_in mid) refl (λ d. refl) refl
        (beside-words m1 (ready-mid ready).sound x (n - 1) place (length bytes) m2.file (beside ready)).counts (run.leaves ready)

    marked-there : IsReady state c → NoneFreeBefore (flushed_metadata state c) (first_free_in c) → NoneFreeBefore m2 (first_free_in mid)
    marked-there ready marked = marked-as m1 m2 (first_free_in mid)
        (beside-words m1 (ready-mid ready).sound x (n - 1) place (length bytes) m2.file (beside ready)).counts (run.marked ready tt marked)

    l1-there : KeepsL1 {T = ℕ} state c (Ok x) (clusters_state after mid.caches mid.space)
    l1-there ready whole l1 of =
        l1-kept {T = Unit} state mid (Ok tt) (clusters_state after mid.caches mid.space) given given
        (subst (λ (H : Header). PreservesGuest (HadNoResourceError {T = Unit} (Ok tt)) given given (storage state mid) m1 (state after.image) (record m2 { header = H }))
        (sym header) (write-quietly (Ok tt) put ready)) (ready-mid ready) tt l1 (run.l1 ready tt l1 of)

    pub run-written : (content : List ℕ)
        → (IsReady state c → (i : ℕ) → i < length content → m2.file (x * cluster_size c.file.header.fields + i) ≡ slice_index content i)
        → StoresRun state n content c (Ok x) (clusters_state after mid.caches mid.space)
    run-written content stored = record {
      progress = subst (λ (H : Header). Progresses (HadNoResourceError {T = ℕ} (Ok x)) (handing (run_handed_by n (Ok x)) (λ _. 0)) (storage state c) (flushed_metadata state c)
          (state after.image) (record m2 { header = H })) (sym header) (both-progress (Ok tt) put);
      rests = record {
        empty = run.rests.empty;
        room = run.rests.room;
        header = (run.rests.header.0, run.rests.header.1, header ∙ run.rests.header.2);
        shape = put.shape ∙ run.rests.shape;
        counts_not_fallen = later_both (storage state c) (storage state mid) (state after.image) run.rests.counts_not_fallen put.counts_not_fallen;
        faults = λ whole. faultless-then (run.rests.faults tt) (put-faultless (storage state mid) (state after.image) place bytes (Ok tt) put tt);
      };
      held = run.held;
      l1 = l1-there;
      named = run.named;
      unused = run.unused;
      reserved = λ ready. subst (λ (H : Header). AreReserved n (record m2 { header = H }) x) (sym header) (has_no_dirty_data ready);
      stored = stored;
      leaves = λ ready. subst (λ (H : Header). LeavesRoom (room_for c.file.header.fields n) (flushed_metadata state c) (first_free_in c) (record m2 { header = H }) (first_free_in mid))
          (sym header) (leaves-there ready);
      marked = λ ready whole marked. subst (λ (H : Header). NoneFreeBefore (record m2 { header = H }) (first_free_in mid)) (sym header) (marked-there ready marked);
      cause = tt;
    }

  -- The write fails: no slot is reserved, and the clusters leak.
  pub run-unwritten : (fault : Fault) → WriteOutcome {T = Unit} (storage state mid) (state after.image) place bytes (Err fault) → (content : List ℕ) (held : ℕ)
      → held ≡ c.space.to_free.held → StoresRun state n content c (Err fault)
      (clusters_state after mid.caches (record { allocator = mid.space.allocator; to_free = record { entries = mid.space.to_free.entries; held = held } }))
  run-unwritten fault put content held same = record {
    progress = progresses-halted (IsNotResourceError fault) (IsNotResourceError fault) (handing given (λ _. 0)) (handing (λ _. 0) (λ _. 0)) (storage state c) (flushed_metadata state c)
        (state after.image) m2 (record m2 { header = after.header }) (wider-handing given (λ _. 0) (handing (λ _. 0) (λ _. 0)))
        (λ keeps sound not_resource_error. never not_resource_error) (both-progress (Err fault) put);
    rests = record {
      empty = run.rests.empty;
      room = run.rests.room;
      header = (run.rests.header.0, run.rests.header.1, header ∙ run.rests.header.2);
      shape = put.shape ∙ run.rests.shape;
      counts_not_fallen = later_both (storage state c) (storage state mid) (state after.image) run.rests.counts_not_fallen put.counts_not_fallen;
      faults = λ not_resource_error. absurd (never not_resource_error);
    };
    held = same;
    l1 = λ ready not_resource_error. absurd (never not_resource_error);
    named = tt;
    unused = λ ready. tt;
    reserved = λ ready. tt;
    stored = λ ready. tt;
    leaves = λ ready. tt;
    marked = λ ready not_resource_error. absurd (never not_resource_error);
    cause = storage-cause _ _ _ run.rests.counts_not_fallen.faults (omega arith) fault put.answer.cause;
  }
    where
      never : IsNotResourceError fault → ⊥
      never not_resource_error = never-mild (storage state mid).faults (state after.image).faults fault put.answer.cause not_resource_error
