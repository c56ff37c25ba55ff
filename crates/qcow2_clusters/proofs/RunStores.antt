-- Data is written to newly allocated consecutive clusters.
use Rattle.std.proofs.Common.{◌≡◌, ℕ, ◌+◌, ◌-◌, ◌*◌, ◌<◌, ◌≤◌, refl, arith, ap, sym, subst, ◌∙◌, inl, inr, List, length, Result, Ok, Err, false}
use Rattle.std.specs.Prelude.{⊤, slice_index}
use Rattle.std.proofs.lemmas.Bool.{cases_lt}
use Rattle.std.proofs.Math.Nat.{add-mul, mul-le-mul_right}
use Rattle.imago_storage.specs.State.{StorageState}
use Rattle.imago_storage.specs.Calls.{Spliced}
use Rattle.imago_storage.specs.Through.{WriteOutcome}
use Rattle.imago_storage.specs.declared.fault.Fault.{Fault}
use Rattle.imago_storage.proofs.Composing.{keeps_on, later_both}
use Rattle.qcow2_types.specs.Bytes.{bytes_of}
use Rattle.qcow2_types.specs.Header.{Header, cluster_size}
use Rattle.qcow2_types.specs.Pending.{FreeEntry}
use Rattle.qcow2_alloc.specs.declared.file.ImageFile.{ImageFile}
use Rattle.qcow2_alloc.specs.Crowding.{room_for}
use Rattle.qcow2_alloc.specs.Going.{IsNotResourceError, HadNoResourceError}
use Rattle.qcow2_alloc.specs.FreeList.{covers}
use Rattle.qcow2_alloc.specs.HandingOut.{AllocatesClusters}
use Rattle.qcow2_alloc.specs.MakingRoom.{run_of}
use Rattle.qcow2_alloc.specs.GuestView.{IsSound, IsUsed, Metadata, PreservesGuest}
use Rattle.qcow2_alloc.specs.Freeing.{NoneFreeBefore}
use Rattle.qcow2_alloc.proofs.Causes.{storage-cause}
use Rattle.qcow2_alloc.proofs.Flushing.FaultlessCalls.{faultless-then, never-mild, put-faultless}
use Rattle.qcow2_alloc.proofs.Blocks.RunCounts.{covers-behind}
use Rattle.qcow2_alloc.proofs.Growth.LongerReftables.{covers-before, covers-inside}
use Rattle.qcow2_alloc.proofs.Memory.FreeClusterWrites.{run-quietly}
use Rattle.qcow2_alloc.proofs.GuestView.SingleRequests.{put-whole}
use Rattle.qcow2_alloc.proofs.GuestView.QuietPremises.{quietly-given}
use Rattle.qcow2_alloc.proofs.GuestView.QuietSequences.{quietly-otherwise, quietly-then}
use Rattle.qcow2_steps.specs.Data.{WritesBeside}
use Rattle.qcow2_steps.proofs.DataRuns.{beside-reserved, beside-words}
use Rattle.qcow2_clusters.specs.Flushed.{AreEmpty, Clusters, HasEntries, IsReady, changed, clusters_state, flushed_metadata, storage}
use Rattle.qcow2_clusters.specs.Room.{LeavesRoom, first_free_in}
use Rattle.qcow2_clusters.specs.Storing.{AreReserved, StoresRunUnsettled}
use Rattle.qcow2_clusters.proofs.AllocationsAtRest.{run-leaves, run-marked, run-named, run-quietly-handed, run-reserved, run-room, run-size, run-unpinned, run-unused}
use Rattle.qcow2_clusters.proofs.EndsAtRest.{quiet-halted, lent_by}
use Rattle.qcow2_clusters.proofs.RoomAfterAllocations.{leaves-as, marked-as}

-- The data of one cluster fits several clusters.
pub whole-fits : (content : List ℕ) (n size : ℕ) → 0 < n → length content ≡ size → length content ≤ n * size
whole-fits content n size some whole =
    let le : 1 * size ≤ n * size = mul-le-mul_right size (omega (arith, some)) in
    omega (arith, whole, le)

module _ {S : Type 0} (state : S → StorageState) (c : Clusters S) (empty : AreEmpty c.caches) (room : HasEntries c.caches) (n : ℕ) (mid : Clusters S)
    (entry : FreeEntry) (a : AllocatesClusters state n false (lent_by c) (Ok entry) (lent_by mid)) (some : 0 < n) (content : List ℕ)
    (long : length content ≤ n * cluster_size c.file.header.fields) (after : ImageFile S) (header : after.header ≡ mid.file.header) where
  abbrev x : ℕ
  x = entry.first

  abbrev m1 : Metadata
  m1 = changed state mid

  abbrev m2 : Metadata
  m2 = record m1 { file = bytes_of (state after.image).bytes }

  abbrev place : ℕ
  place = x * cluster_size mid.file.header.fields

  abbrev run : ℕ → ℕ
  run d = covers d (run_of entry.first n)

  first : PreservesGuest ⊤ run (λ _. 0) (storage state c) (flushed_metadata state c) (storage state mid) m1
  first = run-quietly-handed state c empty room n mid entry a

  size : cluster_size mid.file.header.fields ≡ cluster_size c.file.header.fields
  size = run-size state c empty room n mid (Ok entry) a

  reserved : IsReady state c → AreReserved n m1 x
  reserved = run-reserved state c empty room n mid entry a

  -- The clusters weren't in use.
  unused : IsReady state c → (d : ℕ) → IsUsed (flushed_metadata state c) d → run d ≡ 0
  unused ready d used = elim (cases_lt d x) [
    | inl before ↦ covers-before d x n before
    | inr from ↦ elim (cases_lt d (x + n)) [
      | inl to ↦ absurd (run-unused state c empty room n mid entry a ready d from to used)
      | inr behind ↦ covers-behind d x n behind
    ]
  ]

  within : place + length content ≤ (x + (n - 1) + 1) * cluster_size mid.file.header.fields
  within =
      let whole : x + (n - 1) + 1 ≡ x + n = omega (arith, some) in
      let parts : (x + n) * cluster_size mid.file.header.fields ≡ x * cluster_size mid.file.header.fields + n * cluster_size mid.file.header.fields =
      add-mul x n (cluster_size mid.file.header.fields) in
      rw whole (let fits : length content ≤ n * cluster_size mid.file.header.fields = subst (λ s. length content ≤ n * s) (sym size) long in omega (arith, parts, fits))

  module _ (done : Result Unit Fault) (put : WriteOutcome (storage state mid) (state after.image) place content done) where
    -- The write takes the clusters and allocates them again.
    write-quietly : IsReady state c → PreservesGuest (HadNoResourceError done) run run (storage state mid) m1 (state after.image) m2
    write-quietly ready =
        put-whole m1 m2 run run (storage state mid) (state after.image) place content done put
        (run-quietly m1 x (n - 1) place content run (storage state mid) (state after.image) refl (omega arith) within (λ sound d from upto.
        let inside : d < x + n = omega (arith, upto, some) in
        ((reserved ready d from inside).not_referenced, λ used. let one = covers-inside d x n from inside in omega (arith, one))) done put)

    -- So the call as a whole allocates them.
    pub both-quietly : PreservesGuest (HadNoResourceError done) run (λ _. 0) (storage state c) (flushed_metadata state c) (state after.image) m2
    both-quietly =
        quietly-given (HadNoResourceError done) run (λ _. 0) (storage state c) (flushed_metadata state c) (state after.image) m2 (put.shape ∙ first.shape)
        (later_both (storage state c) (storage state mid) (state after.image) first.counts_not_fallen put.counts_not_fallen) (λ keeps sound.
        let ready : IsReady state c = record { keeps = keeps; sound = sound } in
        quietly-otherwise (HadNoResourceError done) (λ k. run k + run k) (λ k. 0 + run k) run (λ _. 0) (storage state c) (flushed_metadata state c) (state after.image) m2
        (λ sound k. omega arith) (λ sound k used none. let no = unused ready k used in omega (arith, no))
        (quietly-then ⊤ (HadNoResourceError done) run (λ _. 0) run run (storage state c) (flushed_metadata state c) (storage state mid) m1 (state after.image) m2
        tt (λ sound k some. refl) first (write-quietly ready)))

  -- The write succeeds: the clusters are still reserved, and have their bytes.
  module _ (put : WriteOutcome {T = Unit} (storage state mid) (state after.image) place content (Ok tt)) where
    spliced : IsReady state c → Spliced (storage state mid).bytes place content (state after.image).bytes
    spliced ready = put.answer.content (keeps_on (storage state c) (storage state mid) first.shape ready.keeps)

    sound-there : IsReady state c → IsSound m1
    sound-there ready = (first.holds ready.keeps ready.sound tt).0

    beside : IsReady state c → WritesBeside m1 x (n - 1) place (length content) m2.file
    beside ready = record {
      apart = λ d from upto. (reserved ready d from (omega (arith, upto, some))).used.apart;
      low = omega arith;
      high = within;
      outside = λ p off. elim off [ inl low ↦ (spliced ready).before p low | inr high ↦ (spliced ready).after p high ];
    }

    has_no_dirty_data : IsReady state c → AreReserved n m2 x
    has_no_dirty_data ready d from to =
        beside-reserved m1 m2.file (beside-words m1 (sound-there ready) x (n - 1) place (length content) m2.file (beside ready)) d (reserved ready d from to)

    leaves-there : IsReady state c → LeavesRoom (room_for c.file.header.fields n) (flushed_metadata state c) (first_free_in c) m2 (first_free_in mid)
    leaves-there ready = leaves-as (room_for c.file.header.fields n) (flushed_metadata state c) (flushed_metadata state c) m1 m2 (first_free_in c) (first_free_in mid) refl (λ d. refl) refl
        (beside-words m1 (sound-there ready) x (n - 1) place (length content) m2.file (beside ready)).counts
        (run-leaves state c empty room n mid entry a ready)

    marked-there : IsReady state c → NoneFreeBefore (flushed_metadata state c) (first_free_in c) → NoneFreeBefore m2 (first_free_in mid)
    marked-there ready marked = marked-as m1 m2 (first_free_in mid)
        (beside-words m1 (sound-there ready) x (n - 1) place (length content) m2.file (beside ready)).counts
        (run-marked state c empty room n mid (Ok entry) a ready tt marked)

    bytes-there : IsReady state c → (i : ℕ) → i < length content → m2.file (place + i) ≡ slice_index content i
    bytes-there ready i lt =
        (spliced ready).inside (place + i) (omega arith) (omega (arith, lt)) ∙ ap (λ n. slice_index content n) (let same : place + i - place ≡ i = omega arith in same)

    pub stored-unsettled : mid.space.to_free.held ≡ c.space.to_free.held + 1 → StoresRunUnsettled state n content c (Ok x) (clusters_state after mid.caches mid.space)
    stored-unsettled held = record {
      guest_unchanged = subst (λ (H : Header). PreservesGuest ⊤ run (λ _. 0) (storage state c) (flushed_metadata state c) (state after.image) (record m2 { header = H })) (sym header)
          (both-quietly (Ok tt) put);
      unpinned = run-unpinned state c empty room n mid (Ok entry) a;
      room = run-room state c empty room n mid (Ok entry) a;
      header = (a.shape.moved.0, a.shape.moved.1, header ∙ a.shape.moved.2);
      faults = λ whole. faultless-then (a.faults tt) (put-faultless (storage state mid) (state after.image) place content (Ok tt) put tt);
      held = held;
      named = run-named state c empty room n mid entry a some;
      unused = run-unused state c empty room n mid entry a;
      reserved = λ ready. subst (λ (H : Header). AreReserved n (record m2 { header = H }) x) (sym header) (has_no_dirty_data ready);
      stored = λ ready i lt. subst (λ n. m2.file (x * n + i) ≡ slice_index content i) size (bytes-there ready i lt);
      leaves = λ ready. subst (λ (H : Header). LeavesRoom (room_for c.file.header.fields n) (flushed_metadata state c) (first_free_in c) (record m2 { header = H }) (first_free_in mid))
          (sym header) (leaves-there ready);
      marked = λ ready whole marked. subst (λ (H : Header). NoneFreeBefore (record m2 { header = H }) (first_free_in mid)) (sym header) (marked-there ready marked);
      cause = tt;
    }

  -- The write fails: no slot is reserved, and the clusters leak.
  pub stored-refused : (fault : Fault) → WriteOutcome {T = Unit} (storage state mid) (state after.image) place content (Err fault)
      → StoresRunUnsettled state n content c (Err fault)
      (clusters_state after mid.caches (record { allocator = mid.space.allocator; to_free = record { entries = mid.space.to_free.entries; held = c.space.to_free.held } }))
  stored-refused fault put = record {
    guest_unchanged = quiet-halted (IsNotResourceError fault) (IsNotResourceError fault) run (λ _. 0) (λ _. 0) (λ _. 0) (storage state c) (flushed_metadata state c) (state after.image) m2 (record m2 { header = after.header })
        never (both-quietly (Err fault) put);
    unpinned = run-unpinned state c empty room n mid (Ok entry) a;
    room = run-room state c empty room n mid (Ok entry) a;
    header = (a.shape.moved.0, a.shape.moved.1, header ∙ a.shape.moved.2);
    faults = λ not_resource_error. absurd (never not_resource_error);
    held = refl;
    named = tt;
    unused = λ ready. tt;
    reserved = λ ready. tt;
    stored = λ ready. tt;
    leaves = λ ready. tt;
    marked = λ ready whole. absurd (never whole);
    cause = storage-cause _ _ _ first.counts_not_fallen.faults (omega arith) fault put.answer.cause;
  }
    where
      never : IsNotResourceError fault → ⊥
      never not_resource_error = never-mild (storage state mid).faults (state after.image).faults fault put.answer.cause not_resource_error
