-- The metadata of data that was stored in consecutive clusters is written.
use Rattle.std.proofs.Common.{◌≡◌, ℕ, ◌+◌, ◌-◌, ◌*◌, ◌/◌, ◌%◌, ◌<◌, ◌≤◌, refl, arith, ap, sym, subst, ◌∙◌, inl, inr, List, length, Result, Ok, Err}
use Rattle.std.specs.Prelude.{IfErr, IfOk, OnOk, slice_index}
use Rattle.std.proofs.Math.Nat.{add-mul, div-lt_iff_lt-mul, div-mul-le_self, mod-eq-sub-div-mul}
use Rattle.std.proofs.lemmas.Nat.{mod_below, pow_pos}
use Rattle.imago_storage.specs.State.{StorageState}
use Rattle.imago_storage.specs.declared.fault.Fault.{Fault}
use Rattle.imago_storage.proofs.Composing.{keeps_on}
use Rattle.qcow2_types.specs.Frames.{Same}
use Rattle.qcow2_types.specs.Header.{Header, cluster_size}
use Rattle.qcow2_metadata.specs.Places.{IsAddressable}
use Rattle.qcow2_alloc.specs.declared.cache.MetadataCaches.{MetadataCaches}
use Rattle.qcow2_alloc.specs.declared.file.ImageFile.{ImageFile}
use Rattle.qcow2_alloc.specs.Allocators.{table_of}
use Rattle.qcow2_alloc.specs.Caches.{cached_in}
use Rattle.qcow2_alloc.specs.Causes.{HasCause}
use Rattle.qcow2_alloc.specs.Crowding.{room_for, space}
use Rattle.qcow2_alloc.specs.Going.{AreBlocksAddressable, AreTablesAddressable, IsNotResourceError, HadNoResourceError}
use Rattle.qcow2_alloc.specs.MakingRoom.{run_of}
use Rattle.qcow2_alloc.specs.GuestView.{GuestUnchanged, IsSound, PreservesGuest, counted}
use Rattle.qcow2_alloc.specs.Freeing.{NoneFreeBefore}
use Rattle.qcow2_alloc.proofs.Flushing.FlushRefusals.{never-refused, writing-implies}
use Rattle.qcow2_alloc.proofs.Causes.{cause-weaker}
use Rattle.qcow2_alloc.proofs.Freeing.ClusterOccurrences.{covers-one}
use Rattle.qcow2_alloc.proofs.Memory.SafeLaws.{safe-reach}
use Rattle.qcow2_alloc.proofs.GuestView.QuietPremises.{quietly-given}
use Rattle.qcow2_steps.proofs.StepSums.{reserved-still}
use Rattle.qcow2_steps.proofs.Steps.{quiet-advances}
use Rattle.qcow2_clusters.specs.Flushed.{Clusters, IsReady, changed, clusters_state, flushed_metadata, storage}
use Rattle.qcow2_clusters.specs.Room.{IsFull, LeavesRoom, first_free_in}
use Rattle.qcow2_clusters.specs.WritingBack.{WritesBack}
use Rattle.qcow2_clusters.specs.Storing.{AreReserved, Stores, StoresRun, StoresRunUnsettled, handed_by, held_by, run_handed_by, storing_causes}
use Rattle.qcow2_clusters.proofs.ProgressSums.{progresses-weaker, quiet-progresses, wider-handing}
use Rattle.qcow2_clusters.specs.Progress.{handing}
use Rattle.qcow2_clusters.proofs.EndsAtRest.{quiet-halted, settled-cases, settled-cause, settled-faultless, settled-if-ok, settled-quietly}
use Rattle.qcow2_clusters.proofs.RoomAfterAllocations.{full-as, leaves-as, marked-as, storing-as}
use Rattle.qcow2_clusters.proofs.StartsAtRest.{l1-kept}

-- A cause that holds except after resource errors is a cause.
if-mild : (ready : Type 0) (full : ℕ → Type 0) (before after : ℕ) (r : Result ℕ Fault)
    → IfErr r (HasCause (storing_causes ready (λ number. HadNoResourceError r → full number) before after)) → IfErr r (HasCause (storing_causes ready full before after))
if-mild ready full before after (Ok x) why = tt
if-mild ready full before after (Err fault) why = storing-as (λ number. HadNoResourceError {T = ℕ} (Err fault) → full number) full before after (λ is. is) fault
    (λ number at is told. told (subst (λ (f : Fault). IsNotResourceError f) (sym at) tt)) why

module _ {S : Type 0} (state : S → StorageState) (n : ℕ) (content : List ℕ) (c : Clusters S) (long : length content ≤ n * cluster_size c.file.header.fields) (was : Result ℕ Fault) (mid : Clusters S)
    (stored : StoresRunUnsettled state n content c was mid) (result : Result ℕ Fault) (after : ImageFile S) (new : MetadataCaches S) (settles : WritesBack state was mid.file mid.caches result after new)
    (held : ℕ) where
  abbrev c' : Clusters S
  c' = clusters_state after new (record { allocator = mid.space.allocator; to_free = record { entries = mid.space.to_free.entries; held = held } })

  abbrev Reach : Type 0
  Reach = AreTablesAddressable (cached_in mid.caches) × AreBlocksAddressable (cached_in mid.caches)

  in-reach : IsReady state c → HadNoResourceError was → Reach
  in-reach ready whole = safe-reach (changed state mid).file mid.file.header (cached_in mid.caches) mid.caches.order (stored.guest_unchanged.holds ready.keeps ready.sound whole).0.well_formed

  -- The guest is preserved, with the newly allocated clusters.
  as-was : PreservesGuest (HadNoResourceError result) (run_handed_by n was) (λ _. 0) (storage state c) (flushed_metadata state c) (storage state c') (flushed_metadata state c')
  as-was =
      settled-quietly state was mid.file mid.caches result after new settles (table_of mid.space.allocator) mid.space.to_free.entries (storage state c) (flushed_metadata state c) (run_handed_by n was) stored.guest_unchanged

  -- If the call fails, no cluster counts as newly allocated.
  all-quietly : PreservesGuest (HadNoResourceError result) (run_handed_by n result) (λ _. 0) (storage state c) (flushed_metadata state c) (storage state c') (flushed_metadata state c')
  all-quietly = elim (settled-cases state was mid.file mid.caches result after new settles) [
    | inl same ↦
        subst (λ (r : Result ℕ Fault). PreservesGuest (HadNoResourceError result) (run_handed_by n r) (λ _. 0) (storage state c) (flushed_metadata state c) (storage state c') (flushed_metadata state c')) (sym same) as-was
    | inr refused ↦
        subst (λ (r : Result ℕ Fault). PreservesGuest (HadNoResourceError r) (run_handed_by n r) (λ _. 0) (storage state c) (flushed_metadata state c) (storage state c') (flushed_metadata state c')) (sym refused.2)
        (quietly-given (IsNotResourceError refused.1) (λ _. 0) (λ _. 0) (storage state c) (flushed_metadata state c) (storage state c') (flushed_metadata state c') as-was.shape as-was.counts_not_fallen (λ keeps sound.
        quiet-halted (HadNoResourceError result) (IsNotResourceError refused.1) (run_handed_by n was) (λ _. 0) (λ _. 0) (λ _. 0) (storage state c) (flushed_metadata state c) (storage state c') (flushed_metadata state c') (flushed_metadata state c')
        (λ not_resource_error. never-refused Reach (storage state mid).faults (storage state c').faults refused.1 (in-reach (record { keeps = keeps; sound = sound }) refused.0) not_resource_error refused.3) as-was))
  ]

  -- The write keeps the reserved clusters and their bytes.
  module _ (x : ℕ) (is : result ≡ Ok x) (ready : IsReady state c) where
    stays : result ≡ was
    stays = elim (settled-cases state was mid.file mid.caches result after new settles) [
      | inl same ↦ same
      | inr refused ↦ absurd (let no = sym is ∙ refused.2 in cc no)
    ]

    before : was ≡ Ok x
    before = sym stays ∙ is

    done : HadNoResourceError result
    done = subst (λ (r : Result ℕ Fault). HadNoResourceError r) (sym is) tt

    sound : IsSound (changed state mid)
    sound = (stored.guest_unchanged.holds ready.keeps ready.sound (subst (λ (r : Result ℕ Fault). HadNoResourceError r) (sym before) tt)).0

    step : IsSound (flushed_metadata state c') × GuestUnchanged (λ _. 0) (λ _. 0) (changed state mid) (flushed_metadata state c')
    step = (settles.guest_unchanged (table_of mid.space.allocator) mid.space.to_free.entries).holds (keeps_on (storage state c) (storage state mid) stored.guest_unchanged.shape ready.keeps) sound done

    reserved : AreReserved n (changed state mid) x
    reserved = subst (λ (r : Result ℕ Fault). IfOk r (AreReserved n (changed state mid))) before (stored.reserved ready)

    reserved-there : AreReserved n (flushed_metadata state c') x
    reserved-there d from to =
        reserved-still (λ p v. ⊥) (λ q. ⊥) (λ guest. ⊥) (λ _. 0) (λ _. 0) (changed state mid) (flushed_metadata state c')
        (quiet-advances (changed state mid) (flushed_metadata state c') (λ _. 0) (λ _. 0) sound step.0 step.1 (λ k some. refl)) d (reserved d from to) refl

    bytes : (i : ℕ) → i < length content → (changed state mid).file (x * cluster_size c.file.header.fields + i) ≡ slice_index content i
    bytes = subst (λ (r : Result ℕ Fault). IfOk r (λ x. (i : ℕ) → i < length content → (changed state mid).file (x * cluster_size c.file.header.fields + i) ≡ slice_index content i)) before (stored.stored ready)

    size : cluster_size mid.file.header.fields ≡ cluster_size c.file.header.fields
    size = ap (λ (H : Header). cluster_size H.fields) stored.header.2

    kept : (d : ℕ) → x ≤ d → d < x + n
        → Same (changed state mid).file (flushed_metadata state c').file (d * cluster_size c.file.header.fields) (cluster_size c.file.header.fields)
    kept d from to = subst (λ k. Same (changed state mid).file (flushed_metadata state c').file (d * k) k) size (step.1.used_bytes_unchanged d (reserved d from to).used refl)

    -- Byte `i` of the data is in cluster `x + i / size`.
    bytes-there : (i : ℕ) → i < length content → (flushed_metadata state c').file (x * cluster_size c.file.header.fields + i) ≡ slice_index content i
    bytes-there i lt =
        let s : ℕ = cluster_size c.file.header.fields in
        let some : 0 < cluster_size c.file.header.fields = pow_pos c.file.header.fields.cluster_bits in
        let row : i / s * s ≤ i = div-mul-le_self i s in
        let inside : i / s < n = (div-lt_iff_lt-mul some).1 (omega (arith, lt, long)) in
        let rest : i % s ≡ i - i / s * s = mod-eq-sub-div-mul i s in
        let whole : (x + i / s) * s ≡ x * s + i / s * s = add-mul x (i / s) s in
        let at : (x + i / s) * s + i % s ≡ x * s + i = omega (arith, row, rest, whole) in
        subst (λ p. (flushed_metadata state c').file p ≡ (changed state mid).file p) at
        (kept (x + i / s) (omega arith) (omega (arith, inside)) (i % s) (mod_below i s some))
        ∙ bytes i lt

  reserved-if : (r : Result ℕ Fault) → result ≡ r → IsReady state c → IfOk r (AreReserved n (flushed_metadata state c'))
  reserved-if (Ok x) is ready = reserved-there x is ready
  reserved-if (Err fault) is ready = tt

  bytes-if : (r : Result ℕ Fault) → result ≡ r → IsReady state c
      → IfOk r (λ x. (i : ℕ) → i < length content → (flushed_metadata state c').file (x * cluster_size c.file.header.fields + i) ≡ slice_index content i)
  bytes-if (Ok x) is ready = bytes-there x is ready
  bytes-if (Err fault) is ready = tt

  -- The refcounts are the same after the write.
  counts-there : IsReady state c → HadNoResourceError was → HadNoResourceError result → (d : ℕ) → counted (flushed_metadata state c') d ≡ counted (changed state mid) d
  counts-there ready whole done d = settles.counts (table_of mid.space.allocator) mid.space.to_free.entries
      (keeps_on (storage state c) (storage state mid) stored.guest_unchanged.shape ready.keeps) (stored.guest_unchanged.holds ready.keeps ready.sound whole).0 done d

  leaves-ok : (x : ℕ) → result ≡ Ok x → (ready : IsReady state c)
      → LeavesRoom (room_for c.file.header.fields n) (flushed_metadata state c) (first_free_in c) (flushed_metadata state c') (first_free_in mid)
  leaves-ok x is ready = leaves-as (room_for c.file.header.fields n) (flushed_metadata state c) (flushed_metadata state c) (changed state mid) (flushed_metadata state c') (first_free_in c) (first_free_in mid)
      refl (λ d. refl) (ap (λ (H : Header). space H.fields) settles.header)
      (counts-there ready (subst (λ (r : Result ℕ Fault). HadNoResourceError r) (sym (before x is ready)) tt) (done x is ready))
      (subst (λ (r : Result ℕ Fault). OnOk r (LeavesRoom (room_for c.file.header.fields n) (flushed_metadata state c) (first_free_in c) (changed state mid) (first_free_in mid)))
      (before x is ready) (stored.leaves ready))

  leaves-if : (r : Result ℕ Fault) → result ≡ r → IsReady state c
      → OnOk r (LeavesRoom (room_for c.file.header.fields n) (flushed_metadata state c) (first_free_in c) (flushed_metadata state c') (first_free_in mid))
  leaves-if (Ok x) is ready = leaves-ok x is ready
  leaves-if (Err fault) is ready = tt

  -- If no cluster before the first-free hint was free, none is free there afterwards.
  marked-there : IsReady state c → HadNoResourceError result → NoneFreeBefore (flushed_metadata state c) (first_free_in c) → NoneFreeBefore (flushed_metadata state c') (first_free_in mid)
  marked-there ready done marked =
      let whole : HadNoResourceError was = elim (settled-cases state was mid.file mid.caches result after new settles) [
        | inl same ↦ subst (λ (r : Result ℕ Fault). HadNoResourceError r) same done
        | inr refused ↦ refused.0
      ] in
      marked-as (changed state mid) (flushed_metadata state c') (first_free_in mid) (counts-there ready whole done) (stored.marked ready whole marked)

  -- If the fault is a limit, its number means the same.
  abbrev full-if : ℕ → Type 0
  full-if number = HadNoResourceError result → IsFull n (flushed_metadata state c) (first_free_in c) (flushed_metadata state c') (first_free_in mid) number

  full-was : (r : Result ℕ Fault) → was ≡ r
      → IfErr r (HasCause (storing_causes (IsReady state c) (IsFull n (flushed_metadata state c) (first_free_in c) (changed state mid) (first_free_in mid)) (storage state c).faults (storage state mid).faults))
      → IfErr r (HasCause (storing_causes (IsReady state c) full-if (storage state c).faults (storage state mid).faults))
  full-was (Ok x) is why = tt
  full-was (Err fault) is why = storing-as
      (IsFull n (flushed_metadata state c) (first_free_in c) (changed state mid) (first_free_in mid)) full-if
      (storage state c).faults (storage state mid).faults (λ ready. ready) fault (λ number at ready full done.
      full-as n (flushed_metadata state c) (changed state mid) (flushed_metadata state c') (first_free_in c) (first_free_in mid) number (sym settles.header) refl
      (λ d. sym (counts-there ready (subst (λ (r : Result ℕ Fault). HadNoResourceError r) (sym is) (subst (λ (f : Fault). IsNotResourceError f) (sym at) tt)) done d)) full) why

  pub run-settled : held ≡ held_by result c.space.to_free.held → StoresRun state n content c result c'
  run-settled room = record {
    progress = quiet-progresses (HadNoResourceError result) (run_handed_by n result) (λ _. 0) (storage state c) (flushed_metadata state c) (storage state c') (flushed_metadata state c') (λ sound k some. refl) all-quietly;
    rests = record {
      empty = settles.empty;
      room = record { tables = settles.room.tables ∙ stored.room.tables; blocks = settles.room.blocks ∙ stored.room.blocks };
      header = (stored.header.0, stored.header.1, settles.header ∙ stored.header.2);
      shape = all-quietly.shape;
      counts_not_fallen = all-quietly.counts_not_fallen;
      faults = settled-faultless state was mid.file mid.caches result after new settles (storage state c) stored.faults;
    };
    held = room;
    l1 = l1-kept state c result c' (run_handed_by n result) (λ _. 0) all-quietly;
    named = settled-if-ok state was mid.file mid.caches result after new settles _ stored.named;
    unused = λ ready. settled-if-ok state was mid.file mid.caches result after new settles _ (stored.unused ready);
    reserved = reserved-if result refl;
    stored = bytes-if result refl;
    leaves = leaves-if result refl;
    marked = marked-there;
    cause = if-mild (IsReady state c) (IsFull n (flushed_metadata state c) (first_free_in c) (flushed_metadata state c') (first_free_in mid)) (storage state c).faults (storage state c').faults result
        (settled-cause state was mid.file mid.caches result after new settles (λ count. HasCause (storing_causes (IsReady state c) full-if (storage state c).faults count))
        (full-was was refl stored.cause) (λ whole fault why.
        cause-weaker (writing-implies _ stored.guest_unchanged.counts_not_fallen.faults (omega arith) (λ far ready. far (in-reach ready whole))) fault why));
  }

-- A run of one cluster is that cluster.
pub one-stored : {S : Type 0} (state : S → StorageState) (content : List ℕ) (c : Clusters S) (result : Result ℕ Fault) (c' : Clusters S)
    → StoresRun state 1 content c result c' → Stores state content c result c'
one-stored state content c (Ok x) c' run = record {
  progress = progresses-weaker (HadNoResourceError {T = ℕ} (Ok x)) (HadNoResourceError {T = ℕ} (Ok x)) (handing (run_handed_by 1 (Ok x)) (λ _. 0)) (handing (handed_by (Ok x)) (λ _. 0))
      (storage state c) (flushed_metadata state c) (storage state c') (flushed_metadata state c') (wider-handing (run_handed_by 1 (Ok x)) (λ _. 0) (handing (handed_by (Ok x)) (λ _. 0)))
      (λ whole. whole) (λ d. sym (covers-one d (run_of x 1) refl)) (λ d. refl) run.progress;
  rests = run.rests;
  held = run.held;
  l1 = run.l1;
  named = (run.named.0, subst (λ n. IsAddressable c.file.header.fields.cluster_bits n) (let same : x + (1 - 1) ≡ x = omega arith in same) run.named.1);
  reserved = λ ready. run.reserved ready x (omega arith) (omega arith);
  stored = run.stored;
  leaves = run.leaves;
  marked = run.marked;
  cause = run.cause;
}
one-stored state content c (Err fault) c' run = record {
  progress = run.progress;
  rests = run.rests;
  held = run.held;
  l1 = run.l1;
  named = tt;
  reserved = λ ready. tt;
  stored = run.stored;
  leaves = run.leaves;
  marked = run.marked;
  cause = run.cause;
}
