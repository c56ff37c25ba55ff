-- The data of a guest cluster is written to its preallocated zero cluster.
use Rattle.std.proofs.Common.{◌≡◌, ℕ, ◌+◌, ◌-◌, ◌*◌, ◌<◌, refl, arith, ap, sym, subst, ◌∙◌, inl, inr, List, length, Result, Ok, Err}
use Rattle.std.specs.Prelude.{IsTrue, IfErr, MatchResult, OnOk, slice_index}
use Rattle.imago_storage.specs.State.{CrashImageIsBytes, HasRisen, StorageState, unit_of}
use Rattle.imago_storage.specs.Calls.{Cause, OldOrNewBytes}
use Rattle.imago_storage.specs.Steps.{IsIn}
use Rattle.imago_storage.specs.Through.{PaddedWriteRefused, WriteOutcome, WriteSucceeded}
use Rattle.imago_storage.specs.declared.fault.Fault.{Fault}
use Rattle.imago_storage.proofs.Composing.{stops_weaker}
use Rattle.qcow2_types.specs.Bytes.{Bytes, bytes_of, raw_entry}
use Rattle.qcow2_types.specs.Frames.{Outside}
use Rattle.qcow2_types.specs.Header.{Fields, Header, cluster_size}
use Rattle.qcow2_types.specs.References.{meets, structure}
use Rattle.qcow2_types.proofs.Changes.DataSteps.{run-written}
use Rattle.qcow2_metadata.specs.Tables.{TableValue}
use Rattle.qcow2_alloc.specs.declared.file.ImageFile.{ImageFile}
use Rattle.qcow2_alloc.specs.Going.{HadNoResourceError}
use Rattle.qcow2_alloc.specs.Opening.{IsL1Of}
use Rattle.qcow2_alloc.specs.GuestView.{IsSound, Metadata}
use Rattle.qcow2_alloc.specs.Freeing.{NoneFreeBefore}
use Rattle.qcow2_alloc.proofs.Flushing.FaultlessCalls.{put-faultless}
use Rattle.qcow2_alloc.proofs.Memory.FreeClusterWrites.{put-outside}
use Rattle.qcow2_alloc.proofs.GuestView.SingleRequests.{put-done}
use Rattle.qcow2_steps.specs.Advancing.{Advances, MayBeCrashImage}
use Rattle.qcow2_steps.specs.Data.{IsHiddenIn, IsKeptFor, WritesBeside}
use Rattle.qcow2_steps.proofs.InvisibleClusters.{hidden-advances, hidden-stops, kept-hidden, kept-stays}
use Rattle.qcow2_steps.proofs.DataRuns.{beside-words}
use Rattle.qcow2_clusters.specs.Filling.{Fills, filling}
use Rattle.qcow2_clusters.specs.Flushed.{AreEmpty, Clusters, clusters_state, flushed_metadata, storage}
use Rattle.qcow2_clusters.specs.Room.{first_free_in}
use Rattle.qcow2_clusters.proofs.ProgressSums.{AdvancesBy}
use Rattle.qcow2_clusters.proofs.StartsAtRest.{l1-stays}
use Rattle.qcow2_clusters.proofs.RoomAfterAllocations.{marked-as}

-- If no change was refused, the file is a crash image of the call.
put-in-step : (s t : StorageState) (place : ℕ) (bytes : List ℕ) (r : Result Unit Fault)
    → MatchResult r (λ _. WriteSucceeded s t place bytes) (PaddedWriteRefused (unit_of s.shape) s t place bytes) → (HasRisen s.refusals t.refusals → ⊥) → CrashImageIsBytes s → CrashImageIsBytes t
put-in-step s t place bytes (Ok done) through no_change_refused = through.crash_image_is_bytes
put-in-step s t place bytes (Err fault) not no_change_refused = elim not.crash_image_is_bytes [
  | inl rose ↦ absurd (no_change_refused rose)
  | inr same ↦ same
]

mixed-outside : (old : List ℕ) (at : ℕ) (bytes new : List ℕ) → OldOrNewBytes old at bytes new → Outside (bytes_of old) (bytes_of new) at (length bytes)
mixed-outside old at bytes new mixed p (inl before) = mixed.before p before
mixed-outside old at bytes new mixed p (inr behind) = mixed.after p behind

module _ {S : Type 0} (state : S → StorageState) (guest x : ℕ) (content : List ℕ) (c : Clusters S) (after : ImageFile S) (result : Result Unit Fault)
    (empty : AreEmpty c.caches) (header : after.header ≡ c.file.header) (long : length content ≡ cluster_size c.file.header.fields)
    (put : WriteOutcome (storage state c) (state after.image) (x * cluster_size c.file.header.fields) content result) where
  abbrev h : Fields
  h = c.file.header.fields

  abbrev s : StorageState
  s = storage state c

  abbrev t : StorageState
  t = state after.image

  abbrev m : Metadata
  m = flushed_metadata state c

  abbrev c' : Clusters S
  c' = clusters_state after c.caches c.space

  abbrev there : Metadata
  there = record m { file = bytes_of t.bytes }

  same-image : there ≡ flushed_metadata state c'
  same-image = λ i. record there { header = sym header i }

  -- A file that differs only in the preallocated cluster.
  module _ (sound : IsSound m) (kept : IsKeptFor m guest x) where
    hidden : IsHiddenIn m x
    hidden = kept-hidden m guest x sound kept

    beside : (y : Bytes) → Outside m.file y (x * cluster_size h) (length content) → WritesBeside m x 0 (x * cluster_size h) (length content) y
    beside y out = record {
      apart = λ d from upto.
          let same : d ≡ x = omega (arith, from, upto) in
          subst (λ n. structure m.file h (meets h n) ≡ 0) (sym same) hidden.0.apart;
      low = omega arith;
      high = omega (arith, long);
      outside = out;
    }

    left : (y : List ℕ) → OldOrNewBytes s.bytes (x * cluster_size h) content y → MayBeCrashImage (λ p v. ⊥) m (bytes_of y) m.header
    left y mixed = hidden-stops m x (x * cluster_size h) (length content) (bytes_of y) (bytes_of y) sound
        (beside (bytes_of y) (mixed-outside s.bytes (x * cluster_size h) content y mixed)) hidden (λ q. inr refl)

    module _ (keeps : IsTrue s.shape.keeps) (whole : HadNoResourceError result) where
      written : WritesBeside m x 0 (x * cluster_size h) (length content) there.file
      written = beside there.file (put-outside s t (x * cluster_size h) content result put keeps (put-done s t (x * cluster_size h) content result put whole))

      filled-there : AdvancesBy (filling h x) m there
      filled-there = subst (λ n. Advances (λ p v. ⊥) (IsIn (x * cluster_size h) n) (λ g. ⊥) (λ c. 0) (λ c. 0) m there) long
          (hidden-advances m x (x * cluster_size h) (length content) there.file sound written hidden)

      filled : AdvancesBy (filling h x) m (flushed_metadata state c')
      filled = subst (AdvancesBy (filling h x) m) same-image filled-there

      kept-there : IsKeptFor (flushed_metadata state c') guest x
      kept-there = subst (λ k. IsKeptFor k guest x) same-image (kept-stays m x 0 (x * cluster_size h) (length content) guest x there.file sound written kept)

      marked-there : (mark : ℕ) → NoneFreeBefore m mark → NoneFreeBefore (flushed_metadata state c') mark
      marked-there mark marked = subst (λ k. NoneFreeBefore k mark) same-image
          (marked-as m there mark (beside-words m sound x 0 (x * cluster_size h) (length content) there.file written).counts marked)

      l1-word : (i : ℕ) → i < h.l1_entries → raw_entry there.file h.l1_offset i ≡ raw_entry m.file h.l1_offset i
      l1-word i lt =
          (run-written m.file m.header sound.well_formed.consistent x 0 written.apart there.file (x * cluster_size h) (length content) written.outside written.low written.high).same_structure_outside.l1 i lt (λ e. cc)

      l1-there : (l1 : TableValue) → IsL1Of m.file h l1 → IsL1Of there.file after.header.fields l1
      l1-there l1 of = l1-stays m.file there.file c.file.header after.header l1 (h.refcount_table_offset, h.refcount_table_clusters, header) l1-word of

  on-whole : (P : Type 0) → (HadNoResourceError result → P) → OnOk result P
  on-whole P from = by result from where
    by : (r : Result Unit Fault) → (HadNoResourceError r → P) → OnOk r P
    by (Ok v) from = from tt
    by (Err fault) from = tt

  bytes-there : (r : Result Unit Fault) → MatchResult r (λ _. WriteSucceeded s t (x * cluster_size h) content) (PaddedWriteRefused (unit_of s.shape) s t (x * cluster_size h) content)
      → IsTrue s.shape.keeps → OnOk r ((i : ℕ) → i < length content → there.file (x * cluster_size h + i) ≡ slice_index content i)
  bytes-there (Ok v) through keeps = λ i lt.
      (through.content keeps).inside (x * cluster_size h + i) (omega arith) (omega (arith, lt))
      ∙ ap (slice_index content) (let same : x * cluster_size h + i - x * cluster_size h ≡ i = omega arith in same)
  bytes-there (Err fault) not keeps = tt

  why-not : (r : Result Unit Fault) → MatchResult r (λ _. WriteSucceeded s t (x * cluster_size h) content) (PaddedWriteRefused (unit_of s.shape) s t (x * cluster_size h) content)
      → IfErr r (Cause s.faults t.faults)
  why-not (Ok v) through = tt
  why-not (Err fault) not = not.cause

  pub fills : Fills state guest x content c result c'
  fills = record {
    progress = λ kept. record {
      shape = put.shape;
      counts_not_fallen = put.counts_not_fallen;
      passes = λ keeps sound no_change_refused. (
        put-in-step s t (x * cluster_size h) content result put.answer no_change_refused,
        stops_weaker (OldOrNewBytes s.bytes (x * cluster_size h) content) (λ y. (H : Header) × MayBeCrashImage (λ p v. ⊥) m (bytes_of y) H) s t
            (λ _ y mixed. (m.header, left sound kept y mixed)) put.crash_images,
      );
      holds = λ keeps sound whole. filled sound kept keeps whole;
    };
    rests = record {
      empty = empty;
      room = record { tables = refl; blocks = refl };
      header = (h.refcount_table_offset, h.refcount_table_clusters, header);
      shape = put.shape;
      counts_not_fallen = put.counts_not_fallen;
      faults = λ whole. put-faultless s t (x * cluster_size h) content result put whole;
    };
    header = header;
    l1 = λ kept ready whole. l1-there ready.sound kept ready.keeps whole;
    marked = λ kept ready whole. marked-there ready.sound kept ready.keeps whole (first_free_in c);
    stays_kept = λ ready kept. on-whole (IsKeptFor (flushed_metadata state c') guest x) (kept-there ready.sound kept ready.keeps);
    stored = bytes-there result put.answer;
    cause = why-not result put.answer;
  }
