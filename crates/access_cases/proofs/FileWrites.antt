-- Lemmas about a one-cluster image after a write to its file, and about each crash image of the write.
use Rattle.std.proofs.Common.{◌≡◌, ◌⊎◌, refl, inl, inr, ⊎_elim, ℕ, ◌+◌, ◌<◌, ◌≤◌, List, [], ◌∷◌, length, map, arith, ◌∙◌, ap}
use Rattle.std.specs.Prelude.{⊤, IsTrue, Bool, false, Option, Result, OnOk, IfErr, slice_index, if◌then◌else◌}
use Rattle.std.specs.Option.{unwrap_or}
use Rattle.std.proofs.lemmas.List.{length-map}
use Rattle.std.proofs.lemmas.Bool.{cases_lt, lt-ltb}
use Rattle.imago_storage.specs.State.{Shape, StorageState}
use Rattle.imago_storage.specs.Passing.{UnrefusedCrashImages}
use Rattle.imago_storage.specs.Disk.{Value, byte}
use Rattle.imago_storage.specs.Calls.{OldOrNewBytes, Spliced, IsFaultless}
use Rattle.imago_storage.specs.Through.{PaddedWrite, EachCrashImage, CrashImagesNoShorter, WriteSucceeded, WriteFailed, NotRead}
use Rattle.imago_storage.specs.Steps.{IsOut}
use Rattle.imago_storage.proofs.Rounding.{le_round_up}
use Rattle.imago_storage.specs.declared.fault.Fault.{Fault}
use Rattle.imago_storage.specs.declared.fault.Fault.TheVariants.{Memory, Storage, RangeOverflow}
use Rattle.imago_storage.proofs.Composing.{stops_and, stops_weaker}
use Rattle.imago_access.specs.Layer.{Layer, Cell, own}
use Rattle.imago_access.specs.Files.{IsNotResourceError, ImageCause}
use Rattle.imago_access.specs.Stops.{Left, GivesSettled}
use Rattle.imago_formats.proofs.RawSteps.{same_faultless, written_step, mixed_place}
use Rattle.access_cases.specs.declared.clusters.Content.{Content}
use Rattle.access_cases.specs.declared.clusters.Content.TheVariants.{Prepared, Mapped}
use Rattle.access_cases.specs.declared.clusters.OneCluster.{OneCluster}
use Rattle.access_cases.specs.declared.clusters.PreparedRun.{PreparedRun}
use Rattle.access_cases.specs.Clusters.{failed_by, cell_of, meant_by, says, home_of, held_of, unspent_of, blank_of, cluster_fixed, cluster_layer, IsRunOf}
use Rattle.access_cases.proofs.PreparedRuns.{file_means, settled_cell}

-- Facts about `failed_by`: the image is set to failed, or its flag is unchanged.
pub failed_on : (e : Fault) (failed : Bool) → IsTrue failed → IsTrue (failed_by e failed)
failed_on Memory failed is = refl
failed_on Storage failed is = refl
failed_on _ failed is = is

pub mild_failed : (e : Fault) (failed : Bool) → IsNotResourceError e → failed_by e failed ≡ failed
mild_failed Memory failed not_resource_error = absurd not_resource_error
mild_failed Storage failed not_resource_error = absurd not_resource_error
mild_failed _ failed not_resource_error = refl

pub marked_or_same : (e : Fault) (failed : Bool) → IsTrue (failed_by e failed) ⊎ (failed_by e failed ≡ failed)
marked_or_same Memory failed = inl refl
marked_or_same Storage failed = inl refl
marked_or_same _ failed = inr refl

-- DEL
pub same_layer : {S : Type 0} (old new : StorageState) (d : OneCluster S) (failed : Bool) → new.shape ≡ old.shape → new.bytes ≡ old.bytes → failed ≡ d.failed
    → cluster_layer new (record d { failed = failed }) ≡ cluster_layer old d
same_layer old new d failed shape bytes marked = λ i. record {
  fixed = cluster_fixed (shape i) d;
  size = d.size;
  failed = marked i;
  cell = says d.content (blank_of d.backed) (bytes i);
  writable_location = home_of d.content (if d.writable then d.size else 0);
  held = held_of d.content d.size;
  unspent = unspent_of d.content;
}

-- Bytes inside and outside of a splice.
pub spliced_at : (old : List ℕ) (at : ℕ) (bytes new : List ℕ) (i : ℕ) → Spliced old at bytes new → i < length bytes → slice_index new (at + i) ≡ slice_index bytes i
spliced_at old at bytes new i done lt = done.inside (at + i) (omega arith) (omega (arith, lt)) ∙ ap (λ (k : ℕ). slice_index bytes k) (omega arith)

pub spliced_out : (old : List ℕ) (at : ℕ) (bytes new : List ℕ) (p : ℕ) → Spliced old at bytes new → IsOut at (length bytes) p → slice_index new p ≡ slice_index old p
spliced_out old at bytes new p done out = ⊎_elim (λ before. done.before p before) (λ after. done.after p after) out

-- DEL
pub reaches_end : (unit : ℕ) (old new : StorageState) (bytes : List ℕ) → 0 < unit → PaddedWrite unit old new 0 bytes → length bytes ≤ length new.bytes
reaches_end unit old new bytes positive done = elim (cases_lt 0 (length bytes)) [
  | inl some ↦ omega (arith, done.size some, le_round_up unit (0 + length bytes) positive)
  | inr none ↦ omega (arith, none)
]

-- A read that failed without a resource error made no request.
pub unread_faultless : (old new : StorageState) (at n : ℕ) (e : Fault) → NotRead old new at n e → IsNotResourceError e → IsFaultless old new
unread_faultless old new at n RangeOverflow refused not_resource_error = same_faultless old new refused.1
unread_faultless old new at n Memory refused not_resource_error = absurd not_resource_error
unread_faultless old new at n Storage refused not_resource_error = absurd not_resource_error
unread_faultless old new at n _ refused not_resource_error = absurd refused

-- A commit only fails with `Storage` if a storage has failed.
pub spent_cause : (old new : StorageState) (at : ℕ) (bytes : List ℕ) (cause e : Fault) → WriteFailed old new at bytes cause → (IsNotResourceError e → ⊥) → (e ≡ Storage → cause ≡ Storage) → ImageCause (old ∷ []) (new ∷ []) e
spent_cause old new at bytes cause Memory refused strong storage = tt
spent_cause old new at bytes cause Storage refused strong storage = let h = rw (storage refl) at refused in inl h.cause
spent_cause old new at bytes cause _ refused strong storage = absurd (strong tt)

-- Each crash image of a write mixes old and new bytes, and is no shorter than the old file.
pub write_passes : {T : Type 0} (result : Result T Fault) (old new : StorageState) (at : ℕ) (bytes : List ℕ) (P : List ℕ → Type 0) → OnOk result (WriteSucceeded old new at bytes) → IfErr result (WriteFailed old new at bytes)
    → EachCrashImage (OldOrNewBytes old.bytes at bytes) old new → CrashImagesNoShorter old new → ((f : List ℕ) → OldOrNewBytes old.bytes at bytes f → length old.bytes ≤ length f → P f) → UnrefusedCrashImages P old new
write_passes result old new at bytes P ok err stops long each no_change_refused = (
  written_step result old new at bytes ok err no_change_refused,
  stops_weaker (λ f. OldOrNewBytes old.bytes at bytes f × (length old.bytes ≤ length f)) P old new (λ keeps f both. each f both.0 both.1)
      (stops_and (OldOrNewBytes old.bytes at bytes) (λ f. length old.bytes ≤ length f) old new stops long),
)

-- DEL
mapped_means : (content : Content) (blank : Cell) (f : List ℕ) (p : ℕ) → content ≡ Mapped → p < length f → meant_by content blank f p ≡ own (byte (slice_index f p))
mapped_means content blank f p is lt = rw is (file_means blank f p lt)

-- In each file that a write may leave, a byte of a mapped image is its old byte or one that the call gives.
pub mapped_left : {S : Type 0} (below : List Layer) (state : StorageState) (d : OneCluster S) (gives : ℕ → Value → Type 0) (f : List ℕ) → d.content ≡ Mapped → d.size ≤ length state.bytes → length state.bytes ≤ length f
    → ((p : ℕ) → (slice_index f p ≡ slice_index state.bytes p) ⊎ gives p (byte (slice_index f p))) → Left below (cluster_layer state d) state.bytes (λ kind file. ⊤) d.size d.size gives f
mapped_left below state d gives f mapped fits long each = record {
  is_sound = tt;
  backed = refl;
  size = omega arith;
  no_longer = λ exact. absurd (cc exact);
  shows = λ p inside on_disk.
      let now = mapped_means d.content (blank_of d.backed) f p mapped (omega (arith, on_disk, fits, long)) in
      let was = mapped_means d.content (blank_of d.backed) state.bytes p mapped (omega (arith, on_disk, fits)) in
      ⊎_elim
      (λ same. inl (rw (lt-ltb p d.size on_disk, now, was) (ap byte same)))
      (λ gave. inr (inr (rw (lt-ltb p d.size on_disk, now) gave)))
      (each p);
}

-- DEL
pub settled_fixed : {S : Type 0} (old new : Shape) (d : OneCluster S) (run : PreparedRun) → d.content ≡ Prepared run → new ≡ old → cluster_fixed new (record d { content = Mapped }) ≡ cluster_fixed old d
settled_fixed old new d run prepared shape = rw (prepared, shape) refl

-- DEL
pub settled_fits : (unit size : ℕ) (old new : StorageState) (written : List (Option ℕ)) (bytes : List ℕ) → 0 < unit → length written ≡ size → bytes ≡ map (λ w. unwrap_or w 0) written → PaddedWrite unit old new 0 bytes
    → size ≤ length new.bytes
settled_fits unit size old new written bytes positive all settled done =
    let as_many : length bytes ≡ length written = rw settled (length-map written (λ (w : Option ℕ). unwrap_or w 0)) in
    omega (arith, reaches_end unit old new bytes positive done, as_many, all)

-- Bytes past the end of a file read as 0.
zero_means : (f : List ℕ) (p : ℕ) → cell_of (own (byte 0)) f p ≡ own (byte (slice_index f p))
zero_means [] p = refl
zero_means (first ∷ bytes) p = refl

prepared_means : (content : Content) (backed : Bool) (run : PreparedRun) (f : List ℕ) (p : ℕ) → content ≡ Prepared run → backed ≡ false → meant_by content (blank_of backed) f p ≡ own (byte (slice_index f p))
prepared_means content backed run f p is alone = rw (is, alone) (zero_means f p)

-- In each file that a commit may leave, a byte is 0 or the byte of the run.
pub settled_left : {S : Type 0} (below : List Layer) (state : StorageState) (d : OneCluster S) (run : PreparedRun) (bytes f : List ℕ) → d.content ≡ Prepared run → state.bytes ≡ []
    → IsRunOf d.size d.backed run.start run.end run.written.items → bytes ≡ map (λ w. unwrap_or w 0) run.written.items → OldOrNewBytes state.bytes 0 bytes f
    → Left below (cluster_layer state d) state.bytes (λ kind file. ⊤) d.size d.size (GivesSettled below (cluster_layer state d)) f
settled_left below state d run bytes f prepared empty is_run settled mixed = record {
  is_sound = tt;
  backed = refl;
  size = omega arith;
  no_longer = λ exact. absurd (cc exact);
  shows = λ p inside on_disk.
      let now = prepared_means d.content d.backed run f p prepared is_run.alone in
      let was = prepared_means d.content d.backed run state.bytes p prepared is_run.alone in
      ⊎_elim
      (λ same. inl (rw (lt-ltb p d.size on_disk, now, was) (ap byte same)))
      (λ new. inr (inr (
        own (byte (slice_index bytes p)),
        rw prepared (settled_cell d.size run.start run.end p d.backed run.overwrite run.written.items bytes is_run settled),
        rw (lt-ltb p d.size on_disk, now) (ap byte (new.1 ∙ ap (λ (k : ℕ). slice_index bytes k) (omega arith))),
      )))
      (mixed_place state.bytes 0 bytes f mixed p);
}
