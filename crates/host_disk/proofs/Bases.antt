-- The bytes of the top's file at the start of a list of calls, found by its crash images: each call adds crash images to those before, so the
-- oldest one stays the file at the start.
use Rattle.std.proofs.Common.{◌≡◌, ◌<◌, ◌+◌, ℕ, Bool, true, false, ◌||◌, refl, sym, ap, subst, ◌∙◌, List, [], ◌∷◌, ◌++◌, append_assoc, arith, IsFalse, IsTrue}
use Rattle.std.specs.Prelude.{is_some}
use Rattle.imago_storage.specs.Calls.{UnchangedButFaults}
use Rattle.imago_storage.specs.Log.{apply, files_before, replay}
use Rattle.imago_storage.specs.Passing.{UnrefusedCrashImages}
use Rattle.imago_storage.specs.State.{HasRisen, StorageState}
use Rattle.imago_storage.specs.declared.fault.Fault.TheVariants.{BadArgument}
use Rattle.imago_storage.specs.declared.log.Request.{Request}
use Rattle.paged_storage.specs.PagedStorage.{requested}
use Rattle.qimg_calls.specs.Calls.{Either, GoesOn, any_commit_down, commits_down, is_out_of_place}
use Rattle.qimg_calls.specs.Held.{call_as}
use Rattle.qimg_calls.specs.Runs.{AllGoOn}
use Rattle.qimg_calls.specs.Since.{LeftSince, begun}
use Rattle.qimg_calls.specs.declared.call.Answer.{Answer}
use Rattle.qimg_calls.specs.declared.call.Answer.TheVariants as told
use Rattle.qimg_calls.specs.declared.call.Call.{Call}
use Rattle.qimg_chain.specs.Chains.{IsSoundAs}
use Rattle.qimg_chain.specs.FileMeanings.{FileBytes}
use Rattle.qimg_chain.specs.OneDisk.{CommitsInto, DiskMoment, OneCall, OneCallStops, OneStep, RunsOnDisk, is_prepared, over_values, reading_over}

-- ---- Small steps.

by-test : {R : Type 0} (b : Bool) → (IsTrue b → R) → (IsFalse b → R) → R
by-test true f g = f refl
by-test false f g = g refl

by-either : (P Q R : Type 0) (b : Bool) → Either b P Q → (P → R) → (Q → R) → R
by-either P Q R true h f g = f h
by-either P Q R false h f g = g h

neither : (a b : Bool) → IsFalse (a || b) → IsFalse a × IsFalse b
neither true b none = absurd (cc none)
neither false b none = (refl, none)

abbrev last_or : {A : Type 0} → A → List A → A
last_or a [] = a
last_or a (x ∷ xs) = last_or x xs

last-append : {A : Type 0} (a b : A) (xs : List A) → last_or a (xs ++ (b ∷ [])) ≡ b
last-append a b [] = refl
last-append a b (x ∷ xs) = last-append x b xs

-- The oldest of the files that requests make is the one before them all.
oldest-file : (a base : List ℕ) (requests : List Request) → last_or a (replay base requests ∷ files_before base requests) ≡ base
oldest-file a base [] = refl
oldest-file a base (request ∷ requests) = last-append (replay (apply request base) requests) base (files_before (apply request base) requests)

not-risen : (old new : ℕ) → old ≡ 0 → new ≡ old → HasRisen old new → ⊥
not-risen old new none same risen = let rose : old < new = risen.rose (omega arith) in omega arith

-- ---- The top's file between two calls.

-- The top's file is consistent, no change was refused, and the oldest of its crash images is `base`.
pub record IsFrom (top : FileBytes) (base : List ℕ) (s : StorageState) : Type 0 where
  pub tells : IsTrue s.shape.tells
  pub keeps : IsTrue s.shape.keeps
  pub refusals : s.refusals ≡ 0
  pub crash_image : s.crash_image ≡ s.bytes
  pub is_sound : IsSoundAs top.format s.bytes
  pub files : List (List ℕ)
  pub told : s.crash_image ∷ s.past_crash_images ≡ files ++ (base ∷ [])

module _ (top : FileBytes) (below : List FileBytes) (base : List ℕ) where
  stops-of : (call : Call) (old new : DiskMoment) → IsFalse (commits_down call) → OneCallStops top below call old new
      → UnrefusedCrashImages (LeftSince (over_values (reading_over top below) old.below)
      (begun old.since old.disk (call_as (is_prepared old.kept) (is_prepared old.kept) call))) old.top new.top
  stops-of call old new none stops =
      subst (λ b. Either b (CommitsInto top below old new) (UnrefusedCrashImages (LeftSince (over_values (reading_over top below) old.below)
      (begun old.since old.disk (call_as (is_prepared old.kept) (is_prepared old.kept) call))) old.top new.top)) none stops

  -- A call that wasn't refused early.
  after-made : (call : Call) (answer : Answer) (old new : DiskMoment) → IsFalse (commits_down call) → GoesOn answer
      → (made : OneCall top below call answer old new) → IsFalse made.early → IsFrom top base old.top → IsFrom top base new.top
  after-made call answer old new none goes made late from =
      let shape = made.counts_not_fallen.0 in
      let refusals = (made.faults goes).1 in
      let tells : IsTrue new.top.shape.tells = ap (λ s. s.tells) shape ∙ from.tells in
      let keeps : IsTrue new.top.shape.keeps = ap (λ s. s.keeps) shape ∙ from.keeps in
      let none_refused : new.top.refusals ≡ 0 = refusals ∙ from.refusals in
      let now = made.file_now goes tells keeps (omega (arith, none_refused)) in
      let stops = stops-of call old new none (made.crash_images late) in
      let added = (stops (not-risen old.top.refusals new.top.refusals from.refusals refusals)).1 (λ _ _. from.crash_image) from.tells from.keeps in
      record {
        tells = tells;
        keeps = keeps;
        refusals = none_refused;
        crash_image = now.0;
        is_sound = now.1.is_sound;
        files = added.files ++ from.files;
        told = added.told ∙ (ap (λ files. added.files ++ files) from.told ∙ sym (append_assoc added.files from.files (base ∷ [])));
      }

  after-call : (call : Call) (answer : Answer) (old new : DiskMoment) → IsFalse (commits_down call) → GoesOn answer
      → OneCall top below call answer old new → IsFrom top base old.top → IsFrom top base new.top
  after-call call answer old new none goes made from =
      by-test made.early (λ early. subst (λ s. IsFrom top base s) (sym (made.untouched early).top) from)
      (λ late. after-made call answer old new none goes made late from)

  after-step : (call : Call) (answer : Answer) (old new : DiskMoment) → IsFalse (commits_down call) → GoesOn answer
      → OneStep top below call answer old new → IsFrom top base old.top → IsFrom top base new.top
  after-step call answer old new none goes step from =
      by-either ((answer ≡ told.Refused BadArgument) × (new ≡ old)) (OneCall top below call answer old new) (IsFrom top base new.top)
      (is_out_of_place (is_some old.kept) call) step
      (λ out. subst (λ (m : DiskMoment). IsFrom top base m.top) (sym out.1) from)
      (λ made. after-call call answer old new none goes made from)

  pub after-run : (list : List Call) (answers : List Answer) (old new : DiskMoment) → IsFalse (any_commit_down list) → AllGoOn answers
      → RunsOnDisk top below list answers old new → IsFrom top base old.top → IsFrom top base new.top
  after-run [] [] old new none goes run from = subst (λ (m : DiskMoment). IsFrom top base m.top) (sym run) from
  after-run [] (answer ∷ answers) old new none goes run from = absurd run
  after-run (call ∷ list) [] old new none goes run from = absurd run
  after-run (call ∷ list) (answer ∷ answers) old new none goes run from =
      let nones = neither (commits_down call) (any_commit_down list) none in
      after-run list answers run.0 new nones.1 goes.1 (run.2 goes.0) (after-step call answer old run.0 nones.0 goes.0 run.1 from)

-- ---- The start and the end of a list.

-- The storage of the top's file at the start.
pub from-start : (top : FileBytes) (s : StorageState) → IsSoundAs top.format top.bytes → UnchangedButFaults (requested top.bytes [] 0 0) s
    → IsFrom top top.bytes s
from-start top s sound same = record {
  tells = ap (λ shape. shape.tells) same.shape;
  keeps = ap (λ shape. shape.keeps) same.shape;
  refusals = same.refusals;
  crash_image = same.crash_image ∙ sym same.bytes;
  is_sound = subst (λ bytes. IsSoundAs top.format bytes) (sym same.bytes) sound;
  files = [];
  told = cc (same.crash_image, same.past_crash_images);
}

-- At the end the file is made by requests from the one at the start.
pub base-is : (top : FileBytes) (base at : List ℕ) (requests : List Request) (faults refusals : ℕ) (s : StorageState) → IsFrom top base s
    → s ≡ requested at requests faults refusals → at ≡ base
base-is top base at requests faults refusals s from ended =
    let images : replay at requests ∷ files_before at requests ≡ from.files ++ (base ∷ []) =
    ap (λ (t : StorageState). t.crash_image ∷ t.past_crash_images) (sym ended) ∙ from.told in
    sym (oldest-file at at requests) ∙ (ap (λ files. last_or at files) images ∙ last-append at base from.files)
