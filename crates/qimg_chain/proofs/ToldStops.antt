-- Crash images in a list of calls over a chain that exposes them.
use Rattle.std.proofs.Common.{◌≡◌, ◌⊎◌, ◌+◌, ◌<◌, ℕ, zero, suc, List, [], ◌∷◌, arith, inl, inr, refl, sym, subst, ap, take}
use Rattle.std.specs.Prelude.{◌^◌, Bool, true, false, IsTrue, MatchOption, Option, Some, None, is_some}
use Rattle.std.proofs.lemmas.List.Elements.{All-weaker}
use Rattle.imago_storage.specs.State.{CrashImageIsBytes, HasRisen, Shape, StorageState}
use Rattle.imago_storage.specs.Passing.{UnrefusedCrashImages}
use Rattle.imago_storage.specs.declared.fault.Fault.{Fault}
use Rattle.imago_storage.specs.Through.{EachCrashImageIn}
use Rattle.imago_storage.proofs.Composing.{no_stops}
use Rattle.imago_access.specs.ChainCalls.{ChainCancels}
use Rattle.imago_access.specs.Committing.{IsPairAbove}
use Rattle.imago_access.specs.Files.{IsLater, files}
use Rattle.imago_access.specs.Layer.{Fixed, Layer}
use Rattle.imago_access.specs.declared.mapping.PreparedDataMapping.{PreparedDataMapping}
use Rattle.imago_access.specs.declared.driver_model.DriverModel.{Ghosts}
use Rattle.imago_access.proofs.FilePairs.{is_later_both, is_later_same}
use Rattle.imago_access.proofs.FileReads.{kept_later}
use Rattle.imago_access.proofs.Stopping.{passes_both, passes_none, passes_on, passes_weaker}
use Rattle.qimg_calls.specs.Calls.{Either, GoesOn, is_out_of_place}
use Rattle.qimg_calls.specs.Held.{chain_with_mapping}
use Rattle.qimg_calls.specs.Moves.{refusal_at_once}
use Rattle.qimg_calls.specs.Runs.{AllGoOn, CommitCrashImages, ListStep, IsLeftBy, Made, Moment, Run, moment}
use Rattle.qimg_calls.specs.Since.{Since}
use Rattle.qimg_calls.specs.declared.call.Call.{Call}
use Rattle.qimg_calls.specs.declared.call.Call.TheVariants as calls
use Rattle.qimg_calls.specs.declared.call.Answer.{Answer}
use Rattle.qimg_chain.specs.ToldStops.{CallStops, GoesOnTelling, IsLeftIn, TellsAll, TellsRun}

pub stops-in : (P Q : List ℕ → Type 0) (a b : StorageState) → ((f : List ℕ) → P f → Q f) → EachCrashImageIn P a b → EachCrashImageIn Q a b
stops-in P Q a b weaker stops = record { files = stops.files; told = stops.told; each = All-weaker P Q weaker stops.files stops.each }

pub either-way : (b : Bool) (P Q : Type 0) → Either b P Q → (R : Type 0) → (P → R) → (Q → R) → R
either-way true P Q p R first second = first p
either-way false P Q q R first second = second q

module _ {D St : Type 0} (g : Ghosts D St) where
  -- The top's file.
  abbrev image : Moment D St → StorageState
  image m = g.image m.now.drivers.0

  -- ---- One call.

  -- The call is made, or it isn't.
  by-case : (P : Moment D St → Type 0) (call : Call) (answer : Answer) (old new : Moment D St) → ListStep g call answer old new
      → P old → (Made g call answer old new → P new) → P new
  by-case P call answer old new goes none made =
      either-way (is_out_of_place (is_some old.now.kept_mapping) call) _ _ goes (P new) (λ out. subst P (sym out.1) none) made

  later-one : (call : Call) (answer : Answer) (old new : Moment D St) → ListStep g call answer old new → IsLater (image old) (image new)
  later-one call answer old new goes =
      by-case (λ m. IsLater (image old) (image m)) call answer old new goes (is_later_same (image old)) (λ made. made.counts_not_fallen)

  fixed-one : (call : Call) (answer : Answer) (old new : Moment D St) → ListStep g call answer old new
      → (g.layer new.now.drivers.0).fixed ≡ (g.layer old.now.drivers.0).fixed
  fixed-one call answer old new goes =
      by-case (λ m. (g.layer m.now.drivers.0).fixed ≡ (g.layer old.now.drivers.0).fixed) call answer old new goes refl (λ made. made.fixed)

  none-passes : (P : List ℕ → Type 0) (a : StorageState) → UnrefusedCrashImages P a a
  none-passes P a no_change_refused = (λ step. step, no_stops P a a refl refl)

  -- A crash image that the call may leave, which is consistent.
  abbrev LeavesOne : Call → Answer → Moment D St → Moment D St → List ℕ → Type 0
  LeavesOne call answer old new f = CallStops g call answer old new f × g.sound (g.layer old.now.drivers.0).fixed.kind f

  -- The crash images of a commit to the layer below: those of its first flush, and those after the layer below was written.
  commit-late : (answer : Answer) (old new : Moment D St) (images : CommitCrashImages g answer old new)
      → g.layer images.course.mid.0 ≡ g.layer old.now.drivers.0
      → UnrefusedCrashImages (LeavesOne calls.CommitDown answer old new) (image old) (image new)
  commit-late answer old new images same =
      let P = LeavesOne calls.CommitDown answer old new in
      let course = images.course in
      let moments = course.moments in
      let flushed = g.image course.flushed in
      let mid = g.image course.mid.0 in
      let kept = moments.top_kept.0 in
      let later = (kept_later (files g course.flushed) (files g course.mid.0) moments.top_kept).0 in
      let first = passes_weaker (IsLeftBy g calls.CommitDown old) P (image old) flushed (λ f left. (inl left, left.is_sound))
      images.flush in
      let between = passes_none P flushed mid kept.0.shape (kept.0.crash_image, kept.0.past_crash_images, kept.0.bytes, kept.0.refusals) in
      let last = passes_weaker (IsPairAbove g old.now.drivers course.mid) P mid (image new)
      (λ f pair. (
        inr (refl, record { course = course; pair = pair }),
        subst (λ (l : Layer). g.sound l.fixed.kind f) same pair.left.is_sound,
      )) moments.top in
      passes_both P P P (image old) flushed (image new) moments.counts_before
      (is_later_both flushed mid (image new) later moments.counts_after) (λ f p. p) (λ _ f p. p) first
      (passes_both P P P flushed mid (image new) later moments.counts_after (λ f p. p) (λ _ f p. p) between last)

  some-or-none : (o : Option Fault) → (o ≡ None) ⊎ (is_some o ≡ true)
  some-or-none None = inl refl
  some-or-none (Some fault) = inr refl

  passes-made : (call : Call) (answer : Answer) (old new : Moment D St) → GoesOn answer → Made g call answer old new
      → UnrefusedCrashImages (LeavesOne call answer old new) (image old) (image new)
  passes-made calls.CommitDown answer old new on made = elim (some-or-none (refusal_at_once g calls.CommitDown old.now)) [
    | inl late ↦ commit-late answer old new made.crash_images (made.crash_images.course.flushes_first late on).same
    | inr early ↦ passes_on (LeavesOne calls.CommitDown answer old new) (image old) (image old) (image new)
        (made.untouched (inr early)).0.unasked.0 (none-passes (LeavesOne calls.CommitDown answer old new) (image old))
  ]
  passes-made call answer old new on made =
      passes_weaker (IsLeftBy g call old) (LeavesOne call answer old new) (image old) (image new) (λ f left. (inl left, left.is_sound))
      made.crash_images

  passes-one : (call : Call) (answer : Answer) (old new : Moment D St) → GoesOn answer → ListStep g call answer old new
      → UnrefusedCrashImages (LeavesOne call answer old new) (image old) (image new)
  passes-one call answer old new on goes =
      by-case (λ m. UnrefusedCrashImages (LeavesOne call answer old m) (image old) (image m)) call answer old new goes
      (none-passes (LeavesOne call answer old old) (image old)) (λ made. passes-made call answer old new on made)

  -- ---- A list of calls.

  pub later-run : (list : List Call) (answers : List Answer) (old new : Moment D St) → Run g list answers old new → IsLater (image old) (image new)
  later-run [] [] old new same = subst (λ (m : Moment D St). IsLater (image old) (image m)) (sym same) (is_later_same (image old))
  later-run (call ∷ list) (answer ∷ answers) old new run =
      is_later_both (image old) (image run.0) (image new) (later-one call answer old run.0 run.1) run.3
  later-run [] (answer ∷ answers) old new run = absurd run
  later-run (call ∷ list) [] old new run = absurd run

  -- A crash image, which is consistent.
  abbrev Leaves : List Call → List Answer → Moment D St → List ℕ → Type 0
  Leaves list answers old f = IsLeftIn g list answers old f × g.sound (g.layer old.now.drivers.0).fixed.kind f

  left-first : (call : Call) (list : List Call) (answer : Answer) (answers : List Answer) (old mid : Moment D St)
      → ListStep g call answer old mid → (f : List ℕ) → LeavesOne call answer old mid f → Leaves (call ∷ list) (answer ∷ answers) old f
  left-first call list answer answers old mid goes f left = (
    record {
      before = zero;
      call = call;
      entry = old;
      answer = answer;
      end = mid;
      is_call = refl;
      is_answer = refl;
      run = refl;
      step = goes;
      left = left.0;
    },
    left.1,
  )

  left-later : (call : Call) (list : List Call) (answer : Answer) (answers : List Answer) (old mid : Moment D St) → ListStep g call answer old mid
      → (f : List ℕ) → Leaves list answers mid f → Leaves (call ∷ list) (answer ∷ answers) old f
  left-later call list answer answers old mid goes f left = (
    record {
      before = suc left.0.before;
      call = left.0.call;
      entry = left.0.entry;
      answer = left.0.answer;
      end = left.0.end;
      is_call = left.0.is_call;
      is_answer = left.0.is_answer;
      step = left.0.step;
      run = (
        mid,
        goes,
        (λ _. left.0.run),
        later-run (take left.0.before list) (take left.0.before answers) mid left.0.entry left.0.run,
      );
      left = left.0.left;
    },
    subst (λ (x : Fixed). g.sound x.kind f) (fixed-one call answer old mid goes) left.1,
  )

  passes-run : (list : List Call) (answers : List Answer) (old new : Moment D St) → AllGoOn answers → Run g list answers old new
      → UnrefusedCrashImages (Leaves list answers old) (image old) (image new)
  passes-run [] [] old new on same =
      subst (λ (m : Moment D St). UnrefusedCrashImages (Leaves [] [] old) (image old) (image m)) (sym same) (none-passes (Leaves [] [] old) (image old))
  passes-run (call ∷ list) (answer ∷ answers) old new on run =
      let mid = run.0 in
      passes_both (LeavesOne call answer old mid) (Leaves list answers mid) (Leaves (call ∷ list) (answer ∷ answers) old)
      (image old) (image mid) (image new) (later-one call answer old mid run.1) run.3
      (left-first call list answer answers old mid run.1) (λ _. left-later call list answer answers old mid run.1)
      (passes-one call answer old mid on.0 run.1) (passes-run list answers mid new on.1 (run.2 on.0))
  passes-run [] (answer ∷ answers) old new on run = absurd run
  passes-run (call ∷ list) [] old new on run = absurd run

  -- The mapping that is kept at the end is abandoned without a request.
  ended : (kept : Option (PreparedDataMapping St)) (drivers new : D × List D)
      → MatchOption kept (new ≡ drivers) (λ m. ChainCancels g m.state drivers new × (g.image new.0 ≡ g.image drivers.0)) → g.image new.0 ≡ g.image drivers.0
  ended None drivers new same = ap (λ (c : D × List D). g.image c.0) same
  ended (Some m) drivers new up = up.1

  -- Each crash image in the list.
  pub stops-told : (since : Since) (list : List Call) (answers : List Answer) (old new : D × List D) → GoesOnTelling g since list answers old new
      → EachCrashImageIn (Leaves list answers (moment (chain_with_mapping old None) since)) (g.image old.0) (g.image new.0)
  stops-told since list answers old new goes =
      let a = g.image old.0 in
      let b = g.image new.0 in
      let start = moment (chain_with_mapping old None) since in
      let t = goes.telling in
      let last = goes.driven.last in
      let same : b ≡ image last = ended last.now.kept_mapping last.now.drivers new (goes.driven.ends goes.on) in
      let passes : UnrefusedCrashImages (Leaves list answers start) a b =
      subst (λ (s : StorageState). UnrefusedCrashImages (Leaves list answers start) a s) (sym same) (passes-run list answers start last goes.on goes.driven.run) in
      let refusals = (goes.driven.faults goes.on).1 in
      let no_change_refused : HasRisen a.refusals b.refusals → ⊥ = λ r. omega (arith, refusals, r.rose (omega (arith, refusals, t.room))) in
      (passes no_change_refused).1 (λ _ _. (t.stands t.tells t.keeps t.room).0) t.tells t.keeps

  -- ---- The crash images in their order.

  -- The crash images of one call, and the preconditions of the next one.
  abbrev Tells : Call → Answer → Moment D St → Moment D St → Type 0
  Tells call answer old m = EachCrashImageIn (CallStops g call answer old m) (image old) (image m)
      × (CrashImageIsBytes (image old) → CrashImageIsBytes (image m)) × ((image m).refusals ≡ (image old).refusals)

  tells-one : (call : Call) (answer : Answer) (old new : Moment D St) → GoesOn answer → CrashImageIsBytes (image old)
      → IsTrue (image old).shape.tells → IsTrue (image old).shape.keeps → (image old).refusals + 1 < 2 ^ 64 → ListStep g call answer old new
      → Tells call answer old new
  tells-one call answer old new on step tells keeps room goes =
      by-case (Tells call answer old) call answer old new goes
      (no_stops (CallStops g call answer old old) (image old) (image old) refl refl step tells keeps, (λ is_clean. is_clean), refl)
      (λ made.
      let no_change_refused = made.faults on in
      let passes = passes-made call answer old new on made
      (λ r. omega (arith, no_change_refused.1, r.rose (omega (arith, no_change_refused.1, room)))) in (
        stops-in (LeavesOne call answer old new) (CallStops g call answer old new) (image old) (image new) (λ f left. left.0)
            (passes.1 step tells keeps),
        passes.0,
        no_change_refused.1,
      ))

  tells-run : (list : List Call) (answers : List Answer) (old new : Moment D St) → AllGoOn answers → CrashImageIsBytes (image old)
      → IsTrue (image old).shape.tells → IsTrue (image old).shape.keeps → (image old).refusals + 1 < 2 ^ 64 → Run g list answers old new → TellsRun g list answers old new
  tells-run [] [] old new on step tells keeps room same = same
  tells-run (call ∷ list) (answer ∷ answers) old new on step tells keeps room run =
      let mid = run.0 in
      let one = tells-one call answer old mid on.0 step tells keeps room run.1 in
      let shape = (later-one call answer old mid run.1).0 in (
        mid,
        run.1,
        one.0,
        tells-run list answers mid new on.1 (one.1 step) (subst (λ (s : Shape). IsTrue s.tells) (sym shape) tells)
            (subst (λ (s : Shape). IsTrue s.keeps) (sym shape) keeps) (omega (arith, one.2, room)) (run.2 on.0),
      )
  tells-run [] (answer ∷ answers) old new on step tells keeps room run = absurd run
  tells-run (call ∷ list) [] old new on step tells keeps room run = absurd run

  pub in-order : (since : Since) (list : List Call) (answers : List Answer) (old new : D × List D) → GoesOnTelling g since list answers old new
      → TellsAll g list answers (moment (chain_with_mapping old None) since) new
  in-order since list answers old new goes =
      let t = goes.telling in
      let last = goes.driven.last in (
        last,
        tells-run list answers (moment (chain_with_mapping old None) since) last goes.on (λ _ _. (t.stands t.tells t.keeps t.room).0) t.tells t.keeps t.room
            goes.driven.run,
        ended last.now.kept_mapping last.now.drivers new (goes.driven.ends goes.on),
      )
