-- One call of a chain, and a list of them, as calls of one flat disk.
use Rattle.std.proofs.Common.{◌≡◌, ◌⊎◌, ◌∙◌, ◌∷◌, [], ℕ, List, ap, arith, inr, refl, subst, sym}
use Rattle.std.specs.Prelude.{Bool, IsFalse, IsTrue, None, Option, Some, drop, false, if◌then◌else◌, is_some, map, true}
use Rattle.std.proofs.lemmas.Bool.{eq-eqb}
use Rattle.std.proofs.lemmas.List.Elements.{All-weaker}
use Rattle.imago_storage.specs.Causes.{PartlyDone}
use Rattle.imago_storage.specs.Disk.{Value, byte}
use Rattle.imago_storage.specs.Passing.{UnrefusedCrashImages}
use Rattle.imago_storage.specs.State.{Shape}
use Rattle.imago_storage.specs.Steps.{Call as DiskCall, Stays, Step}
use Rattle.imago_storage.specs.declared.fault.Fault.{Fault}
use Rattle.imago_access.specs.Chain.{at}
use Rattle.imago_access.specs.ChainCalls.{ChainPartly}
use Rattle.imago_access.specs.Files.{IsLater, Pairs, UnchangedButMoreFaults as IsKeptFile, files_of}
use Rattle.imago_access.specs.Layer.{Fixed, Layer, unmapped}
use Rattle.imago_access.specs.Layers.{chain}
use Rattle.imago_access.specs.Refusals.{unusable_fault}
use Rattle.imago_access.specs.Running.{below_of, chain_disk}
use Rattle.imago_access.specs.Spending.{IsMine, is_own}
use Rattle.imago_access.specs.declared.driver_model.DriverModel.{Ghosts}
use Rattle.imago_access.specs.declared.mapping.PreparedDataMapping.{PreparedDataMapping}
use Rattle.qimg_calls.specs.Calls.{Either, Fits, GoesOn, WasDone, commits_down, is_out_of_place}
use Rattle.qimg_calls.specs.CommittingDown.{commit_call_refusal, takes_commits}
use Rattle.qimg_calls.specs.Held.{ChainWithMapping, IsReady, MappingIsPrepared, call_as, disk_call, state_of}
use Rattle.qimg_calls.specs.Moves.{CallEffect, Leaves, refusal_at_once}
use Rattle.qimg_calls.specs.Runs.{AllGoOn, CommitCrashImages, IfTelling, IsLeftBy, ListStep, Made, Moment, Run, reading_of}
use Rattle.qimg_calls.specs.Since.{LeftSince, Since, begun, since_next}
use Rattle.qimg_calls.specs.declared.call.Answer.{Answer}
use Rattle.qimg_calls.specs.declared.call.Answer.TheVariants as told
use Rattle.qimg_calls.specs.declared.call.Call.{Call}
use Rattle.qimg_calls.specs.declared.call.Call.TheVariants as calls
use Rattle.qimg_chain.specs.Sessions.{next_image}
use Rattle.qimg_chain.specs.FileMeanings.{FileBytes}
use Rattle.qimg_chain.specs.OneDisk.{CommitsInto, HasEffect, IsUntouched, KeepsOrEnds, NextKept, OneCall, OneCallStops, OneStep}
use Rattle.qimg_chain.specs.OneDisk.{RunsOnDisk, TakesDisk, changes_range, is_prepared, over_values, reading_over}
use Rattle.qimg_chain.proofs.Sessions.Committed.{KeepsFixed, ReadsNext, backed-known, begun-takes, fixed-both, fixed-kept, fixed-same}
use Rattle.qimg_chain.proofs.Sessions.Committed.{into, reads-later, takes-since, unrisen}
use Rattle.qimg_chain.proofs.Sessions.Moments.{flat, kept_of}
use Rattle.qimg_chain.proofs.Sessions.Readings.{IsReadAs, IsStanding, left-as, reading_with}

some-kept : {St : Type 0} (kept : Option (PreparedDataMapping St)) → is_some (kept_of kept) ≡ is_some kept
some-kept None = refl
some-kept (Some m) = refl

prepared-so : {St : Type 0} (kept : Option (PreparedDataMapping St)) → is_some (state_of kept) ≡ is_prepared (kept_of kept)
prepared-so None = refl
prepared-so (Some m) = refl

either-map : (b : Bool) (P Q R S : Type 0) → (P → R) → (Q → S) → Either b P Q → Either b R S
either-map true P Q R S first second p = first p
either-map false P Q R S first second q = second q

same-either : (b : Bool) (P : Type 0) → Either b P P → P
same-either true P p = p
same-either false P p = p

-- A call with an early error isn't done.
refused-then : (o : Option Fault) (answer : Answer) → ((f : Fault) → o ≡ Some f → answer ≡ told.Refused f) → is_some o ≡ true → WasDone answer → ⊥
refused-then None answer says some done = absurd (cc some)
refused-then (Some f) answer says some done = subst WasDone (says f refl) done

-- A call by whether it is a commit to the layer below.
either-by : (b : Bool) (P Q R S : Type 0) → (b ≡ true → P → R) → (b ≡ false → Q → S) → Either b P Q → Either b R S
either-by true P Q R S first second p = first refl p
either-by false P Q R S first second q = second refl q

none-of : (o : Option Fault) → is_some o ≡ false → o ≡ None
none-of None is = refl
none-of (Some fault) is = absurd (cc is)

module _ {D St : Type 0} (g : Ghosts D St) where
  -- ---- The call and its effect.

  -- A prepared mapping was prepared under the top's number.
  own-so : (state : Option St) (layer : Layer) → IsMine g state layer → is_own g.tag state layer ≡ is_some state
  own-so None layer mine = refl
  own-so (Some s) layer mine = eq-eqb (g.tag s) layer.fixed.number mine.0

  same-call : (h : ChainWithMapping D St) (call : Call) → MappingIsPrepared g h
      → disk_call g h call ≡ call_as (is_prepared (kept_of h.kept_mapping)) (is_prepared (kept_of h.kept_mapping)) call
  same-call h call is =
      ap (λ own. call_as (is_some (state_of h.kept_mapping)) own call) (own-so (state_of h.kept_mapping) (g.layer h.drivers.0) is.mine)
      ∙ ap (λ b. call_as b b call) (prepared-so h.kept_mapping)

  -- The disk after a call that failed.
  partly-so : (below : ℕ → Value) (does : DiskCall) (old new : ChainWithMapping D St) → below_of g.layer old.drivers ≡ below
      → ChainPartly g does old.drivers new.drivers → PartlyDone below does (chain_disk g.layer old.drivers) (chain_disk g.layer new.drivers)
  partly-so below does old new same left = subst (λ v. PartlyDone v does (chain_disk g.layer old.drivers) (chain_disk g.layer new.drivers)) same left

  leaves-so : (below : ℕ → Value) (b : Bool) (call : Call) (old new : ChainWithMapping D St) → below_of g.layer old.drivers ≡ below
      → unusable_fault (g.layer old.drivers.0) ≡ None → Leaves g call old new
      → Either (changes_range call) (PartlyDone below (call_as b b call) (chain_disk g.layer old.drivers) (chain_disk g.layer new.drivers))
      (Stays (chain_disk g.layer old.drivers) (chain_disk g.layer new.drivers))
  leaves-so below b (calls.Write offset bytes) old new same usable left = partly-so below (call_as b b (calls.Write offset bytes)) old new same left
  leaves-so below b (calls.WriteZeroes offset n) old new same usable left = partly-so below (call_as b b (calls.WriteZeroes offset n)) old new same left
  leaves-so below b (calls.DiscardToZero offset n) old new same usable left = partly-so below (call_as b b (calls.DiscardToZero offset n)) old new same left
  leaves-so below b (calls.DiscardToAny offset n) old new same usable left = partly-so below (call_as b b (calls.DiscardToAny offset n)) old new same left
  leaves-so below b (calls.DiscardToBacking offset n) old new same usable left = partly-so below (call_as b b (calls.DiscardToBacking offset n)) old new same left
  leaves-so below b (calls.Read offset n) old new same usable left = left.1
  leaves-so below b (calls.GetMapping offset n) old new same usable left = left.1
  leaves-so below b (calls.GetShallowMapping offset n) old new same usable left = left.1
  leaves-so below b (calls.WriteMapped guest place bytes) old new same usable left = left.1
  leaves-so below b calls.Flush old new same usable left = left usable
  leaves-so below b calls.Sync old new same usable left = left usable
  leaves-so below b call old new same usable left = left

  -- The effect on the disk.
  effect-so : (below : ℕ → Value) (b : Bool) (call : Call) (answer : Answer) (old new : ChainWithMapping D St)
      → below_of g.layer old.drivers ≡ below → disk_call g old call ≡ call_as b b call → unusable_fault (g.layer old.drivers.0) ≡ None
      → CallEffect g call answer old new → HasEffect below b call answer (chain_disk g.layer old.drivers) (chain_disk g.layer new.drivers)
  effect-so below b call (told.Refused fault) old new same does usable moves =
      λ fine. leaves-so below b call old new same usable (moves.1 fine).0
  effect-so below b call answer old new same does usable moves = (
    moves.0.0,
    moves.0.1,
    subst (λ v. Step v (chain_disk g.layer old.drivers) (call_as b b call) moves.0.0 (chain_disk g.layer new.drivers)) same
        (subst (λ (c : DiskCall). Step (below_of g.layer old.drivers) (chain_disk g.layer old.drivers) c moves.0.0 (chain_disk g.layer new.drivers)) does
        moves.0.2),
  )

  -- The kept mapping.
  kept-so : (call : Call) (answer : Answer) (old new : ChainWithMapping D St) → CallEffect g call answer old new
      → KeepsOrEnds call answer (kept_of old.kept_mapping) (kept_of new.kept_mapping)
  kept-so (calls.PrepareDataMapping offset n overwrite) (told.Prepared storage place count state) old new moves =
      ap kept_of moves.1.1 ∙ ap (λ b. Some b) moves.1.2.state_is
  kept-so calls.CommitDataMapping told.Done old new moves = ap kept_of moves.1
  kept-so calls.Cancel told.Done old new moves = ap kept_of moves.1
  kept-so call (told.Refused fault) old new moves = λ fine. ap kept_of (moves.1 fine).1
  kept-so call answer old new moves = ap kept_of moves.1

  -- ---- A commit to the layer below.

  late-commit : (call : Call) (h : ChainWithMapping D St) → commits_down call ≡ true → refusal_at_once g call h ≡ None
      → commit_call_refusal (g.layer h.drivers.0) (map g.layer h.drivers.1) ≡ None
  late-commit calls.CommitDown h is late = late
  late-commit call h is late = absurd (cc is)

  -- After a successful commit the layers below read as the disk.
  taken-so : (call : Call) (answer : Answer) (old new : ChainWithMapping D St) → commits_down call ≡ true → Fits call answer
      → WasDone answer
      → CallEffect g call answer old new
      → TakesDisk (chain_disk g.layer old.drivers) (below_of g.layer old.drivers) (below_of g.layer new.drivers)
  taken-so calls.CommitDown told.Done old new is fits done moves = let below = moves.0.3.below in
      record { taken = below.taken; rest = below.rest }
  taken-so calls.CommitDown (told.Refused fault) old new is fits done moves = absurd done
  taken-so calls.CommitDown answer old new is fits done moves = absurd fits
  taken-so call answer old new is fits done moves = absurd (cc is)

  -- The top's file is read over the layers below as they are after the call.
  over-new : (b : Bool) (old : D × List D) (news : List D) → (IsFalse b → map g.layer news ≡ map g.layer old.1)
      → (since : Since) (f : List ℕ)
      → LeftSince (reading_of g (if b then (old.0, news) else old)) since f
      → LeftSince (reading_with g.sound (g.layer old.0).fixed (at (map g.layer news)) ((g.layer old.0).fixed.means
      (g.image old.0).bytes).backed) since f
  over-new true old news same since f left = left
  over-new false old news same since f left =
      subst (λ (layers : List Layer). LeftSince (reading_with g.sound (g.layer old.0).fixed (at layers)
      ((g.layer old.0).fixed.means (g.image old.0).bytes).backed) since f) (sym (same refl)) left

  -- ---- The chain since it was opened.

  -- The drivers at a moment of a list without a resource error. The top and the next layer have the fixed properties that they had at
  -- opening, and the layers from the third on are the same. The top's file refers to a backing file exactly if `file` does, the top's file
  -- at opening. The next call has its preconditions.
  pub record IsSinceOpened (opened : D × List D) (file : FileBytes) (m : Moment D St) : Type 0 where
    pub fixed : (g.layer m.now.drivers.0).fixed ≡ (g.layer opened.0).fixed
    pub next_fixed : KeepsFixed g opened.1 m.now.drivers.1
    pub deeper : map g.layer (drop 1 m.now.drivers.1) ≡ map g.layer (drop 1 opened.1)
    pub stands : IfTelling (g.image m.now.drivers.0) (IsStanding (g.layer m.now.drivers.0).fixed file (g.image m.now.drivers.0))
    pub ready : IsReady g m.now.drivers
    pub prepared : MappingIsPrepared g m.now

  module _ (opened : D × List D) (file : FileBytes) (files : List FileBytes) (is_read : IsReadAs g.sound (g.layer opened.0).fixed file)
      (reads_next : takes_commits (map g.layer (chain opened)) ≡ true → ReadsNext g opened.1 files) where
    read-now : (m : Moment D St) → IsSinceOpened opened file m → IsReadAs g.sound (g.layer m.now.drivers.0).fixed file
    read-now m alike = subst (λ (x : Fixed). IsReadAs g.sound x file) (sym alike.fixed) is_read

    known-now : (m : Moment D St) → IsReady g m.now.drivers
        → (p : ℕ) → ((g.layer m.now.drivers.0).fixed.blank ≡ unmapped) ⊎ (at (map g.layer m.now.drivers.1) p ≡ byte 0)
    known-now m ready = backed-known (map g.layer m.now.drivers.1) (g.layer m.now.drivers.0) ready.intact.backed

    -- ---- The layers below.

    next-kept : (olds news : List D) → map g.layer news ≡ map g.layer olds → Pairs IsKeptFile (files_of g olds) (files_of g news)
        → NextKept (next_image g olds) (next_image g news)
    next-kept [] [] same pairs = refl
    next-kept [] (d ∷ ds) same pairs = absurd (cc same)
    next-kept (old ∷ olds) [] same pairs = absurd (cc same)
    next-kept (old ∷ olds) (d ∷ ds) same pairs = (g.image d, refl, pairs.0)

    untouched : (call : Call) (answer : Answer) (old new : Moment D St) → Made g call answer old new
        → is_some (refusal_at_once g call old.now) ≡ true → IsUntouched answer (flat g old) (flat g new)
    untouched call answer old new made early =
        let same = made.untouched (inr early) in record {
          refused = refused-then (refusal_at_once g call old.now) answer made.early_outcome early;
          below = ap (λ ds. at (map g.layer ds)) same.1;
          top = same.0.unasked.0;
          next = ap (next_image g) same.1;
        }

    -- The next layer keeps its fixed properties.
    next-fixed : (call : Call) (answer : Answer) (old new : Moment D St) → Made g call answer old new → GoesOn answer
        → KeepsFixed g old.now.drivers.1 new.now.drivers.1
    next-fixed call answer old new made on =
        let kept = either-by (commits_down call) (CommitCrashImages g answer old new)
        (UnrefusedCrashImages (IsLeftBy g call old) (g.image old.now.drivers.0) (g.image new.now.drivers.0))
        (KeepsFixed g old.now.drivers.1 new.now.drivers.1) (KeepsFixed g old.now.drivers.1 new.now.drivers.1)
        (λ is images. let moments = images.course.moments in subst (KeepsFixed g old.now.drivers.1) (sym moments.below_kept)
        (fixed-kept g old.now.drivers.1 images.course.mid.1 moments.order.keeps_layer_state))
        (λ none images. fixed-same g old.now.drivers.1 new.now.drivers.1 (made.below none on)) made.crash_images in
        same-either (commits_down call) (KeepsFixed g old.now.drivers.1 new.now.drivers.1) kept

    -- ---- One call.

    crash-images : (call : Call) (old new : Moment D St) → IsSinceOpened opened file old
        → IsLater (g.image old.now.drivers.0) (g.image new.now.drivers.0)
        → UnrefusedCrashImages (IsLeftBy g call old) (g.image old.now.drivers.0) (g.image new.now.drivers.0)
        → UnrefusedCrashImages (LeftSince (over_values (reading_over file files) (below_of g.layer old.now.drivers))
        (begun old.since (chain_disk g.layer old.now.drivers) (disk_call g old.now call))) (g.image old.now.drivers.0) (g.image new.now.drivers.0)
    crash-images call old new alike later images no_change_refused =
        let a = g.image old.now.drivers.0 in
        let b = g.image new.now.drivers.0 in
        let since = begun old.since (chain_disk g.layer old.now.drivers) (disk_call g old.now call) in
        let x = (g.layer old.now.drivers.0).fixed in
        let values = below_of g.layer old.now.drivers in
        let one = images no_change_refused in
        let room = unrisen a.refusals b.refusals later.1.refusals no_change_refused in (
          one.0,
          λ step tells keeps. let stops = one.1 step tells keeps in record {
            files = stops.files;
            told = stops.told;
            each = All-weaker (IsLeftBy g call old) (LeftSince (over_values (reading_over file files) values) since)
                (left-as g.sound x file (read-now old alike) files values (known-now old alike.ready) (x.means a.bytes).backed
                (alike.stands tells keeps room).backed since) stops.files stops.each;
          },
        )

    commit-images : (call : Call) (answer : Answer) (old new : Moment D St) → IsSinceOpened opened file old → commits_down call ≡ true
        → refusal_at_once g call old.now ≡ None → CommitCrashImages g answer old new → CommitsInto file files (flat g old) (flat g new)
    commit-images call answer old new alike is late images =
        let none = late-commit call old.now is late in
        let takes = sym (takes-since g opened.0 old.now.drivers.0 opened.1 old.now.drivers.1 alike.fixed alike.next_fixed)
        ∙ begun-takes (g.layer old.now.drivers.0) (map g.layer old.now.drivers.1) none in
        into g file answer old new (read-now old alike) alike.stands alike.ready images old.now.drivers.1 new.now.drivers.1 files refl refl
        (reads-later g opened.1 old.now.drivers.1 files alike.next_fixed alike.deeper (reads_next takes)) none

    stops-so : (call : Call) (answer : Answer) (old new : Moment D St) → IsSinceOpened opened file old → Made g call answer old new
        → is_some (refusal_at_once g call old.now) ≡ false → OneCallStops file files call (flat g old) (flat g new)
    stops-so call answer old new alike made late =
        let does = call_as (is_prepared (kept_of old.now.kept_mapping)) (is_prepared (kept_of old.now.kept_mapping)) call in
        either-by (commits_down call) (CommitCrashImages g answer old new)
        (UnrefusedCrashImages (IsLeftBy g call old) (g.image old.now.drivers.0) (g.image new.now.drivers.0))
        (CommitsInto file files (flat g old) (flat g new))
        (UnrefusedCrashImages (LeftSince (over_values (reading_over file files) (below_of g.layer old.now.drivers))
        (begun old.since (chain_disk g.layer old.now.drivers) does)) (g.image old.now.drivers.0) (g.image new.now.drivers.0))
        (λ is images. commit-images call answer old new alike is (none-of (refusal_at_once g call old.now) late) images)
        (λ none images. subst (λ (c : DiskCall). UnrefusedCrashImages (LeftSince (over_values (reading_over file files)
        (below_of g.layer old.now.drivers))
        (begun old.since (chain_disk g.layer old.now.drivers) c)) (g.image old.now.drivers.0) (g.image new.now.drivers.0))
        (same-call old.now call alike.prepared) (crash-images call old new alike made.counts_not_fallen images)) made.crash_images

    -- The file right after a call, read as the old top's file over the layers below as they are.
    file-after : (call : Call) (answer : Answer) (old new : Moment D St) → Made g call answer old new → GoesOn answer
        → let s = g.image new.now.drivers.0 in let x = (g.layer old.now.drivers.0).fixed in IfTelling s ((s.crash_image ≡ s.bytes)
        × LeftSince (reading_with g.sound x (below_of g.layer new.now.drivers) (x.means
        (g.image old.now.drivers.0).bytes).backed) new.since s.bytes)
    file-after call answer old new made on tells keeps room =
        let now = made.file_now on tells keeps room in (
          now.0,
          over-new (commits_down call) old.now.drivers new.now.drivers.1 (λ none. made.below none on) new.since
              (g.image new.now.drivers.0).bytes now.1,
        )

    -- A storage that exposes its crash images after a call did so before it.
    stood-before : (call : Call) (answer : Answer) (old new : Moment D St) → IsSinceOpened opened file old → Made g call answer old new
        → IfTelling (g.image new.now.drivers.0) (IsStanding (g.layer old.now.drivers.0).fixed file (g.image old.now.drivers.0))
    stood-before call answer old new alike made tells keeps room =
        let later = made.counts_not_fallen in
        alike.stands (subst (λ (x : Shape). IsTrue x.tells) later.0 tells) (subst (λ (x : Shape). IsTrue x.keeps) later.0 keeps)
        (omega (arith, room, later.1.refusals))

    next : (call : Call) (answer : Answer) (old new : Moment D St) → IsSinceOpened opened file old → Made g call answer old new
        → GoesOn answer
        → IsSinceOpened opened file new
    next call answer old new alike made on = record {
      fixed = made.fixed ∙ alike.fixed;
      next_fixed = fixed-both g opened.1 old.now.drivers.1 new.now.drivers.1 alike.next_fixed (next-fixed call answer old new made on);
      deeper = made.deeper_layers on ∙ alike.deeper;
      stands = λ tells keeps room.
          let s = g.image new.now.drivers.0 in
          let was = stood-before call answer old new alike made tells keeps room in
          let now = file-after call answer old new made on tells keeps room in
          subst (λ (x : Fixed). IsStanding x file s) (sym made.fixed) (record {
            told = now.0;
            is_sound = (read-now old alike).is_sound s.bytes now.1.is_sound;
            backed = now.1.reads.backed ∙ was.backed;
          });
      ready = made.ready on;
      prepared = made.mapping_prepared;
    }

    file-now : (call : Call) (answer : Answer) (old new : Moment D St) → IsSinceOpened opened file old → Made g call answer old new
        → GoesOn answer
        → let s = g.image new.now.drivers.0 in IfTelling s
        ((s.crash_image ≡ s.bytes) × LeftSince (over_values (reading_over file files) (below_of g.layer new.now.drivers)) new.since s.bytes)
    file-now call answer old new alike made on tells keeps room =
        let s = g.image new.now.drivers.0 in
        let x = (g.layer old.now.drivers.0).fixed in
        let now = file-after call answer old new made on tells keeps room in (
          now.0,
          left-as g.sound x file (read-now old alike) files (below_of g.layer new.now.drivers)
              (subst (λ (y : Fixed). (p : ℕ) → (y.blank ≡ unmapped) ⊎ (at (map g.layer new.now.drivers.1) p ≡ byte 0)) made.fixed
              (known-now new (made.ready on)))
              (x.means (g.image old.now.drivers.0).bytes).backed (stood-before call answer old new alike made tells keeps room).backed
              new.since s.bytes now.1,
        )

    one-call : (call : Call) (answer : Answer) (old new : Moment D St) → IsSinceOpened opened file old → Made g call answer old new
        → OneCall file files call answer (flat g old) (flat g new)
    one-call call answer old new alike made =
        let b = is_prepared (kept_of old.now.kept_mapping) in
        let early = is_some (refusal_at_once g call old.now) in
        let does = same-call old.now call alike.prepared in
        let disk = chain_disk g.layer old.now.drivers in
        record {
          early = early;
          untouched = untouched call answer old new made;
          fits = made.fits;
          effect = effect-so (below_of g.layer old.now.drivers) b call answer old.now new.now refl does alike.ready.usable.0 made.moves;
          kept = kept-so call answer old.now new.now made.moves;
          since = made.since
              ∙ ap (λ t. since_next call answer t early old.since disk (disk_call g old.now call) (chain_disk g.layer new.now.drivers))
              (prepared-so old.now.kept_mapping)
              ∙ ap (λ c. since_next call answer b early old.since disk c (chain_disk g.layer new.now.drivers)) does;
          crash_images = stops-so call answer old new alike made;
          below_kept = λ none on. (
            ap (λ (layers : List Layer). at layers) (made.below none on),
            next-kept old.now.drivers.1 new.now.drivers.1 (made.below none on) (made.files none),
          );
          below_taken = λ is done. taken-so call answer old.now new.now is made.fits done made.moves;
          counts_not_fallen = made.counts_not_fallen;
          faults = made.faults;
          file_now = file-now call answer old new alike made;
        }

    -- ---- A list of calls.

    one-step : (call : Call) (answer : Answer) (old new : Moment D St) → IsSinceOpened opened file old → ListStep g call answer old new
        → OneStep file files call answer (flat g old) (flat g new)
    one-step call answer old new alike goes =
        rw (some-kept old.now.kept_mapping)
        (either-map (is_out_of_place (is_some old.now.kept_mapping) call) _ _ _ _ (λ out. (out.0, ap (flat g) out.1)) (one-call call answer old new alike) goes)

    as-next : (call : Call) (answer : Answer) (old new : Moment D St) → IsSinceOpened opened file old
        → ListStep g call answer old new → GoesOn answer
        → IsSinceOpened opened file new
    as-next call answer old new alike goes on =
        let way = either-map (is_out_of_place (is_some old.now.kept_mapping) call) _ _ (IsSinceOpened opened file new)
        (IsSinceOpened opened file new)
        (λ out. subst (IsSinceOpened opened file) (sym out.1) alike) (λ made. next call answer old new alike made on) goes in
        same-either (is_out_of_place (is_some old.now.kept_mapping) call) (IsSinceOpened opened file new) way

    pub runs : (list : List Call) (answers : List Answer) (old last : Moment D St) → IsSinceOpened opened file old
        → Run g list answers old last
        → RunsOnDisk file files list answers (flat g old) (flat g last)
    runs [] [] old last alike same = ap (flat g) same
    runs [] (answer ∷ answers) old last alike run = absurd run
    runs (call ∷ list) [] old last alike run = absurd run
    runs (call ∷ list) (answer ∷ answers) old last alike run = (
      flat g run.0,
      one-step call answer old run.0 alike run.1,
      λ on. runs list answers run.0 last (as-next call answer old run.0 alike run.1 on) (run.2 on),
    )

    pub last-as : (list : List Call) (answers : List Answer) (old last : Moment D St) → IsSinceOpened opened file old
        → Run g list answers old last
        → AllGoOn answers → IsSinceOpened opened file last
    last-as [] [] old last alike same on = subst (IsSinceOpened opened file) (sym same) alike
    last-as [] (answer ∷ answers) old last alike run on = absurd run
    last-as (call ∷ list) [] old last alike run on = absurd run
    last-as (call ∷ list) (answer ∷ answers) old last alike run on =
        last-as list answers run.0 last (as-next call answer old run.0 alike run.1 on.0) (run.2 on.0) on.1
