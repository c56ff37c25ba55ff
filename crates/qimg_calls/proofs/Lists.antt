-- The effect of a list of calls, from the outcome of each call.
use Rattle.std.proofs.lemmas.Bool.{cases_lt}
use Rattle.std.proofs.lemmas.List.Elements.{All-weaker}
use Rattle.std.proofs.Common.{◌≡◌, ◌⊎◌, inl, inr, ℕ, ◌+◌, ◌<◌, ◌≤◌, ◌^◌, ◌∷◌, ◌++◌, [], List, length, arith, refl, sym, subst, ap, ◌∙◌, true, false, suc}
use Rattle.std.specs.Prelude.{⊤, Bool, ◌||◌, Option, Some, None, drop, if◌then◌else◌, is_some, IsFalse, IsSome, IsTrue, map}
use Rattle.imago_storage.specs.State.{StorageState, CrashImageIsBytes, HasRisen}
use Rattle.imago_storage.specs.Passing.{UnrefusedCrashImages}
use Rattle.imago_storage.specs.Through.{EachCrashImageIn}
use Rattle.imago_storage.specs.Calls.{IsFaultless}
use Rattle.imago_storage.specs.Disk.{Disk}
use Rattle.imago_storage.specs.Steps.{Call as DiskCall, flush}
use Rattle.imago_storage.specs.declared.fault.Fault.{Fault}
use Rattle.imago_storage.specs.declared.fault.Fault.TheVariants.{Memory, MissingBelow, Storage, BadArgument}
use Rattle.imago_access.specs.declared.driver_model.DriverModel.{Ghosts}
use Rattle.imago_access.specs.Layer.{Fixed, IsFree, Layer}
use Rattle.imago_access.specs.Layers.{chain}
use Rattle.imago_access.specs.Chain.{at, disk_of, Each}
use Rattle.imago_access.specs.ChainCalls.{AllUnchanged}
use Rattle.imago_access.specs.Committing.{CommitMoments, FlushesFirst, IsCommittable, IsPairAbove}
use Rattle.imago_access.specs.Files.{IsLater, UnchangedButMoreFaults, files_of}
use Rattle.imago_access.specs.Running.{below_of, chain_disk, IsIntactChain}
use Rattle.imago_access.specs.Stops.{GivesNone, IsCovered, IsWritten, KeepsCrashImagesTo, Left, shown}
use Rattle.imago_access.proofs.FilePairs.{is_later_same, is_later_both, kept_all_same, kept_all_both}
use Rattle.imago_access.proofs.Stopping.{here}
use Rattle.qimg_calls.specs.declared.call.Call.{Call}
use Rattle.qimg_calls.specs.declared.call.Call.TheVariants as calls
use Rattle.qimg_calls.specs.declared.call.Answer.{Answer}
use Rattle.qimg_calls.specs.declared.call.Answer.TheVariants as told
use Rattle.qimg_calls.specs.Calls.{Either, GoesOn, any_commit, any_commit_down, any_repair, commits, commits_down, is_out_of_place, repairs}
use Rattle.qimg_calls.specs.CommittingDown.{CommitCourse, LeavesAfterCommit, MayBegin, StayClean, takes_commits}
use Rattle.qimg_calls.specs.Since.{Since, Begun, least_size, most_size, begun, at_size, flushed, since_next, LeftSince, IsSince}
use Rattle.qimg_calls.specs.Held.{ChainWithMapping, MappingIsPrepared, IsReady, disk_call, state_of}
use Rattle.qimg_calls.specs.Leading.{LeavesForNext}
use Rattle.qimg_calls.specs.Making.{CallOutcome, Answers, AnswersAll}
use Rattle.qimg_calls.specs.Moves.{refusal_at_once}
use Rattle.qimg_calls.specs.Runs.{Moment, moment, since_after, reading_of, CommitCrashImages, IsLeftBy, IsLeftNow, IfTelling, IsSameChain, HoldsSince, Made, MayCommit, ListStep, Run, AllGoOn}
use Rattle.qimg_calls.proofs.CommittedDown.{begun-takes}
use Rattle.qimg_calls.proofs.Leading.{fewer-stops, ready-rests}
use Rattle.qimg_calls.proofs.SameChains.{first-none, same-chain, same-chain-both, second-none}
use Rattle.qimg_calls.proofs.Stops.{reading, left-since, reads-before, since-on, since-flushed, since-read, through-same}

-- Decides if the answer is a resource error.
goes-on-or : (answer : Answer) → GoesOn answer ⊎ (GoesOn answer → ⊥)
goes-on-or (told.Refused Memory) = inr (λ on. on)
goes-on-or (told.Refused Storage) = inr (λ on. on)
goes-on-or (told.Refused fault) = inl tt
goes-on-or answer = inl tt

-- A count that hasn't risen is below its greatest value.
not-risen : (a b : ℕ) → a ≤ b → (HasRisen a b → ⊥) → b + 1 < 2 ^ 64
not-risen a b later no_change_refused = elim (cases_lt (b + 1) (2 ^ 64)) [
  | inl fits ↦ fits
  | inr full ↦ absurd (no_change_refused (record { not_fallen = later; rose = λ fits. omega (arith, fits, full) }))
]

-- An equal count below its greatest value hasn't risen.
calm-then : (a b : ℕ) → b ≡ a → b + 1 < 2 ^ 64 → HasRisen a b → ⊥
calm-then a b same room rose = omega (arith, same, rose.rose room)

-- After a call in which no change was refused, a storage that exposes its crash images still does.
pub telling-before : (a b : StorageState) (P : Type 0) → b.shape ≡ a.shape → b.refusals ≡ a.refusals → IfTelling a P → IfTelling b P
telling-before a b P shape same holds tells keeps room = holds (rw (sym shape) tells) (rw (sym shape) keeps) (omega (arith, same, room))

stops-in : (P Q : List ℕ → Type 0) (a b : StorageState) → ((f : List ℕ) → P f → Q f) → EachCrashImageIn P a b → EachCrashImageIn Q a b
stops-in P Q a b weaker stops = record { files = stops.files; told = stops.told; each = All-weaker P Q weaker stops.files stops.each }

pub either-cases : (b : Bool) (P Q : Type 0) → Either b P Q → ((b ≡ true) × P) ⊎ ((b ≡ false) × Q)
either-cases true P Q p = inl (refl, p)
either-cases false P Q q = inr (refl, q)

either-true : (b : Bool) (P Q : Type 0) → b ≡ true → P → Either b P Q
either-true true P Q is p = p
either-true false P Q is p = absurd (cc is)

either-false : (b : Bool) (P Q : Type 0) → b ≡ false → Q → Either b P Q
either-false true P Q is q = absurd (cc is)
either-false false P Q is q = q

none-or : {A : Type 0} (u : Option A) → (u ≡ None) ⊎ (is_some u ≡ true)
none-or None = inl refl
none-or (Some n) = inr refl

calm-both : (a b c : StorageState) → IsFaultless a b → IsFaultless b c → IsFaultless a c
calm-both a b c first second = (second.0 ∙ first.0, second.1 ∙ first.1)

-- The call is a flush or a repair of leaks that succeeded.
abbrev Flushes : Call → Answer → Type 0
Flushes calls.Flush told.Done = ⊤
Flushes calls.RepairLeaks (told.Leaks pairs) = ⊤
Flushes call answer = ⊥

-- A commit to the layer below has flushed the top, unless it failed early or with a resource error.
since-committed : (answer : Answer) (prepared early : Bool) (since : Since) (old : Disk) (does : DiskCall) (new : Disk) → GoesOn answer → early ≡ false → since_next calls.CommitDown answer prepared early since old does new ≡ flushed new
since-committed (told.Refused Memory) prepared early since old does new on begins = absurd on
since-committed (told.Refused Storage) prepared early since old does new on begins = absurd on
since-committed answer prepared false since old does new on begins = refl
since-committed answer prepared true since old does new on begins = absurd (cc begins)

since-early : (answer : Answer) (prepared early : Bool) (since : Since) (old : Disk) (does : DiskCall) (new : Disk) → early ≡ true → since_next calls.CommitDown answer prepared early since old does new ≡ at_size (begun since old does) new.size
since-early (told.Refused Memory) prepared early since old does new fails = refl
since-early (told.Refused Storage) prepared early since old does new fails = refl
since-early answer prepared true since old does new fails = refl
since-early answer prepared false since old does new fails = absurd (cc fails)

-- A call that isn't made neither repairs leaks nor commits to the layer below.
not-repaired : (call : Call) (fault : Fault) → repairs call (told.Refused fault) ≡ false
not-repaired calls.RepairLeaks fault = refl
not-repaired call fault = refl

unmade-commits : (call : Call) → commits call (told.Refused BadArgument) ≡ false
unmade-commits calls.CommitDown = refl
unmade-commits call = refl

on-false : (b : Bool) (P Q : Type 0) → b ≡ false → Either b P Q → Q
on-false true P Q is p = absurd (cc is)
on-false false P Q is q = q

is-or-not : (b : Bool) → (b ≡ true) ⊎ (b ≡ false)
is-or-not true = inl refl
is-or-not false = inr refl

or-later : (a b : Bool) → b ≡ true → a || b ≡ true
or-later true b is = refl
or-later false b is = is

or-first : (a b : Bool) → a ≡ true → a || b ≡ true
or-first true b is = refl
or-first false b is = absurd (cc is)

none-of : {A : Type 0} (u : Option A) → is_some u ≡ false → u ≡ None
none-of None is = refl
none-of (Some a) is = absurd (cc is)

-- The layers from the second of a list on.
deeper-same : {D L : Type 0} (f : D → L) (xs ys : List D) → map f ys ≡ map f xs → map f (drop 1 ys) ≡ map f (drop 1 xs)
deeper-same f [] [] same = refl
deeper-same f (x ∷ xs) (y ∷ ys) same = cc same
deeper-same f [] (y ∷ ys) same = absurd (cc same)
deeper-same f (x ∷ xs) [] same = absurd (cc same)

takes-top : (a b : Layer) (below : List Layer) → b.fixed ≡ a.fixed → takes_commits (b ∷ below) ≡ takes_commits (a ∷ below)
takes-top a b [] fixed = refl
takes-top a b (next ∷ rest) fixed = rw fixed refl

deeper-each : {D : Type 0} (P : D → Type 0) (xs : List D) → Each P xs → Each P (drop 1 xs)
deeper-each P [] all = tt
deeper-each P (x ∷ xs) all = all.1

module _ {D St : Type 0} (g : Ghosts D St) where
  -- The two cases of `since_after`, for a call that isn't a commit to the layer below.
  behind-or : (call : Call) (answer : Answer) (m : Moment D St) (new : ChainWithMapping D St) → commits_down call ≡ false
      → (since_after g call answer m new ≡ at_size (begun m.since (chain_disk g.layer m.now.drivers) (disk_call g m.now call)) (g.layer new.drivers.0).size)
      ⊎ (Flushes call answer × (state_of m.now.kept_mapping ≡ None) × (since_after g call answer m new ≡ flushed (chain_disk g.layer new.drivers)))
  behind-or calls.Flush told.Done m new other = elim (none-or (state_of m.now.kept_mapping)) [
    | inl none ↦ inr (tt, none, rw (none) refl)
    | inr some ↦ inl (rw (some) refl)
  ]
  behind-or calls.RepairLeaks (told.Leaks pairs) m new other = elim (none-or (state_of m.now.kept_mapping)) [
    | inl none ↦ inr (tt, none, rw (none) refl)
    | inr some ↦ inl (rw (some) refl)
  ]
  behind-or calls.CommitDown answer m new other = absurd (cc other)
  behind-or call answer m new other = inl refl

  -- After a flush or a repair of leaks with no mapping prepared, the file means the disk.
  made-flush : (call : Call) (answer : Answer) (old new : ChainWithMapping D St) → CallOutcome g call answer old new → IsIntactChain g old.drivers → Flushes call answer → IsFree (g.layer old.drivers.0)
      → IsWritten g new.drivers.0
  made-flush calls.Flush told.Done old new makes intact flushes none = ((makes.moves intact).0.3.1 none).0
  made-flush calls.RepairLeaks (told.Leaks pairs) old new makes intact flushes none = (makes.moves intact).0.3.1
  made-flush call answer old new makes intact flushes none = absurd flushes

  -- The state after a call that isn't a commit to the layer below.
  other-leads : (call : Call) (answer : Answer) (old new : ChainWithMapping D St) → commits_down call ≡ false → CallOutcome g call answer old new → LeavesForNext g (GoesOn answer) (disk_call g old call) (repairs call answer) old.drivers new.drivers
  other-leads call answer old new other makes = on-false (commits_down call) (LeavesAfterCommit g answer old.drivers new.drivers) (LeavesForNext g (GoesOn answer) (disk_call g old call) (repairs call answer) old.drivers new.drivers) other makes.leads

  -- The properties that every call preserves, with any answer. `committed` says that it is a commit to the layer below.
  pub record WritesBackCached (committed : Bool) (old new : ChainWithMapping D St) : Type 0 where
    pub fixed : (g.layer new.drivers.0).fixed ≡ (g.layer old.drivers.0).fixed
    pub counts_not_fallen : IsLater (g.image old.drivers.0) (g.image new.drivers.0)
    pub layers_below : IsFalse committed → StayClean g old.drivers.1 new.drivers.1
    pub deeper : StayClean g (drop 1 old.drivers.1) (drop 1 new.drivers.1)
    pub kept : MappingIsPrepared g old → MappingIsPrepared g new

  pub going-same : (committed : Bool) (old : ChainWithMapping D St) → WritesBackCached committed old old
  going-same committed old = record {
    fixed = refl;
    counts_not_fallen = is_later_same (g.image old.drivers.0);
    layers_below = λ none clean. (kept_all_same (files_of g old.drivers.1), clean);
    deeper = λ clean. (kept_all_same (files_of g (drop 1 old.drivers.1)), clean);
    kept = λ k. k;
  }

  clean-both : (xs ys zs : List D) → StayClean g xs ys → StayClean g ys zs → StayClean g xs zs
  clean-both xs ys zs first second clean = let one = first clean in let two = second one.1 in (kept_all_both (files_of g xs) (files_of g ys) (files_of g zs) one.0 two.0, two.1)

  -- If the whole has no commit, neither part has one.
  pub going-with : (one other whole : Bool) (a b c : ChainWithMapping D St) → (IsFalse whole → IsFalse one × IsFalse other) → WritesBackCached one a b → WritesBackCached other b c → WritesBackCached whole a c
  going-with one other whole a b c parts first second = record {
    fixed = second.fixed ∙ first.fixed;
    counts_not_fallen = is_later_both (g.image a.drivers.0) (g.image b.drivers.0) (g.image c.drivers.0) first.counts_not_fallen second.counts_not_fallen;
    layers_below = λ none. clean-both a.drivers.1 b.drivers.1 c.drivers.1 (first.layers_below (parts none).0) (second.layers_below (parts none).1);
    deeper = clean-both (drop 1 a.drivers.1) (drop 1 b.drivers.1) (drop 1 c.drivers.1) first.deeper second.deeper;
    kept = λ k. second.kept (first.kept k);
  }

  going-other : (call : Call) (answer : Answer) (old new : ChainWithMapping D St) → commits_down call ≡ false → CallOutcome g call answer old new → WritesBackCached (commits_down call) old new
  going-other call answer old new other makes =
      let leads = other-leads call answer old new other makes in
      record { fixed = leads.fixed; counts_not_fallen = leads.counts_not_fallen; layers_below = λ none. leads.layers_below; deeper = leads.deeper; kept = makes.mapping_prepared }

  pub going-made : (call : Call) (answer : Answer) (old new : ChainWithMapping D St) → CallOutcome g call answer old new → WritesBackCached (commits_down call) old new
  going-made calls.CommitDown answer old new makes = record { fixed = makes.leads.fixed; counts_not_fallen = makes.leads.counts_not_fallen; layers_below = λ none. absurd (cc none); deeper = makes.leads.deeper; kept = makes.mapping_prepared }
  going-made call answer old new makes = going-other call answer old new refl makes

  pub going-one : (call : Call) (answer : Answer) (old new : ChainWithMapping D St) → Answers g call answer old new → WritesBackCached (commits_down call) old new
  going-one call answer old new answers = elim (either-cases (is_out_of_place (is_some old.kept_mapping) call) ((answer ≡ told.Refused BadArgument) × (new ≡ old)) (CallOutcome g call answer old new) answers) [
    | inl out ↦ subst (WritesBackCached (commits_down call) old) (sym out.1.1) (going-same (commits_down call) old)
    | inr made ↦ going-made call answer old new made.1
  ]

  pub going-all : (list : List Call) (answers : List Answer) (old new : ChainWithMapping D St) → AnswersAll g list answers old new → WritesBackCached (any_commit_down list) old new
  going-all [] [] old new same = subst (WritesBackCached false old) (sym same) (going-same false old)
  going-all (call ∷ list) (answer ∷ answers) old new all = going-with (commits_down call) (any_commit_down list) (commits_down call || any_commit_down list) old all.0 new
      (λ none. (first-none (commits_down call) (any_commit_down list) none, second-none (commits_down call) (any_commit_down list) none)) (going-one call answer old all.0 all.1) (going-all list answers all.0 new all.2)
  going-all [] (answer ∷ answers) old new all = absurd all
  going-all (call ∷ list) [] old new all = absurd all

  pub as-many : (list : List Call) (answers : List Answer) (old new : ChainWithMapping D St) → AnswersAll g list answers old new → length answers ≡ length list
  as-many [] [] old new all = refl
  as-many (call ∷ list) (answer ∷ answers) old new all = ap suc (as-many list answers all.0 new all.2)
  as-many [] (answer ∷ answers) old new all = absurd all
  as-many (call ∷ list) [] old new all = absurd all

  -- One more call.
  pub all-then : (list : List Call) (answers : List Answer) (call : Call) (answer : Answer) (old mid new : ChainWithMapping D St) → AnswersAll g list answers old mid → Answers g call answer mid new
      → AnswersAll g (list ++ (call ∷ [])) (answers ++ (answer ∷ [])) old new
  all-then [] [] call answer old mid new same one = (new, subst (λ h. Answers g call answer h new) same one, refl)
  all-then (c ∷ cs) (a ∷ rest) call answer old mid new all one = (all.0, all.1, all-then cs rest call answer all.0 mid new all.2 one)
  all-then [] (a ∷ rest) call answer old mid new all one = absurd all
  all-then (c ∷ cs) [] call answer old mid new all one = absurd all

  -- The chain after a call without a resource error, as later calls rely on it.
  pub record GoesOnFrom (repaired committed : Bool) (old new : D × List D) : Type 0 where
    pub faults : IsFaultless (g.image old.0) (g.image new.0)
    pub ready : IsReady g new
    pub committable : IsCommittable g old → IsCommittable g new
    pub writable : takes_commits (map g.layer (chain new)) ≡ takes_commits (map g.layer (chain old))
    pub same_chain : IsSameChain g repaired committed old new

  goes-other : (call : Call) (answer : Answer) (old new : ChainWithMapping D St) → commits_down call ≡ false → CallOutcome g call answer old new → IsReady g old.drivers → GoesOn answer → GoesOnFrom (repairs call answer) (commits call answer) old.drivers new.drivers
  goes-other call answer old new other makes ready on =
      let leads = other-leads call answer old new other makes in
      record {
        faults = leads.faults on ready;
        ready = leads.ready on ready;
        committable = leads.committable on ready;
        writable = rw (leads.below on ready) (takes-top (g.layer old.drivers.0) (g.layer new.drivers.0) (map g.layer old.drivers.1) leads.fixed);
        same_chain = record {
          fixed = leads.fixed;
          files = λ none. (leads.layers_below ready.has_no_dirty_data).0;
          below = λ none. leads.below on ready;
          deeper_files = (leads.deeper (deeper-each g.has_no_dirty_data old.drivers.1 ready.has_no_dirty_data)).0;
          deeper_layers = deeper-same g.layer old.drivers.1 new.drivers.1 (leads.below on ready);
          excess_refcount = leads.excess_refcount on ready;
        };
      }

  -- A commit whose answer shows that it failed before it began has changed nothing.
  unchanged-below : (answer : Answer) (old new : ChainWithMapping D St) → CallOutcome g calls.CommitDown answer old new → IsFalse (commits calls.CommitDown answer) → new.drivers.1 ≡ old.drivers.1
  unchanged-below (told.Refused MissingBelow) old new makes none = elim makes.failed [ inl is ↦ (makes.untouched (inr (subst IsSome (sym is) refl))).1 | inr fails ↦ absurd fails ]
  unchanged-below (told.Refused BadArgument) old new makes none = elim makes.failed [ inl is ↦ (makes.untouched (inr (subst IsSome (sym is) refl))).1 | inr fails ↦ absurd fails ]
  unchanged-below answer old new makes none = absurd (cc none)

  goes-commit : (answer : Answer) (old new : ChainWithMapping D St) → CallOutcome g calls.CommitDown answer old new → IsReady g old.drivers → MayBegin g old.drivers → GoesOn answer → GoesOnFrom false (commits calls.CommitDown answer) old.drivers new.drivers
  goes-commit answer old new makes ready may on =
      let leads = makes.leads in
      let same = unchanged-below answer old new makes in
      record {
        faults = leads.faults on;
        ready = leads.ready on ready may;
        committable = leads.committable on;
        writable = leads.writable;
        same_chain = record {
          fixed = leads.fixed;
          files = λ none. rw (same none) (kept_all_same (files_of g old.drivers.1));
          below = λ none. rw (same none) refl;
          deeper_files = (leads.deeper (deeper-each g.has_no_dirty_data old.drivers.1 ready.has_no_dirty_data)).0;
          deeper_layers = leads.deeper_layers on may;
          excess_refcount = leads.excess_refcount on may;
        };
      }

  pub goes-made : (call : Call) (answer : Answer) (old new : ChainWithMapping D St) → CallOutcome g call answer old new → IsReady g old.drivers → (IsTrue (commits_down call) → MayBegin g old.drivers) → GoesOn answer
      → GoesOnFrom (repairs call answer) (commits call answer) old.drivers new.drivers
  goes-made calls.CommitDown answer old new makes ready may on = goes-commit answer old new makes ready (may refl) on
  goes-made call answer old new makes ready may on = goes-other call answer old new refl makes ready on

  module _ (well_formed_is_coherent : (d : D) → g.well_formed d → g.coherent d) (well_formed_is_sound : (d : D) → g.well_formed d → IsCovered (g.layer d) g.sound (g.image d).bytes) where
    -- The crash images of a call of the disk.
    stops-from : (does : DiskCall) (old : D × List D) (d : D) (since : Since) → KeepsCrashImagesTo g (map g.layer old.1) (least_size (chain_disk g.layer old) does) (most_size (chain_disk g.layer old) does) (Begun (below_of g.layer old) (chain_disk g.layer old) does) old.0 d
        → IsLater (g.image old.0) (g.image d) → IsReady g old → HoldsSince g since old → UnrefusedCrashImages (LeftSince (reading_of g old) (begun since (chain_disk g.layer old) does)) (g.image old.0) (g.image d)
    stops-from does old d since crash_images later ready stands no_change_refused =
        let one = crash_images no_change_refused in
        let below = map g.layer old.1 in
        let entry = g.layer old.0 in
        let file = (g.image old.0).bytes in
        let disk = chain_disk g.layer old in
        let room : (g.image old.0).refusals + 1 < 2 ^ 64 = omega (arith, later.1.refusals, not-risen (g.image old.0).refusals (g.image d).refusals later.1.refusals no_change_refused) in (
          one.0,
          λ step tells keeps. stops-in (Left below entry file g.sound (least_size disk does) (most_size disk does) (Begun (below_of g.layer old) disk does))
              (LeftSince (reading_of g old) (begun since disk does))
              (g.image old.0) (g.image d)
              (λ f left. left-since below g.sound entry file since does (stands tells keeps room).1 (well_formed_is_sound old.0 ready.intact.is_well_formed).size f left)
              (one.1 step tells keeps),
        )

    stops-behind : (whole : Type 0) (does : DiskCall) (repaired : Bool) (old new : D × List D) (since : Since) → LeavesForNext g whole does repaired old new → IsReady g old → HoldsSince g since old
        → UnrefusedCrashImages (LeftSince (reading_of g old) (begun since (chain_disk g.layer old) does)) (g.image old.0) (g.image new.0)
    stops-behind whole does repaired old new since leads ready stands = stops-from does old new.0 since (leads.crash_images ready) leads.counts_not_fallen ready stands

    -- The file after a call without a resource error: a crash now leaves it, and it is the old file or a crash image of the call.
    file-behind : (whole : Type 0) (does : DiskCall) (repaired : Bool) (old new : D × List D) (since : Since) → LeavesForNext g whole does repaired old new → IsReady g old → whole → HoldsSince g since old
        → IfTelling (g.image new.0) (((g.image new.0).crash_image ≡ (g.image new.0).bytes)
        × (((g.image new.0).bytes ≡ (g.image old.0).bytes) ⊎ LeftSince (reading_of g old) (begun since (chain_disk g.layer old) does) (g.image new.0).bytes)
        × IsSince (reading_of g old) (g.image old.0).bytes (chain_disk g.layer old) since)
    file-behind whole does repaired old new since leads ready on stands tells keeps room =
        let a = g.image old.0 in
        let b = g.image new.0 in
        let left = LeftSince (reading_of g old) (begun since (chain_disk g.layer old) does) in
        let told_before : IsTrue a.shape.tells = rw (sym leads.counts_not_fallen.0) tells in
        let kept_before : IsTrue a.shape.keeps = rw (sym leads.counts_not_fallen.0) keeps in
        let same : b.refusals ≡ a.refusals = (leads.faults on ready).1 in
        let no_change_refused : HasRisen a.refusals b.refusals → ⊥ = calm-then a.refusals b.refusals same room in
        let stood = stands told_before kept_before (omega (arith, same, room)) in
        let step : CrashImageIsBytes a = λ _ _. stood.0 in
        let passes = stops-behind whole does repaired old new since leads ready stands no_change_refused in
        let now : CrashImageIsBytes b = passes.0 step in
        (now tells keeps, here left a b leads.counts_not_fallen step now told_before kept_before (passes.1 step told_before kept_before), stood.1)

    -- The state after a call without a resource error.
    pub stands-behind : (whole : Type 0) (does : DiskCall) (repaired : Bool) (old new : D × List D) (since : Since) → LeavesForNext g whole does repaired old new → IsReady g old → whole → HoldsSince g since old
        → HoldsSince g (at_size (begun since (chain_disk g.layer old) does) (g.layer new.0).size) new
    stands-behind whole does repaired old new since leads ready on stands tells keeps room =
        let b = g.image new.0 in
        let below = map g.layer old.1 in
        let layer = g.layer new.0 in
        let next = begun since (chain_disk g.layer old) does in
        let file = file-behind whole does repaired old new since leads ready on stands tells keeps room in (
          file.0,
          subst (λ ls. IsSince (reading ls g.sound layer b.bytes) b.bytes (disk_of ls layer) (at_size next layer.size)) (sym (leads.below on ready))
              (since-on below g.sound (g.layer old.0) (g.image old.0).bytes since does file.2 (well_formed_is_sound old.0 ready.intact.is_well_formed).size layer b.bytes leads.fixed (leads.shows on ready) file.1),
        )

    module _ (call : Call) (answer : Answer) (old new : ChainWithMapping D St) (since : Since) (other : commits_down call ≡ false) (makes : CallOutcome g call answer old new) (is_kept : MappingIsPrepared g old) (ready : IsReady g old.drivers) (stands : HoldsSince g since old.drivers) where
      leads : LeavesForNext g (GoesOn answer) (disk_call g old call) (repairs call answer) old.drivers new.drivers
      leads = other-leads call answer old new other makes

      -- The crash images of a call of a list.
      stops-of : UnrefusedCrashImages (IsLeftBy g call (moment old since)) (g.image old.drivers.0) (g.image new.drivers.0)
      stops-of = stops-behind (GoesOn answer) (disk_call g old call) (repairs call answer) old.drivers new.drivers since leads ready stands

      -- The state after that call.
      stands-other : GoesOn answer → HoldsSince g (since_after g call answer (moment old since) new) new.drivers
      stands-other on tells keeps room =
          let next = stands-behind (GoesOn answer) (disk_call g old call) (repairs call answer) old.drivers new.drivers since leads ready on stands tells keeps room in
          let below = map g.layer new.drivers.1 in
          let layer = g.layer new.drivers.0 in
          let bytes = (g.image new.drivers.0).bytes in
          let top = reading_of g new.drivers in
          let disk = chain_disk g.layer new.drivers in (
            next.0,
            elim (behind-or call answer (moment old since) new other) [
              | inl is ↦ subst (IsSince top bytes disk) (sym is) next.1
              | inr is ↦ subst (IsSince top bytes disk) (sym is.2) (since-flushed below g.sound layer bytes (made-flush call answer old new makes ready.intact is.0 (is_kept.free is.1)))
            ],
          )

      -- The file right after a call, as a file of the chain before it.
      left-now : GoesOn answer → IsLeftNow g old.drivers (moment new (since_after g call answer (moment old since) new))
      left-now on tells keeps room =
          let means = (g.layer old.drivers.0).fixed.means in
          let file = file-behind (GoesOn answer) (disk_call g old call) (repairs call answer) old.drivers new.drivers since leads ready on stands tells keeps room in
          let next = stands-other on tells keeps room in
          let backed : (means (g.image new.drivers.0).bytes).backed ≡ (means (g.image old.drivers.0).bytes).backed =
          elim file.1 [ inl same ↦ ap (λ f. (means f).backed) same | inr left ↦ left.reads.backed ] in (
            next.0,
            record {
              is_sound = subst (λ (x : Fixed). g.sound x.kind (g.image new.drivers.0).bytes) leads.fixed (well_formed_is_sound new.drivers.0 (leads.ready on ready).intact.is_well_formed).is_sound;
              reads = reads-before g.sound (map g.layer new.drivers.1) (map g.layer old.drivers.1) (g.layer new.drivers.0).fixed (g.layer old.drivers.0).fixed _ _ _ (leads.below on ready) leads.fixed next.1.file backed;
            },
          )

      made-other : Made g call answer (moment old since) (moment new (since_after g call answer (moment old since) new))
      made-other =
          let goes : GoesOn answer → GoesOnFrom (repairs call answer) (commits call answer) old.drivers new.drivers = λ on. goes-other call answer old new other makes ready on in
          record {
            fits = makes.fits;
            early_outcome = makes.early_outcome;
            idle = λ nothing. makes.idle nothing ready.usable.0;
            untouched = makes.untouched;
            stays_kept = makes.stays_kept;
            moves = makes.moves (ready-rests g well_formed_is_coherent call old.drivers ready (λ is. absurd (cc (is, other))));
            room = λ on. makes.room ready.intact on;
            units = λ may was. makes.units ready.intact may was;
            marks_failed = makes.marks_failed;
            stays_failed = makes.stays_failed;
            crash_images = either-false (commits_down call) (CommitCrashImages g answer (moment old since) (moment new (since_after g call answer (moment old since) new))) (UnrefusedCrashImages (IsLeftBy g call (moment old since)) (g.image old.drivers.0) (g.image new.drivers.0)) other stops-of;
            file_now = λ on. subst (λ (b : Bool). IsLeftNow g (if b then (old.drivers.0, new.drivers.1) else old.drivers) (moment new (since_after g call answer (moment old since) new))) (sym other) (left-now on);
            counts_not_fallen = leads.counts_not_fallen;
            since = refl;
            files = λ none. (leads.layers_below ready.has_no_dirty_data).0;
            below = λ none on. leads.below on ready;
            deeper_files = (leads.deeper (deeper-each g.has_no_dirty_data old.drivers.1 ready.has_no_dirty_data)).0;
            deeper_layers = λ on. (goes on).same_chain.deeper_layers;
            fixed = leads.fixed;
            mapping_prepared = makes.mapping_prepared is_kept;
            faults = λ on. leads.faults on ready;
            excess_refcount = λ on. leads.excess_refcount on ready;
            ready = λ on. leads.ready on ready;
            committable = λ on. leads.committable on ready;
          }

    -- A commit to the layer below.
    module _ (answer : Answer) (old new : ChainWithMapping D St) (since : Since) (makes : CallOutcome g calls.CommitDown answer old new) (is_kept : MappingIsPrepared g old) (ready : IsReady g old.drivers) (may : MayBegin g old.drivers) (stands : HoldsSince g since old.drivers) where
      course : CommitCourse g answer old.drivers new.drivers
      course = makes.leads.course may

      moments : CommitMoments g old.drivers new.drivers course.flushed course.mid
      moments = course.moments

      kept_to : UnchangedButMoreFaults (g.image course.flushed) (g.image course.mid.0)
      kept_to = moments.top_kept.0

      -- The first flush.
      flush-stops : UnrefusedCrashImages (IsLeftBy g calls.CommitDown (moment old since)) (g.image old.drivers.0) (g.image course.flushed)
      flush-stops =
          let size = (g.layer old.drivers.0).size in
          stops-from flush old.drivers course.flushed since
          (fewer-stops g (map g.layer old.drivers.1) size size size size GivesNone (Begun (below_of g.layer old.drivers) (chain_disk g.layer old.drivers) flush) old.drivers.0 course.flushed (omega arith) (omega arith) (λ p v none. absurd none) moments.flush)
          moments.counts_before ready stands

      -- A commit that fails early changes nothing.
      stands-early : AllUnchanged g old.drivers new.drivers → HoldsSince g (at_size (begun since (chain_disk g.layer old.drivers) flush) (g.layer new.drivers.0).size) new.drivers
      stands-early same = rw (same.0.unasked.0, same.0.layer, same.1) (λ tells keeps room.
          let stood = stands tells keeps room in (
            stood.0,
            since-on (map g.layer old.drivers.1) g.sound (g.layer old.drivers.0) (g.image old.drivers.0).bytes since flush stood.1 (well_formed_is_sound old.drivers.0 ready.intact.is_well_formed).size (g.layer old.drivers.0) (g.image old.drivers.0).bytes refl
                (λ p inside. inl (inside, refl)) (inl refl),
          ))

      -- A commit that doesn't fail early.
      module _ (on : GoesOn answer) (flushes : FlushesFirst g old.drivers course.flushed course.mid) where
        -- The file of the top reads as the disk over the layers below. It is the flushed one or a later crash image.
        reads-disk : (bytes : List ℕ) → (bytes ≡ (g.image course.mid.0).bytes) ⊎ IsPairAbove g old.drivers course.mid bytes → (p : ℕ) → p < (g.layer old.drivers.0).size
            → shown (map g.layer new.drivers.1) (g.layer old.drivers.0).fixed.means bytes p ≡ at (map g.layer (chain old.drivers)) p
        reads-disk bytes (inl same) p inside =
            let under = map g.layer course.mid.1 in
            let file = (g.image course.flushed).bytes in
            let shows : shown under (g.layer old.drivers.0).fixed.means file p ≡ at (map g.layer (chain old.drivers)) p =
            through-same under (g.layer old.drivers.0) file p flushes.meant inside ∙ subst (λ (l : Layer). at (l ∷ under) p ≡ at (map g.layer (chain old.drivers)) p) flushes.same (flushes.reads p inside) in
            rw (moments.below_kept, same ∙ kept_to.0.bytes) shows
        reads-disk bytes (inr pair) p inside = rw (moments.below_kept) (pair.shows p inside)

        no-longer : (bytes : List ℕ) → (bytes ≡ (g.image course.mid.0).bytes) ⊎ IsPairAbove g old.drivers course.mid bytes → IsTrue (g.layer old.drivers.0).fixed.exact → ((g.layer old.drivers.0).fixed.means bytes).size ≤ (g.layer old.drivers.0).size
        no-longer bytes (inl same) exact = rw (same ∙ kept_to.0.bytes) (omega (arith, flushes.meant.exactly exact))
        no-longer bytes (inr pair) exact = subst (λ (l : Layer). IsTrue l.fixed.exact → (l.fixed.means bytes).size ≤ l.size) flushes.same pair.left.no_longer exact

        file-late : IfTelling (g.image new.drivers.0) (((g.image new.drivers.0).crash_image ≡ (g.image new.drivers.0).bytes)
            × (((g.image new.drivers.0).bytes ≡ (g.image course.mid.0).bytes) ⊎ IsPairAbove g old.drivers course.mid (g.image new.drivers.0).bytes)
            × (((g.layer old.drivers.0).fixed.means (g.image new.drivers.0).bytes).backed ≡ ((g.layer old.drivers.0).fixed.means (g.image old.drivers.0).bytes).backed))
        file-late tells keeps room =
            let a = g.image old.drivers.0 in
            let f = g.image course.flushed in
            let m = g.image course.mid.0 in
            let b = g.image new.drivers.0 in
            let told_before : IsTrue a.shape.tells = rw (sym makes.leads.counts_not_fallen.0) tells in
            let kept_before : IsTrue a.shape.keeps = rw (sym makes.leads.counts_not_fallen.0) keeps in
            let told_mid : IsTrue m.shape.tells = rw (sym moments.counts_after.0) tells in
            let kept_mid : IsTrue m.shape.keeps = rw (sym moments.counts_after.0) keeps in
            let same : b.refusals ≡ a.refusals = (makes.leads.faults on).1 in
            let still : m.refusals ≡ f.refusals = kept_to.0.refusals in
            let one : f.refusals ≡ a.refusals = omega (arith, moments.counts_before.1.refusals, moments.counts_after.1.refusals, still, same) in
            let two : b.refusals ≡ m.refusals = omega (arith, one, still, same) in
            let was : CrashImageIsBytes a = λ _ _. (stands told_before kept_before (omega (arith, same, room))).0 in
            let first = moments.flush (calm-then a.refusals f.refusals one (omega (arith, one, same, room))) in
            let at_flush : CrashImageIsBytes f = first.0 was in
            let at_mid : CrashImageIsBytes m = λ t k. kept_to.0.crash_image ∙ at_flush (rw (sym kept_to.0.shape) t) (rw (sym kept_to.0.shape) k) ∙ sym kept_to.0.bytes in
            let passes = moments.top (calm-then m.refusals b.refusals two room) in
            let now : CrashImageIsBytes b = passes.0 at_mid in
            let size = (g.layer old.drivers.0).size in
            let means = (g.layer old.drivers.0).fixed.means in
            let started = here (Left (map g.layer old.drivers.1) (g.layer old.drivers.0) a.bytes g.sound size size GivesNone) a f moments.counts_before was at_flush told_before kept_before (first.1 was told_before kept_before) in
            let ended = here (IsPairAbove g old.drivers course.mid) m b moments.counts_after at_mid now told_mid kept_mid (passes.1 at_mid told_mid kept_mid) in
            let one_backed : (means f.bytes).backed ≡ (means a.bytes).backed = elim started [ inl is ↦ ap (λ bytes. (means bytes).backed) is | inr left ↦ left.backed ] in
            let two_backed : (means b.bytes).backed ≡ (means m.bytes).backed = elim ended [
              | inl is ↦ ap (λ bytes. (means bytes).backed) is
              | inr pair ↦ subst (λ (l : Layer). (l.fixed.means b.bytes).backed ≡ (l.fixed.means m.bytes).backed) flushes.same pair.left.backed
            ] in
            (now tells keeps, ended, two_backed ∙ ap (λ bytes. (means bytes).backed) kept_to.0.bytes ∙ one_backed)

        stands-late : HoldsSince g (flushed (chain_disk g.layer new.drivers)) new.drivers
        stands-late tells keeps room =
            let file = file-late tells keeps room in
            let bytes = (g.image new.drivers.0).bytes in
            let under = map g.layer new.drivers.1 in
            let layer = g.layer new.drivers.0 in
            let fixed = makes.leads.fixed in
            let disk = makes.leads.disk on may in (
              file.0,
              since-read under g.sound layer bytes (well_formed_is_sound new.drivers.0 (makes.leads.ready on ready may).intact.is_well_formed).size
                  (subst (λ (x : Fixed). IsTrue x.exact → (x.means bytes).size ≤ layer.size) (sym fixed) (λ exact. omega (arith, no-longer bytes file.1 exact, disk.size)))
                  (λ p inside.
                  let before : p < (g.layer old.drivers.0).size = omega (arith, inside, disk.size) in
                  subst (λ (x : Fixed). shown under x.means bytes p ≡ at (layer ∷ under) p) (sym fixed) (reads-disk bytes file.1 p before ∙ sym (disk.value p before))),
            )

      -- The state after the commit.
      stands-commit : GoesOn answer → HoldsSince g (since_after g calls.CommitDown answer (moment old since) new) new.drivers
      stands-commit on =
          let first = refusal_at_once g calls.CommitDown old in
          let prepared = is_some (state_of old.kept_mapping) in
          let disk = chain_disk g.layer old.drivers in
          let now = chain_disk g.layer new.drivers in
          elim (is-or-not (is_some first)) [
            | inl early ↦ subst (λ (s : Since). HoldsSince g s new.drivers) (sym (since-early answer prepared (is_some first) since disk flush now early)) (stands-early (makes.untouched (inr early)))
            | inr none ↦ subst (λ (s : Since). HoldsSince g s new.drivers) (sym (since-committed answer prepared (is_some first) since disk flush now on none)) (stands-late on (course.flushes_first (none-of first none) on))
          ]

      -- The file refers to a backing file exactly if it did.
      backed-commit : GoesOn answer
          → IfTelling (g.image new.drivers.0) (((g.layer old.drivers.0).fixed.means (g.image new.drivers.0).bytes).backed ≡ ((g.layer old.drivers.0).fixed.means (g.image old.drivers.0).bytes).backed)
      backed-commit on =
          let first = refusal_at_once g calls.CommitDown old in
          elim (is-or-not (is_some first)) [
            | inl early ↦ λ tells keeps room. ap (λ (s : StorageState). ((g.layer old.drivers.0).fixed.means s.bytes).backed) (makes.untouched (inr early)).0.unasked.0
            | inr none ↦ λ tells keeps room. (file-late on (course.flushes_first (none-of first none) on) tells keeps room).2
          ]

      left-commit : GoesOn answer → IsLeftNow g (old.drivers.0, new.drivers.1) (moment new (since_after g calls.CommitDown answer (moment old since) new))
      left-commit on tells keeps room =
          let fixed = makes.leads.fixed in
          let next = stands-commit on tells keeps room in (
            next.0,
            record {
              is_sound = subst (λ (x : Fixed). g.sound x.kind (g.image new.drivers.0).bytes) fixed (well_formed_is_sound new.drivers.0 (makes.leads.ready on ready may).intact.is_well_formed).is_sound;
              reads = reads-before g.sound (map g.layer new.drivers.1) (map g.layer new.drivers.1) (g.layer new.drivers.0).fixed (g.layer old.drivers.0).fixed _ _ _ refl fixed next.1.file (backed-commit on tells keeps room);
            },
          )

      made-commit : Made g calls.CommitDown answer (moment old since) (moment new (since_after g calls.CommitDown answer (moment old since) new))
      made-commit = record {
        fits = makes.fits;
        early_outcome = makes.early_outcome;
        idle = λ nothing. makes.idle nothing ready.usable.0;
        untouched = makes.untouched;
        stays_kept = makes.stays_kept;
        moves = makes.moves may;
        room = λ on. makes.room ready.intact on;
        units = λ may was. makes.units ready.intact may was;
        marks_failed = makes.marks_failed;
        stays_failed = makes.stays_failed;
        crash_images = record { course = course; flush = flush-stops };
        file_now = left-commit;
        counts_not_fallen = makes.leads.counts_not_fallen;
        since = refl;
        files = λ none. absurd (cc none);
        below = λ none. absurd (cc none);
        deeper_files = (makes.leads.deeper (deeper-each g.has_no_dirty_data old.drivers.1 ready.has_no_dirty_data)).0;
        deeper_layers = λ on. makes.leads.deeper_layers on may;
        fixed = makes.leads.fixed;
        mapping_prepared = makes.mapping_prepared is_kept;
        faults = λ on. makes.leads.faults on;
        excess_refcount = λ on. makes.leads.excess_refcount on may;
        ready = λ on. makes.leads.ready on ready may;
        committable = λ on. makes.leads.committable on;
      }

    made-of : (call : Call) (answer : Answer) (old new : ChainWithMapping D St) (since : Since) → CallOutcome g call answer old new → MappingIsPrepared g old → IsReady g old.drivers → (IsTrue (commits_down call) → MayBegin g old.drivers) → HoldsSince g since old.drivers
        → Made g call answer (moment old since) (moment new (since_after g call answer (moment old since) new))
    made-of calls.CommitDown answer old new since makes is_kept ready may stands = made-commit answer old new since makes is_kept ready (may refl) stands
    made-of call answer old new since makes is_kept ready may stands = made-other call answer old new since refl makes is_kept ready stands

    stands-next : (call : Call) (answer : Answer) (old new : ChainWithMapping D St) (since : Since) → CallOutcome g call answer old new → MappingIsPrepared g old → IsReady g old.drivers → (IsTrue (commits_down call) → MayBegin g old.drivers) → GoesOn answer → HoldsSince g since old.drivers
        → HoldsSince g (since_after g call answer (moment old since) new) new.drivers
    stands-next calls.CommitDown answer old new since makes is_kept ready may on stands = stands-commit answer old new since makes is_kept ready (may refl) stands on
    stands-next call answer old new since makes is_kept ready may on stands = stands-other call answer old new since refl makes is_kept ready stands on

    -- The effect of a list of calls, from the drivers before it to those after it.
    pub record RangeChange (list : List Call) (answers : List Answer) (old new : ChainWithMapping D St) (since : Since) : Type 0 where
      pub last : Moment D St
      pub run : Run g list answers (moment old since) last
      pub from : IsLater (g.image old.drivers.0) (g.image last.now.drivers.0)
      pub counts_not_fallen : IsLater (g.image last.now.drivers.0) (g.image new.drivers.0)
      pub no_change_refused : AllGoOn answers → IsFaultless (g.image old.drivers.0) (g.image new.drivers.0)
      pub same_chain : AllGoOn answers → IsSameChain g (any_repair list answers) (any_commit list answers) old.drivers new.drivers
      pub committable : AllGoOn answers → IsCommittable g old.drivers → IsCommittable g new.drivers
      pub ends : AllGoOn answers → (last.now ≡ new) × IsReady g new.drivers × HoldsSince g last.since new.drivers

    ran-none : (old : ChainWithMapping D St) (since : Since) → IsReady g old.drivers → HoldsSince g since old.drivers → RangeChange [] [] old old since
    ran-none old since ready stands = record {
      last = moment old since;
      run = refl;
      from = is_later_same (g.image old.drivers.0);
      counts_not_fallen = is_later_same (g.image old.drivers.0);
      no_change_refused = λ _. (refl, refl);
      same_chain = λ _. same-chain g old.drivers;
      committable = λ _ i. i;
      ends = λ _. (refl, ready, stands);
    }

    pub ran-all : (list : List Call) (answers : List Answer) (old new : ChainWithMapping D St) (since : Since) → AnswersAll g list answers old new → MappingIsPrepared g old → IsReady g old.drivers → MayCommit g list old.drivers → HoldsSince g since old.drivers
        → RangeChange list answers old new since
    ran-all [] [] old new since same is_kept ready may stands = subst (λ (h : ChainWithMapping D St). RangeChange [] [] old h since) (sym same) (ran-none old since ready stands)
    ran-all [] (answer ∷ answers) old new since all is_kept ready may stands = absurd all
    ran-all (call ∷ list) [] old new since all is_kept ready may stands = absurd all
    ran-all (call ∷ list) (answer ∷ answers) old new since all is_kept ready may stands =
        let mid = all.0 in
        let out = is_out_of_place (is_some old.kept_mapping) call in
        let first : IsTrue (commits_down call) → MayBegin g old.drivers = λ is none. may (or-first (commits_down call) (any_commit_down list) is) (begun-takes (g.layer old.drivers.0) (map g.layer old.drivers.1) none) in
        let later : MayCommit g list old.drivers = λ is takes. may (or-later (commits_down call) (any_commit_down list) is) takes in
        elim (either-cases out ((answer ≡ told.Refused BadArgument) × (mid ≡ old)) (CallOutcome g call answer old mid) all.1) [
          | inl is ↦
              let rest = ran-all list answers mid new since all.2 (subst (MappingIsPrepared g) (sym is.1.1) is_kept) (subst (λ (h : ChainWithMapping D St). IsReady g h.drivers) (sym is.1.1) ready) (subst (λ (h : ChainWithMapping D St). MayCommit g list h.drivers) (sym is.1.1) later) (subst (λ (h : ChainWithMapping D St). HoldsSince g since h.drivers) (sym is.1.1) stands) in
              let goes : ListStep g call answer (moment old since) (moment mid since) = either-true out ((answer ≡ told.Refused BadArgument) × (moment mid since ≡ moment old since)) (Made g call answer (moment old since) (moment mid since)) is.0 (is.1.0, ap (λ h. moment h since) is.1.1) in
              let unrepaired : repairs call answer ≡ false = subst (λ a. repairs call a ≡ false) (sym is.1.0) (not-repaired call BadArgument) in
              let uncommitted : commits call answer ≡ false = subst (λ a. commits call a ≡ false) (sym is.1.0) (unmade-commits call) in
              record {
                last = rest.last;
                run = (moment mid since, goes, (λ _. rest.run), rest.from);
                from = subst (λ (h : ChainWithMapping D St). IsLater (g.image h.drivers.0) (g.image rest.last.now.drivers.0)) (is.1.1) rest.from;
                counts_not_fallen = rest.counts_not_fallen;
                no_change_refused = λ every. subst (λ (h : ChainWithMapping D St). IsFaultless (g.image h.drivers.0) (g.image new.drivers.0)) (is.1.1) (rest.no_change_refused every.1);
                same_chain = λ every. rw (unrepaired, uncommitted) (subst (λ (h : ChainWithMapping D St). IsSameChain g (any_repair list answers) (any_commit list answers) h.drivers new.drivers) (is.1.1) (rest.same_chain every.1));
                committable = λ every i. rest.committable every.1 (subst (λ (h : ChainWithMapping D St). IsCommittable g h.drivers) (sym is.1.1) i);
                ends = λ every. rest.ends every.1;
              }
          | inr is ↦
              let makes = is.1 in
              let next = since_after g call answer (moment old since) mid in
              let goes : ListStep g call answer (moment old since) (moment mid next) = either-false out ((answer ≡ told.Refused BadArgument) × (moment mid next ≡ moment old since)) (Made g call answer (moment old since) (moment mid next)) is.0 (made-of call answer old mid since makes is_kept ready first stands) in
              let going = going-made call answer old mid makes in
              elim (goes-on-or answer) [
                | inl on ↦
                    let goes_on = goes-made call answer old mid makes ready first on in
                    let rest = ran-all list answers mid new next all.2 (makes.mapping_prepared is_kept) goes_on.ready (λ is takes. goes_on.committable (later is (sym goes_on.writable ∙ takes))) (stands-next call answer old mid since makes is_kept ready first on stands) in
                    record {
                      last = rest.last;
                      run = (moment mid next, goes, (λ _. rest.run), rest.from);
                      from = is_later_both (g.image old.drivers.0) (g.image mid.drivers.0) (g.image rest.last.now.drivers.0) going.counts_not_fallen rest.from;
                      counts_not_fallen = rest.counts_not_fallen;
                      no_change_refused = λ every. calm-both (g.image old.drivers.0) (g.image mid.drivers.0) (g.image new.drivers.0) goes_on.faults (rest.no_change_refused every.1);
                      same_chain = λ every. same-chain-both g (repairs call answer) (commits call answer) (any_repair list answers) (any_commit list answers) old.drivers mid.drivers new.drivers goes_on.same_chain (rest.same_chain every.1);
                      committable = λ every i. rest.committable every.1 (goes_on.committable i);
                      ends = λ every. rest.ends every.1;
                    }
                | inr off ↦ record {
                  last = moment mid next;
                  run = (moment mid next, goes, (λ on. absurd (off on)), is_later_same (g.image mid.drivers.0));
                  from = going.counts_not_fallen;
                  counts_not_fallen = (going-all list answers mid new all.2).counts_not_fallen;
                  no_change_refused = λ every. absurd (off every.0);
                  same_chain = λ every. absurd (off every.0);
                  committable = λ every. absurd (off every.0);
                  ends = λ every. absurd (off every.0);
                }
              ]
        ]
