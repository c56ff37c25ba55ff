-- A commit to the layer below as a call of a list.
use Rattle.std.proofs.Common.{◌≡◌, ◌⊎◌, ℕ, ◌<◌, ◌+◌, ◌^◌, List, [], ◌∷◌, length, refl, sym, ◌∙◌, ap, subst, inl, inr, true, false}
use Rattle.std.specs.Prelude.{⊤, Bool, ◌&&◌, ◌||◌, not, ltb, if◌then◌else◌, Option, Some, None, Result, Ok, Err, OnOk, IfErr, IsErrOf, drop, map}
use Rattle.std.proofs.lemmas.Result.{IfErr-weaker}
use Rattle.imago_storage.specs.declared.fault.Fault.{Fault}
use Rattle.imago_storage.specs.declared.fault.Fault.TheVariants.{BadArgument, Failed, ReadOnly, Storage}
use Rattle.imago_access.specs.declared.driver_model.DriverModel.{Ghosts}
use Rattle.imago_access.specs.Chain.{Each}
use Rattle.imago_access.specs.ChainCalls.{ChainFails, ChainStays, UnlessResourceError}
use Rattle.imago_access.specs.Committing.{BelowTakesDisk, CommitDownFails, CommitDownRefused, CommitsDown, GivesOwn, IsCommittable, IsSettled, MarksCommitFailed, NextPair, OfNext, Vacates, commit_down_refusal, first_fault}
use Rattle.imago_access.specs.Files.{HadNoResourceError, IsNotResourceError, files_of}
use Rattle.imago_access.specs.Layer.{Layer, KeepsLayerState}
use Rattle.imago_access.specs.Refusals.{unusable_fault}
use Rattle.imago_access.specs.Running.{ChainRangeChange, IsIntactChain}
use Rattle.imago_access.specs.Stops.{IsWritten}
use Rattle.imago_access.proofs.CommitEnds.{commit_allowed, commit_storage, marks_same, moments_same, no_next}
use Rattle.imago_access.proofs.CommitValues.{if_none}
use Rattle.imago_access.proofs.FilePairs.{is_later_same, kept_all_same}
use Rattle.qimg_calls.specs.declared.call.Answer.TheVariants as told
use Rattle.qimg_calls.specs.declared.call.Call.TheVariants as calls
use Rattle.qimg_calls.specs.Calls.{GoesOn}
use Rattle.qimg_calls.specs.CommittingDown.{CommitCallCause, FillsNext, LeavesAfterCommit, StayClean, commit_call_refusal, next_is_prepared, takes_commits}
use Rattle.qimg_calls.specs.Held.{IsReady, chain_with_mapping}
use Rattle.qimg_calls.specs.Making.{CallFails, MakesAlone, done_or_refused}
use Rattle.qimg_calls.specs.Marking.{StayFailed}
use Rattle.qimg_calls.proofs.EarlyEnds.{all-unchanged, states-stay-failed, top-stays-failed, value-of}
use Rattle.qimg_calls.proofs.Leading.{usable-by}
use Rattle.qimg_calls.proofs.Moving.{not-cut, told-done, told-fits, told-marks, told-moves, told-refused}

-- The order of the first causes.
pub first-failed : (top : Layer) (below : List Layer) → top.failed ≡ true → commit_call_refusal top below ≡ Some Failed
first-failed top below failed = rw failed refl

pub first-prepared : (top : Layer) (below : List Layer) → top.failed ≡ false → next_is_prepared below ≡ true → commit_call_refusal top below ≡ Some BadArgument
first-prepared top below failed prepared = rw (failed, prepared) refl

pub not-early : (top : Layer) (below : List Layer) → top.failed ≡ false → next_is_prepared below ≡ false → commit_call_refusal top below ≡ commit_down_refusal top below
not-early top below failed prepared = rw (failed, prepared) refl

-- The top and the next layer are writable if a commit doesn't fail early.
both-true : (a b : Bool) → not a || not b ≡ false → a && b ≡ true
both-true true true is = refl
both-true true false is = absurd (cc is)
both-true false b is = absurd (cc is)

begun-down : (top : Layer) (below : List Layer) → commit_call_refusal top below ≡ None → commit_down_refusal top below ≡ None
begun-down top below none = (if_none (next_is_prepared below) BadArgument (commit_down_refusal top below) (if_none top.failed Failed (if next_is_prepared below then Some BadArgument else commit_down_refusal top below) none).1).1

pub begun-takes : (top : Layer) (below : List Layer) → commit_call_refusal top below ≡ None → takes_commits (top ∷ below) ≡ true
begun-takes top [] none = absurd (no_next top (begun-down top [] none))
begun-takes top (next ∷ rest) none = both-true top.fixed.writable next.fixed.writable
    (if_none (not top.fixed.writable || not next.fixed.writable) ReadOnly (if ltb next.size top.size then Some BadArgument else first_fault (unusable_fault top) (unusable_fault next)) (commit_allowed top next rest (begun-down top (next ∷ rest) none))).0

-- A clause that holds without a resource error, on success and after another error.
when-ok : (result : Result Unit Fault) (P : Type 0) → (HadNoResourceError result → P) → OnOk result P
when-ok (Ok unit) P holds = holds tt
when-ok (Err fault) P holds = tt

when-refused : (result : Result Unit Fault) (P : Type 0) → (HadNoResourceError result → P) → UnlessResourceError result P
when-refused (Ok unit) P holds = tt
when-refused (Err fault) P holds = holds

value-or : {A : Type 0} (u : Option A) → (u ≡ None) ⊎ ((a : A) × (u ≡ Some a))
value-or None = inl refl
value-or (Some a) = inr (a, refl)

module _ {D St : Type 0} (g : Ghosts D St) where
  -- A chain stays writable, or read-only.
  takes-same : {a b : D} (olds news : List D) → (g.layer b).fixed ≡ (g.layer a).fixed → NextPair (λ n m. KeepsLayerState (g.layer n.0) (g.layer m.0)) olds news → takes_commits (map g.layer (b ∷ news)) ≡ takes_commits (map g.layer (a ∷ olds))
  takes-same [] [] fixed like = refl
  takes-same (x ∷ xs) (y ∷ ys) fixed like = rw (fixed, like.fixed) refl
  takes-same [] (y ∷ ys) fixed like = absurd like
  takes-same (x ∷ xs) [] fixed like = absurd like

  fills-next : (result : Result Unit Fault) (old new : D × List D) → OnOk result (BelowTakesDisk g old new) → OnOk result (IsSettled g new.0 × OfNext (λ n. IsSettled g n.0) new.1) → OnOk result (FillsNext g old new)
  fills-next (Ok unit) old new below settled = record { below = below; top = settled.0; next = settled.1 }
  fills-next (Err fault) old new below settled = tt

  -- The layers below the top after a commit.
  record NextKept (whole : Type 0) (olds news : List D) : Type 0 where
    failed : StayFailed (map g.layer olds) (map g.layer news)
    deeper : StayClean g (drop 1 olds) (drop 1 news)
    deeper_layers : whole → OfNext (λ n. IsIntactChain g n × IsWritten g n.0) olds → map g.layer (drop 1 news) ≡ map g.layer (drop 1 olds)
    usable : whole → OfNext (λ n. IsIntactChain g n × IsWritten g n.0) olds → OfNext (λ n. IsIntactChain g n × IsWritten g n.0) news → Each (λ l. unusable_fault l ≡ None) (map g.layer olds)
        → Each (λ l. unusable_fault l ≡ None) (map g.layer news)
    as_many : whole → OfNext (λ n. IsIntactChain g n × IsWritten g n.0) olds → length (map g.layer news) ≡ length (map g.layer olds)

  next-kept : (whole : Type 0) (top : D) (well_formed_is_usable : (d : D) → g.well_formed d → (g.layer d).failed ≡ false) (olds news : List D) → NextPair (ChainRangeChange g whole (GivesOwn g top)) olds news
      → NextPair (λ n m. KeepsLayerState (g.layer n.0) (g.layer m.0)) olds news → NextKept whole olds news
  next-kept whole top well_formed_is_usable [] [] next like = record {
    failed = tt;
    deeper = λ clean. (tt, tt);
    deeper_layers = λ w i. refl;
    usable = λ w i j all. tt;
    as_many = λ w i. refl;
  }
  next-kept whole top well_formed_is_usable (x ∷ xs) (y ∷ ys) next like =
      let same : whole → OfNext (λ n. IsIntactChain g n × IsWritten g n.0) (x ∷ xs) → map g.layer ys ≡ map g.layer xs = λ w i. (next.lookup_call.stays w i.0.is_coherent).0 in
      record {
        failed = (like.failed, states-stay-failed (map g.layer xs) (map g.layer ys) next.lookup_call.keeps_layer_state);
        deeper = λ clean. next.lookup_call.unchanged_but_faults clean;
        deeper_layers = same;
        usable = λ w i j all. (
          usable-by (g.layer y) (g.layer x) (well_formed_is_usable y j.0.is_well_formed) (well_formed_is_usable x i.0.is_well_formed) like.fixed all.0,
          subst (Each (λ l. unusable_fault l ≡ None)) (sym (same w i)) all.1,
        );
        as_many = λ w i. ap (λ (ls : List Layer). length (g.layer x ∷ ls)) (same w i);
      }
  next-kept whole top well_formed_is_usable [] (y ∷ ys) next like = absurd next
  next-kept whole top well_formed_is_usable (x ∷ xs) [] next like = absurd next

  -- The commit failed before anything was done.
  pub early-makes : (fault : Fault) (c : D × List D) → commit_call_refusal (g.layer c.0) (map g.layer c.1) ≡ Some fault → (fault ≡ Storage → ⊥) → MakesAlone g calls.CommitDown (told.Refused fault) c c
  early-makes fault c is other = record {
    fits = tt;
    early_outcome = λ f first. ap told.Refused (cc (is, first));
    idle = λ nothing usable. absurd nothing;
    untouched = λ early. all-unchanged g c c refl;
    stays_kept = λ some. refl;
    moves = λ i. (inl is, λ not_resource_error. (record { size = refl; value = λ p inside. refl; hold = λ p inside. refl }, refl));
    room = λ intact on. tt;
    units = λ intact may was. tt;
    marks_failed = marks_same g fault c other;
    stays_failed = top-stays-failed g c c (λ failed. failed) refl;
    failed = inl is;
    cancels = λ same. absurd (cc same);
    leads = record {
      fixed = refl;
      counts_not_fallen = is_later_same (g.image c.0);
      faults = λ on. (refl, refl);
      excess_refcount = λ on may n. refl;
      disk = λ on may. record { size = refl; value = λ p inside. refl; hold = λ p inside. refl };
      deeper = λ clean. (kept_all_same (files_of g (drop 1 c.1)), clean);
      deeper_layers = λ on may. refl;
      committable = λ on i. i;
      ready = λ on ready may. ready;
      writable = refl;
      course = λ may. record {
        flushed = c.0;
        mid = c;
        moments = moments_same g c;
        vacates = λ was. absurd was;
        flushes_first = λ none on. absurd (cc (none, is));
      };
    };
    mapping_prepared = λ kept. kept;
    same = λ _. refl;
  }

  module _ (well_formed_is_usable : (d : D) → g.well_formed d → (g.layer d).failed ≡ false) (result : Result Unit Fault) (old new : D × List D) (does : CommitsDown g result old new)
      (first : commit_call_refusal (g.layer old.0) (map g.layer old.1) ≡ commit_down_refusal (g.layer old.0) (map g.layer old.1)) (none : commit_call_refusal (g.layer old.0) (map g.layer old.1) ≡ None) where
    kept : NextKept (HadNoResourceError result) old.1 new.1
    kept = next-kept (HadNoResourceError result) old.0 well_formed_is_usable old.1 new.1 does.next does.next_keeps_layer_state

    -- The chain after the commit.
    commit-ready : HadNoResourceError result → IsReady g old → IsCommittable g old → IsReady g new
    commit-ready w ready i =
        let now = does.committable i w in
        record {
          intact = now.chain;
          usable = (usable-by (g.layer new.0) (g.layer old.0) (well_formed_is_usable new.0 now.chain.is_well_formed) (well_formed_is_usable old.0 i.chain.is_well_formed) does.top.fixed ready.usable.0, kept.usable w i.next now.next ready.usable.1);
          has_no_dirty_data = does.below_is_clean i w ready.has_no_dirty_data;
          layers_bounded = subst (λ (n : ℕ). n + 1 < 2 ^ 64) (sym (kept.as_many w i.next)) ready.layers_bounded;
        }

    commit-leads : LeavesAfterCommit g (done_or_refused result) old new
    commit-leads = record {
      fixed = does.top.fixed;
      counts_not_fallen = does.mutating_call.counts_not_fallen.0;
      faults = λ on. (does.mutating_call.faults (not-cut result on)).0;
      excess_refcount = λ on may. does.mutating_call.excess_refcount (not-cut result on) (may none).chain.is_well_formed;
      disk = λ on may. does.disk (may none) (not-cut result on);
      deeper = kept.deeper;
      deeper_layers = λ on may. kept.deeper_layers (not-cut result on) (may none).next;
      committable = λ on i. does.committable i (not-cut result on);
      ready = λ on ready may. commit-ready (not-cut result on) ready (may none);
      writable = takes-same old.1 new.1 does.top.fixed does.next_keeps_layer_state;
      course = λ may. let m = does.moments (may none) in record {
        flushed = m.0;
        mid = m.1;
        moments = m.2;
        vacates = λ was. told-done (Vacates g m.1 new.0) result was m.3;
        flushes_first = λ none on. m.4 (sym first ∙ none) (not-cut result on);
      };
    }

    -- The commit began.
    begun-makes : IfErr result (CommitDownFails g old new) → IfErr result (MarksCommitFailed g old new) → (IsCommittable g old → IfErr result (CommitDownRefused g old new)) → MakesAlone g calls.CommitDown (done_or_refused result) old new
    begun-makes failed marks cause = record {
      fits = told-fits calls.CommitDown result refl;
      early_outcome = λ f is. absurd (cc (is, none));
      idle = λ nothing usable. absurd nothing;
      untouched = λ ends. elim ends [ inl nothing ↦ absurd nothing | inr some ↦ let f = value-of (commit_call_refusal (g.layer old.0) (map g.layer old.1)) some in absurd (cc (f.1, none)) ];
      stays_kept = λ some. refl;
      moves = λ may. told-moves g calls.CommitDown result (chain_with_mapping old None) (chain_with_mapping new None) refl (when-ok result (ChainStays g old new) (does.disk (may none))) (fills-next result old new (does.below (may none)) (does.flushed (may none)))
          (IfErr-weaker result (CommitDownRefused g old new) (CommitCallCause g old new) (λ e h. inr h) (cause (may none))) (when-refused result (ChainStays g old new) (does.disk (may none)));
      room = λ intact on. tt;
      units = λ intact may was. tt;
      marks_failed = told-marks (MarksCommitFailed g old new) result marks;
      stays_failed = (does.mutating_call.failed, kept.failed);
      failed = told-marks (CallFails g calls.CommitDown (chain_with_mapping {St = St} old None) (chain_with_mapping new None)) result
          (IfErr-weaker result (CommitDownFails g old new) (CallFails g calls.CommitDown (chain_with_mapping {St = St} old None) (chain_with_mapping new None)) (λ e h. elim h [ inl is ↦ inl (first ∙ is) | inr fails ↦ inr fails ]) failed);
      cancels = λ same. absurd (cc same);
      leads = commit-leads;
      mapping_prepared = λ k. record { mine = tt; free = λ none. rw (does.top.unspent) (k.free refl) };
      same = λ _. refl;
    }

  -- `commit_down` was called.
  module _ (well_formed_is_usable : (d : D) → g.well_formed d → (g.layer d).failed ≡ false) (result : Result Unit Fault) (old new : D × List D) (does : CommitsDown g result old new)
      (first : commit_call_refusal (g.layer old.0) (map g.layer old.1) ≡ commit_down_refusal (g.layer old.0) (map g.layer old.1)) where
    early-result : (f : Fault) → commit_call_refusal (g.layer old.0) (map g.layer old.1) ≡ Some f → IsErrOf result f × (new ≡ old) → MakesAlone g calls.CommitDown (done_or_refused result) old new
    early-result f is early =
        let answer : done_or_refused result ≡ told.Refused f = told-refused result f early.0 in
        rw (answer, early.1) (early-makes f old is (λ storage. commit_storage (g.layer old.0) (map g.layer old.1) (sym first ∙ is ∙ ap Some storage)))

    pub commit-makes : ((f : Fault) → commit_down_refusal (g.layer old.0) (map g.layer old.1) ≡ Some f → IsErrOf result f × (new ≡ old)) → IfErr result (CommitDownFails g old new) → IfErr result (MarksCommitFailed g old new)
        → (IsCommittable g old → IfErr result (CommitDownRefused g old new)) → MakesAlone g calls.CommitDown (done_or_refused result) old new
    commit-makes early failed marks cause = elim (value-or (commit_call_refusal (g.layer old.0) (map g.layer old.1))) [
      | inl none ↦ begun-makes well_formed_is_usable result old new does first none failed marks cause
      | inr some ↦ early-result some.0 some.1 (early some.0 (sym first ∙ some.1))
    ]
