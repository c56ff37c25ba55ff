-- Images that have failed, over a list of calls.
use Rattle.std.proofs.Common.{◌≡◌, ◌∙◌, inl, inr, List, [], ◌∷◌, ap, refl, subst, sym, false}
use Rattle.std.specs.Prelude.{Bool, Option, Some, None, is_some, IsSome, IsTrue, map, if◌then◌else◌}
use Rattle.imago_storage.specs.declared.fault.Fault.TheVariants.{BadArgument, Failed}
use Rattle.imago_access.specs.declared.driver_model.DriverModel.{Ghosts}
use Rattle.imago_access.specs.declared.mapping.PreparedDataMapping.{PreparedDataMapping}
use Rattle.imago_access.specs.Layer.{Layer}
use Rattle.imago_access.specs.Layers.{chain}
use Rattle.qimg_calls.specs.declared.call.Call.{Call}
use Rattle.qimg_calls.specs.declared.call.Call.TheVariants as calls
use Rattle.qimg_calls.specs.declared.call.Answer.{Answer}
use Rattle.qimg_calls.specs.declared.call.Answer.TheVariants as told
use Rattle.qimg_calls.specs.Calls.{is_out_of_place}
use Rattle.qimg_calls.specs.Held.{ChainWithMapping, chain_with_mapping}
use Rattle.qimg_calls.specs.Making.{CallOutcome, Answers, AnswersAll, CancelsKept, MadeAll}
use Rattle.qimg_calls.specs.Marking.{StayFailed, StaysFailed, answer_of_failed}
use Rattle.qimg_calls.specs.Moves.{refusal_at_once}
use Rattle.qimg_calls.proofs.Lists.{either-cases}

stay-same : (layers : List Layer) → StayFailed layers layers
stay-same [] = tt
stay-same (layer ∷ below) = ((λ f. f), stay-same below)

stay-both : (a b c : List Layer) → StayFailed a b → StayFailed b c → StayFailed a c
stay-both [] [] [] first second = tt
stay-both (x ∷ xs) (y ∷ ys) (z ∷ zs) first second = ((λ f. second.0 (first.0 f)), stay-both xs ys zs first.1 second.1)
stay-both [] (y ∷ ys) c first second = absurd first
stay-both (x ∷ xs) [] c first second = absurd first
stay-both [] [] (z ∷ zs) first second = absurd second
stay-both (x ∷ xs) (y ∷ ys) [] first second = absurd second

module _ {D St : Type 0} (g : Ghosts D St) where
  abbrev layers : D × List D → List Layer
  layers c = map g.layer (chain c)

  pub stays-none : (c : D × List D) → StaysFailed g c c
  stays-none c = stay-same (layers c)

  stays-one : (call : Call) (answer : Answer) (old new : ChainWithMapping D St) → Answers g call answer old new → StaysFailed g old.drivers new.drivers
  stays-one call answer old new one =
      elim (either-cases (is_out_of_place (is_some old.kept_mapping) call) ((answer ≡ told.Refused BadArgument) × (new ≡ old)) (CallOutcome g call answer old new) one) [
        | inl out ↦ subst (λ (h : ChainWithMapping D St). StaysFailed g old.drivers h.drivers) (sym out.1.1) (stay-same (layers old.drivers))
        | inr made ↦ made.1.stays_failed
      ]

  stays-all : (list : List Call) (answers : List Answer) (old new : ChainWithMapping D St) → AnswersAll g list answers old new → StaysFailed g old.drivers new.drivers
  stays-all [] [] old new same = subst (λ (h : ChainWithMapping D St). StaysFailed g old.drivers h.drivers) (sym same) (stay-same (layers old.drivers))
  stays-all (call ∷ list) (answer ∷ answers) old new all = stay-both (layers old.drivers) (layers all.0.drivers) (layers new.drivers) (stays-one call answer old all.0 all.1) (stays-all list answers all.0 new all.2)
  stays-all [] (answer ∷ answers) old new all = absurd all
  stays-all (call ∷ list) [] old new all = absurd all

  stays-ended : (d : D × List D) (kept : Option (PreparedDataMapping St)) (new : D × List D) → CancelsKept g (chain_with_mapping d kept) new → StaysFailed g d new
  stays-ended d None new same = subst (StaysFailed g d) (sym same) (stay-same (layers d))
  stays-ended d (Some m) new up = up.0.stays_failed

  -- An image that has failed still has after a list of calls, with the cancel at its end.
  pub stays-made : (list : List Call) (answers : List Answer) (old new : D × List D) → MadeAll g list answers old new → StaysFailed g old new
  stays-made list answers old new made = let last = made.0 in
      stay-both (layers old) (layers last.drivers) (layers new) (stays-all list answers (chain_with_mapping old None) last made.1) (stays-ended last.drivers last.kept_mapping new made.2)

  -- If the top has failed, a call that is made on it fails before anything is done. A cancel isn't made, as no mapping is kept.
  failed-first : (call : Call) (old : ChainWithMapping D St) → IsTrue (g.layer old.drivers.0).failed → is_out_of_place false call ≡ false → old.kept_mapping ≡ None → refusal_at_once g call old ≡ Some Failed
  failed-first (calls.Read offset n) old failed placed none = rw failed refl
  failed-first (calls.Write offset bytes) old failed placed none = rw failed refl
  failed-first (calls.WriteZeroes offset n) old failed placed none = rw failed refl
  failed-first (calls.DiscardToZero offset n) old failed placed none = rw failed refl
  failed-first (calls.DiscardToAny offset n) old failed placed none = rw failed refl
  failed-first (calls.DiscardToBacking offset n) old failed placed none = rw failed refl
  failed-first (calls.PrepareDataMapping offset n overwrite) old failed placed none = rw failed refl
  failed-first (calls.EnsureDataMapping offset n overwrite) old failed placed none = rw failed refl
  failed-first (calls.WriteMapped guest place bytes) old failed placed none = absurd (cc placed)
  failed-first calls.CommitDown old failed placed none = rw failed refl
  failed-first calls.CommitDataMapping old failed placed none = absurd (cc placed)
  failed-first calls.Cancel old failed placed none = absurd (cc placed)
  failed-first (calls.GetMapping offset n) old failed placed none = rw failed refl
  failed-first (calls.GetShallowMapping offset n) old failed placed none = rw failed refl
  failed-first calls.Flush old failed placed none = rw failed refl
  failed-first calls.Sync old failed placed none = rw failed refl
  failed-first (calls.ResizeGrow size mode) old failed placed none = rw failed refl
  failed-first (calls.ResizeShrink size) old failed placed none = rw failed refl
  failed-first calls.RepairLeaks old failed placed none = rw failed refl

  -- One call on a top that has failed: the answer, and that no mapping is kept.
  fails-one : (call : Call) (answer : Answer) (old new : ChainWithMapping D St) → Answers g call answer old new → old.kept_mapping ≡ None → IsTrue (g.layer old.drivers.0).failed
      → (answer ≡ answer_of_failed call) × (new.kept_mapping ≡ None)
  fails-one call answer old new one none failed =
      let one' : Answers g call answer (chain_with_mapping old.drivers None) new = subst (λ (k : Option (PreparedDataMapping St)). Answers g call answer (chain_with_mapping old.drivers k) new) none one in
      elim (either-cases (is_out_of_place false call) ((answer ≡ told.Refused BadArgument) × (new ≡ chain_with_mapping old.drivers None)) (CallOutcome g call answer (chain_with_mapping old.drivers None) new) one') [
        | inl out ↦ (subst (λ (b : Bool). answer ≡ told.Refused (if b then BadArgument else Failed)) (sym out.0) out.1.0, ap (λ (h : ChainWithMapping D St). h.kept_mapping) out.1.1)
        | inr made ↦
            let first = failed-first call (chain_with_mapping old.drivers None) failed made.0 refl in
            (subst (λ (b : Bool). answer ≡ told.Refused (if b then BadArgument else Failed)) (sym made.0) (made.1.early_outcome Failed first), made.1.stays_kept (subst IsSome (sym first) refl))
      ]

  fails-all : (list : List Call) (answers : List Answer) (old new : ChainWithMapping D St) → AnswersAll g list answers old new → old.kept_mapping ≡ None → IsTrue (g.layer old.drivers.0).failed → answers ≡ map answer_of_failed list
  fails-all [] [] old new same none failed = refl
  fails-all (call ∷ list) (answer ∷ answers) old new all none failed =
      let one = fails-one call answer old all.0 all.1 none failed in
      let rest = fails-all list answers all.0 new all.2 one.1 ((stays-one call answer old all.0 all.1).0 failed) in
      ap (λ (a : Answer). a ∷ answers) one.0 ∙ ap (λ (rest : List Answer). answer_of_failed call ∷ rest) rest
  fails-all [] (answer ∷ answers) old new all none failed = absurd all
  fails-all (call ∷ list) [] old new all none failed = absurd all

  -- If the top has failed, each call of a list fails.
  pub fails-made : (list : List Call) (answers : List Answer) (old new : D × List D) → MadeAll g list answers old new → IsTrue (g.layer old.0).failed → answers ≡ map answer_of_failed list
  fails-made list answers old new made failed = fails-all list answers (chain_with_mapping old None) made.0 made.1 refl failed
