-- Lists of calls that start and end with no mapping kept, one list after another.
use Rattle.std.proofs.Common.{◌≡◌, ◌<◌, inl, inr, ℕ, zero, suc, List, ◌∷◌, [], ◌++◌, arith, refl, subst, sym, ap}
use Rattle.std.specs.Prelude.{false, take, Option, Some, None, IsFalse}
use Rattle.imago_storage.specs.declared.fault.Fault.TheVariants.{BadArgument}
use Rattle.imago_access.specs.declared.driver_model.DriverModel.{Ghosts}
use Rattle.imago_access.specs.declared.mapping.PreparedDataMapping.{PreparedDataMapping}
use Rattle.imago_access.specs.Layer.{IsFree}
use Rattle.imago_access.specs.Stops.{IsCovered}
use Rattle.qimg_calls.specs.declared.call.Call.{Call}
use Rattle.qimg_calls.specs.declared.call.Answer.{Answer}
use Rattle.qimg_calls.specs.declared.call.Answer.TheVariants as told
use Rattle.qimg_calls.specs.Calls.{Fits, is_of_mapping, is_out_of_place}
use Rattle.qimg_calls.specs.Since.{Since}
use Rattle.qimg_calls.specs.Held.{ChainWithMapping, chain_with_mapping, IsReady}
use Rattle.qimg_calls.specs.Making.{CallOutcome, Answers, AnswersAll, AnswersAlone, CancelsKept, MadeAll}
use Rattle.qimg_calls.specs.Runs.{CutShort, Driven, HoldsSince, MayCommit}
use Rattle.qimg_calls.proofs.Driven.{driven-made}
use Rattle.qimg_calls.proofs.Lists.{either-cases}

module _ {D St : Type 0} (g : Ghosts D St) where
  -- A call that isn't of a mapping keeps none.
  none-behind : (call : Call) (answer : Answer) (old : D × List D) (mid : ChainWithMapping D St) → IsFalse (is_of_mapping call) → Answers g call answer (chain_with_mapping old None) mid → mid.kept_mapping ≡ None
  none-behind call answer old mid other one =
      elim (either-cases (is_out_of_place false call) ((answer ≡ told.Refused BadArgument) × (mid ≡ chain_with_mapping old None)) (CallOutcome g call answer (chain_with_mapping old None) mid) one) [
        | inl out ↦ ap (λ (h : ChainWithMapping D St). h.kept_mapping) out.1.1
        | inr made ↦ made.1.same other
      ]

  none-given : (call : Call) (answer : Answer) (old d new : D × List D) (kept : Option (PreparedDataMapping St)) → kept ≡ None → Answers g call answer (chain_with_mapping old None) (chain_with_mapping d kept) → CancelsKept g (chain_with_mapping d kept) new
      → AnswersAlone g (call ∷ []) (answer ∷ []) old new
  none-given call answer old d new None none one same = (chain_with_mapping d None, one, ap (λ (c : D × List D). chain_with_mapping {St = St} c None) same)
  none-given call answer old d new (Some m) none one same = absurd (cc none)

  pub alone-one : (call : Call) (answer : Answer) (old new : D × List D) → IsFalse (is_of_mapping call) → MadeAll g (call ∷ []) (answer ∷ []) old new → AnswersAlone g (call ∷ []) (answer ∷ []) old new
  alone-one call answer old new other made =
      let mid = made.1.0 in
      let one = made.1.1 in
      none-given call answer old mid.drivers new mid.kept_mapping (none-behind call answer old mid other one) one (subst (λ (h : ChainWithMapping D St). CancelsKept g h new) made.1.2 made.2)

  -- An empty list changes nothing.
  pub alone-none : (answers : List Answer) (old new : D × List D) → MadeAll g [] answers old new → new ≡ old
  alone-none [] old new made = subst (λ (h : ChainWithMapping D St). CancelsKept g h new) made.1 made.2
  alone-none (answer ∷ answers) old new made = absurd made.1

  both-all : (first second : List Call) (one other : List Answer) (a b c : ChainWithMapping D St) → AnswersAll g first one a b → AnswersAll g second other b c → AnswersAll g (first ++ second) (one ++ other) a c
  both-all [] second [] other a b c same rest = subst (λ h. AnswersAll g second other h c) same rest
  both-all (call ∷ calls) second (answer ∷ answers) other a b c all rest = (all.0, all.1, both-all calls second answers other all.0 b c all.2 rest)
  both-all [] second (answer ∷ answers) other a b c all rest = absurd all
  both-all (call ∷ calls) second [] other a b c all rest = absurd all

  pub alone-both : (first second : List Call) (one other : List Answer) (a b c : D × List D) → AnswersAlone g first one a b → AnswersAlone g second other b c → AnswersAlone g (first ++ second) (one ++ other) a c
  alone-both first second one other a b c = both-all first second one other (chain_with_mapping a None) (chain_with_mapping b None) (chain_with_mapping c None)

  -- The effect of such a list on a chain.
  pub driven-alone : (well_formed_is_coherent : (d : D) → g.well_formed d → g.coherent d) (well_formed_is_sound : (d : D) → g.well_formed d → IsCovered (g.layer d) g.sound (g.image d).bytes)
      (list : List Call) (answers : List Answer) (old new : D × List D) (since : Since) → AnswersAlone g list answers old new → IsFree (g.layer old.0) → IsReady g old → MayCommit g list old → HoldsSince g since old
      → Driven g since list answers old new
  driven-alone well_formed_is_coherent well_formed_is_sound list answers old new since all none ready may stands = driven-made g well_formed_is_coherent well_formed_is_sound list answers old new since (chain_with_mapping new None, all, refl) none ready may stands

  -- The answer fits the call.
  pub alone-fits : (call : Call) (answer : Answer) (old new : D × List D) → AnswersAlone g (call ∷ []) (answer ∷ []) old new → Fits call answer
  alone-fits call answer old new all =
      elim (either-cases (is_out_of_place false call) ((answer ≡ told.Refused BadArgument) × (all.0 ≡ chain_with_mapping old None)) (CallOutcome g call answer (chain_with_mapping old None) all.0) all.1) [
        | inl out ↦ subst (Fits call) (sym out.1.0) tt
        | inr made ↦ made.1.fits
      ]

  cut-none : (call : Call) (answers : List Answer) (old new : D × List D) (count : ℕ) → count < 1 → MadeAll g (take count (call ∷ [])) answers old new → new ≡ old
  cut-none call answers old new zero fewer made = alone-none answers old new made
  cut-none call answers old new (suc n) fewer made = absurd (omega (arith, fewer))

  -- A list of one call that was cut short hasn't made the call.
  pub alone-cut : (call : Call) (old new : D × List D) → CutShort g (call ∷ []) old new → new ≡ old
  alone-cut call old new short = cut-none call short.answers old new short.count short.fewer short.made
