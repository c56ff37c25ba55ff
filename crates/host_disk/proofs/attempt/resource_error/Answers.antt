use Rattle.std.proofs.Common.{◌≡◌, ◌+◌, refl, sym, subst, List}
use Rattle.std.proofs.lemmas.List.{at_drop_all, at_drop_more}
use Rattle.imago_access.specs.Files.{IsNotResourceError}
use Rattle.imago_storage.specs.declared.fault.Fault.{Fault}
use Rattle.imago_storage.specs.declared.fault.Fault.TheVariants as fault
use Rattle.qimg_calls.specs.Calls.{GoesOn}
use Rattle.qimg_calls.specs.Runs.{AllGoOn}
use Rattle.qimg_calls.specs.declared.call.Answer.{Answer}
use Rattle.qimg_calls.specs.declared.call.Answer.TheVariants as told
use Rattle.host_disk.proofs.attempt.resource_error.Goals as goal
use Rattle.host_disk.proofs.attempt.resource_error.Goals.{in-Refused+else-matches, in_default-matches, in-Memory, in-Memory-2, in_default}

-- Neither of the resource errors.
mild : (f : Fault) → (f ≡ fault.Memory → ⊥) → (f ≡ fault.Storage → ⊥) → IsNotResourceError f
mild fault.ReadOnly memory storage = tt
mild fault.PastEnd memory storage = tt
mild fault.RangeOverflow memory storage = tt
mild fault.DamagedHeader memory storage = tt
mild fault.DamagedTable memory storage = tt
mild fault.DamagedDescriptor memory storage = tt
mild fault.Unsupported memory storage = tt
mild fault.Barred memory storage = tt
mild fault.Outdated memory storage = tt
mild fault.Foreign memory storage = tt
mild fault.VersionLimit memory storage = tt
mild (fault.Limit bound) memory storage = tt
mild fault.MissingBelow memory storage = tt
mild fault.ExtraLayer memory storage = tt
mild fault.MissingData memory storage = tt
mild fault.CacheFull memory storage = tt
mild fault.Counter memory storage = tt
mild fault.BadArgument memory storage = tt
mild fault.Failed memory storage = tt
mild fault.Memory memory storage = absurd (memory refl)
mild fault.Storage memory storage = absurd (storage refl)
mild fault.BadCommand memory storage = tt

-- An answer that isn't an error.
not-refused : (answer : Answer) → ((f : Fault) → answer ≡ told.Refused f → ⊥) → GoesOn answer
not-refused told.Done other = tt
not-refused (told.Bytes bytes) other = tt
not-refused (told.Mapped mapping n) other = tt
not-refused (told.Shallow mapping n) other = tt
not-refused (told.Prepared storage place n state) other = tt
not-refused (told.Leaks pairs) other = tt
not-refused (told.Refused f) other = absurd (other f refl)

pub returns : goal.returns
returns c =
    let none = at_drop_all (λ (l : List Answer). l) c.args.answers.now c.loop-answer.answer-index c.loop-answer-test.false in
    c.loop-answer.invariant (subst (λ l. AllGoOn l) (sym none) tt)

pub loop-answer-preserved : goal.loop-answer-preserved
loop-answer-preserved c = λ rest.
    let item = c.answer-item.result in
    let goes : GoesOn item = elim c.match-answer.branch [
      | in-Refused+else-matches w ↦
          let mild_here = elim w.match-matches.branch as (λ _. IsNotResourceError w.in-Refused.fault) [
            | in_default-matches v ↦ mild w.in-Refused.fault v.in_default-matches.not-Memory v.in_default-matches.not-Storage
            | in-Memory v ↦ absurd (cc (v.matches-is, w.if-matches.false))
            | in-Memory-2 v ↦ absurd (cc (v.matches-is, w.if-matches.false))
          ] in
          subst (λ a. GoesOn a) (sym w.in-Refused.is) mild_here
      | in_default w ↦ not-refused item w.in_default.not-Refused
    ] in
    let more = at_drop_more (λ (l : List Answer). l) c.args.answers.now c.loop-answer.answer-index item c.loop-answer-test.true in
    c.loop-answer.invariant (subst (λ l. AllGoOn l) (sym more) (subst (λ a. GoesOn a) c.answer-item.is goes, rest))
