use Rattle.std.proofs.Common.{◌≡◌, refl, sym, ap, ◌∙◌, ◌||◌, ◌+◌, drop, IsFalse}
use Rattle.std.proofs.lemmas.List.{at_drop_all, at_drop_more}
use Rattle.qimg_calls.specs.Calls.{any_commit_down, commits_down as is_commit}
use Rattle.qimg_calls.specs.declared.call.Call.{Call}
use Rattle.qimg_calls.specs.declared.call.Call.TheVariants as calls
use Rattle.host_disk.proofs.attempt.commits_down.Goals as goal
use Rattle.host_disk.proofs.attempt.commits_down.Goals.{in-CommitDown, in_default}

-- Another call than a commit to the layer below.
not-commit : (call : Call) → (call ≡ calls.CommitDown → ⊥) → IsFalse (is_commit call)
not-commit (calls.Read offset n) other = refl
not-commit (calls.Write offset bytes) other = refl
not-commit (calls.WriteZeroes offset n) other = refl
not-commit (calls.DiscardToZero offset n) other = refl
not-commit (calls.DiscardToAny offset n) other = refl
not-commit (calls.DiscardToBacking offset n) other = refl
not-commit (calls.PrepareDataMapping offset n overwrite) other = refl
not-commit calls.CommitDataMapping other = refl
not-commit calls.Cancel other = refl
not-commit (calls.EnsureDataMapping offset n overwrite) other = refl
not-commit (calls.WriteMapped guest place bytes) other = refl
not-commit (calls.GetMapping offset n) other = refl
not-commit (calls.GetShallowMapping offset n) other = refl
not-commit calls.Flush other = refl
not-commit calls.Sync other = refl
not-commit (calls.ResizeGrow size mode) other = refl
not-commit (calls.ResizeShrink size) other = refl
not-commit calls.RepairLeaks other = refl
not-commit calls.CommitDown other = absurd (other refl)

pub returns : goal.returns
returns c = sym (c.loop-call.invariant ∙ at_drop_all any_commit_down c.args.calls.now c.loop-call.call-index c.loop-call-test.false)

pub loop-call-preserved : goal.loop-call-preserved
loop-call-preserved c =
    let item = c.call-item.result in
    let here : IsFalse (is_commit item) = elim c.match-matches.branch [
      | in-CommitDown w ↦ absurd (cc (w.matches-is, c.if-matches.false))
      | in_default w ↦ not-commit item w.in_default.not-CommitDown
    ] in
    let rest = drop (c.loop-call.call-index + 1) c.args.calls.now in
    let next = at_drop_more any_commit_down c.args.calls.now c.loop-call.call-index item c.loop-call-test.true in
    c.loop-call.invariant ∙ (next ∙ (ap (λ i. is_commit i || any_commit_down rest) (sym c.call-item.is)
    ∙ ap (λ b. b || any_commit_down rest) here))
