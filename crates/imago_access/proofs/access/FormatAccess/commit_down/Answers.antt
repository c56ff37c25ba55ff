use Rattle.std.proofs.Common.{◌≡◌, inr, ◌∙◌, [], List, ap, map, subst, sym}
use Rattle.std.specs.Prelude.{None, IfErr}
use Rattle.std.proofs.lemmas.Result.{IfErr-weaker}
use Rattle.imago_access.specs.Committing.{CommitDownCause, CommitDownFails, CommitDownRefused, CommitsDown, IsCommittable, IsFailedOrSound, MarksCommitFailed, NextPair, OfNext, commit_down_refusal, pair_refusal}
use Rattle.imago_storage.specs.declared.fault.Fault.TheVariants.{Memory}
use Rattle.imago_access.specs.ChainCalls.{ChainFails}
use Rattle.imago_access.specs.Layers.{chain, layers}
use Rattle.imago_access.proofs.Answers.{handed_on}
use Rattle.imago_access.proofs.CommitEnds.{commit_allowed, commits_same, no_next}
use Rattle.imago_access.proofs.access.FormatAccess.commit_down.Goals as goal

pub returns-in_err-check_commit_down-clause-does : goal.returns-in_err-check_commit_down-clause-does
returns-in_err-check_commit_down-clause-does g c = rw (handed_on _ _ c.from_residual.ensures.1) (commits_same g.D.DriverModel c.in_err-check_commit_down.field-0.0 c.args.self.now (λ none whole. cc (none, c.in_err-check_commit_down.ensures.err)))

pub returns-in-Err-clause-does : goal.returns-in-Err-clause-does
returns-in-Err-clause-does g c = commits_same g.D.DriverModel Memory c.args.self.now (λ none whole. whole)

pub returns-in-None-clause-does : goal.returns-in-None-clause-does
returns-in-None-clause-does g c = let d = g.D.DriverModel in let now = c.args.self.now in
    let empty : now.1 ≡ [] = ap (λ (s : g.row.D.Denot × List g.row.D.Denot). s.1) (sym c.self.view_is) ∙ ap layers c.in-None.is in
    absurd (no_next (d.layer now.0) (subst (λ (below : List g.row.D.Denot). commit_down_refusal (d.layer now.0) (map d.layer below) ≡ None) empty c.in_ok-check_commit_down.ensures.ok))

pub returns-in-None-clause-failed : goal.returns-in-None-clause-failed
returns-in-None-clause-failed g c = let d = g.D.DriverModel in let now = c.args.self.now in
    let empty : now.1 ≡ [] = ap (λ (s : g.row.D.Denot × List g.row.D.Denot). s.1) (sym c.self.view_is) ∙ ap layers c.in-None.is in
    absurd (no_next (d.layer now.0) (subst (λ (below : List g.row.D.Denot). commit_down_refusal (d.layer now.0) (map d.layer below) ≡ None) empty c.in_ok-check_commit_down.ensures.ok))

pub commit_marked-requires-clause-allowed : goal.commit_marked-requires-clause-allowed
commit_marked-requires-clause-allowed g c = let d = g.D.DriverModel in let top = c.self.inside.driver in
    let here = subst (λ s. commit_down_refusal (d.layer s.0) (map d.layer s.1) ≡ None) (sym c.self.view_is) c.in_ok-check_commit_down.ensures.ok in
    let there = subst (λ b. commit_down_refusal (d.layer top) (map d.layer (layers b)) ≡ None) c.in-Some.is here in
    subst (λ z. pair_refusal (d.layer top) (d.layer z.0) ≡ None) (sym c.deref_mut.ensures.value) (commit_allowed (d.layer top) (d.layer c.in-Some.next.value.0) (map d.layer c.in-Some.next.value.1) there)

pub returns-clause-does : goal.returns-clause-does
returns-clause-does g c = let d = g.D.DriverModel in let r = c.commit_marked.result in let top = c.self.inside.driver in
    let new : g.row.D.Denot × List g.row.D.Denot = (c.commit_marked.new.driver, chain c.commit_marked.new.next) in
    subst (λ s. CommitsDown d r s new) c.self.view_is (subst (λ b. CommitsDown d r (top, layers b) new) (sym c.in-Some.is)
    (subst (λ z. CommitsDown d r (top, chain z) new) c.deref_mut.ensures.value c.commit_marked.ensures.does))

pub returns-clause-failed : goal.returns-clause-failed
returns-clause-failed g c = let d = g.D.DriverModel in let r = c.commit_marked.result in let top = c.self.inside.driver in
    let new : g.row.D.Denot × List g.row.D.Denot = (c.commit_marked.new.driver, chain c.commit_marked.new.next) in
    IfErr-weaker r (ChainFails d c.args.self.now new) (CommitDownFails d c.args.self.now new) (λ e h. inr h)
    (subst (λ s. IfErr r (ChainFails d s new)) c.self.view_is (subst (λ b. IfErr r (ChainFails d (top, layers b) new)) (sym c.in-Some.is)
    (subst (λ z. IfErr r (ChainFails d (top, chain z) new)) c.deref_mut.ensures.value c.commit_marked.ensures.failed)))

pub returns-clause-marks_failed : goal.returns-clause-marks_failed
returns-clause-marks_failed g c = let d = g.D.DriverModel in let r = c.commit_marked.result in let top = c.self.inside.driver in
    let new : g.row.D.Denot × List g.row.D.Denot = (c.commit_marked.new.driver, chain c.commit_marked.new.next) in
    subst (λ s. IfErr r (MarksCommitFailed d s new)) c.self.view_is (subst (λ b. IfErr r (MarksCommitFailed d (top, layers b) new)) (sym c.in-Some.is)
    (subst (λ z. IfErr r (MarksCommitFailed d (top, chain z) new)) c.deref_mut.ensures.value c.commit_marked.ensures.marks_failed))

pub returns-clause-next_usable : goal.returns-clause-next_usable
returns-clause-next_usable g c = let d = g.D.DriverModel in let news = chain c.commit_marked.new.next in
    subst (λ s. NextPair (IsFailedOrSound d) s.1 news) c.self.view_is (subst (λ b. NextPair (IsFailedOrSound d) (layers b) news) (sym c.in-Some.is)
    (subst (λ z. NextPair (IsFailedOrSound d) (chain z) news) c.deref_mut.ensures.value c.commit_marked.ensures.usable))

pub returns-clause-cause : goal.returns-clause-cause
returns-clause-cause g c i = let d = g.D.DriverModel in let r = c.commit_marked.result in let top = c.self.inside.driver in let now = c.args.self.now in
    let new : g.row.D.Denot × List g.row.D.Denot = (c.commit_marked.new.driver, chain c.commit_marked.new.next) in
    IfErr-weaker r (λ e. OfNext (λ n. CommitDownCause d now.0 n new.1 e) now.1) (CommitDownRefused d now new) (λ e h. inr (inr h))
    (subst (λ s. IsCommittable d s → IfErr r (λ e. OfNext (λ n. CommitDownCause d s.0 n new.1 e) s.1)) c.self.view_is
    (subst (λ b. IsCommittable d (top, layers b) → IfErr r (λ e. OfNext (λ n. CommitDownCause d top n new.1 e) (layers b))) (sym c.in-Some.is)
    (subst (λ z. IsCommittable d (top, chain z) → IfErr r (λ e. OfNext (λ n. CommitDownCause d top n new.1 e) (chain z))) c.deref_mut.ensures.value c.commit_marked.ensures.cause)) i)
