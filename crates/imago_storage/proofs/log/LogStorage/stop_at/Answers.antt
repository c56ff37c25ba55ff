use Rattle.std.proofs.Common.{◌≡◌, ◌∙◌, refl, arith, rules, ap, take}
use Rattle.std.proofs.lemmas.List.{take_all}
use Rattle.imago_storage.specs.Log.{replay, log_state, log_requests, log_base}
use Rattle.imago_storage.proofs.Handing.{err-handed, err-memory, not-ok, replayed-copy}
use Rattle.imago_storage.proofs.Replay.{file_told}
use Rattle.imago_storage.proofs.log.LogStorage.stop_at.Goals as goal

pub returns-in_err-file-clause-ok : goal.returns-in_err-file-clause-ok
returns-in_err-file-clause-ok g c = not-ok c.from_residual.result _ _ c.from_residual.ensures.1

pub returns-in_err-file-clause-first : goal.returns-in_err-file-clause-first
returns-in_err-file-clause-first g c = λ _. not-ok c.from_residual.result _ _ c.from_residual.ensures.1

pub returns-in_err-file-clause-last : goal.returns-in_err-file-clause-last
returns-in_err-file-clause-last g c = λ _. not-ok c.from_residual.result _ _ c.from_residual.ensures.1

pub returns-in_err-file-clause-now : goal.returns-in_err-file-clause-now
returns-in_err-file-clause-now g c = λ _. not-ok c.from_residual.result _ _ c.from_residual.ensures.1

pub returns-in_err-file-clause-told : goal.returns-in_err-file-clause-told
returns-in_err-file-clause-told g c = not-ok c.from_residual.result _ _ c.from_residual.ensures.1

pub returns-in_err-file-clause-err : goal.returns-in_err-file-clause-err
returns-in_err-file-clause-err g c = err-memory _ c.from_residual.ensures.1

pub returns-in_err-apply_all-clause-ok : goal.returns-in_err-apply_all-clause-ok
returns-in_err-apply_all-clause-ok g c = not-ok c.from_residual-in_err-apply_all.result _ _ c.from_residual-in_err-apply_all.ensures.1

pub returns-in_err-apply_all-clause-first : goal.returns-in_err-apply_all-clause-first
returns-in_err-apply_all-clause-first g c = λ _. not-ok c.from_residual-in_err-apply_all.result _ _ c.from_residual-in_err-apply_all.ensures.1

pub returns-in_err-apply_all-clause-last : goal.returns-in_err-apply_all-clause-last
returns-in_err-apply_all-clause-last g c = λ _. not-ok c.from_residual-in_err-apply_all.result _ _ c.from_residual-in_err-apply_all.ensures.1

pub returns-in_err-apply_all-clause-now : goal.returns-in_err-apply_all-clause-now
returns-in_err-apply_all-clause-now g c = λ _. not-ok c.from_residual-in_err-apply_all.result _ _ c.from_residual-in_err-apply_all.ensures.1

pub returns-in_err-apply_all-clause-told : goal.returns-in_err-apply_all-clause-told
returns-in_err-apply_all-clause-told g c = not-ok c.from_residual-in_err-apply_all.result _ _ c.from_residual-in_err-apply_all.ensures.1

pub returns-in_err-apply_all-clause-err : goal.returns-in_err-apply_all-clause-err
returns-in_err-apply_all-clause-err g c = err-handed _ _ _ c.from_residual-in_err-apply_all.ensures.1 c.in_err-apply_all.ensures.err

pub returns-clause-ok : goal.returns-clause-ok
unfolding log_state log_requests log_base
returns-clause-ok g c =
    let copied : c.in_ok-file.file.items ≡ c.deref.result.now = search rules in
    let file = replayed-copy _ _ _ c.args.k _ _ c.in_ok-apply_all.ensures.ok (copied ∙ c.deref.ensures.value) c.deref-2.ensures.value in
    file

pub returns-clause-first : goal.returns-clause-first
unfolding log_state log_requests log_base
returns-clause-first g c =
    let copied : c.in_ok-file.file.items ≡ c.deref.result.now = search rules in
    let file = replayed-copy _ _ _ c.args.k _ _ c.in_ok-apply_all.ensures.ok (copied ∙ c.deref.ensures.value) c.deref-2.ensures.value in
    λ none. file ∙ ap (λ j. replay c.args.self.now.base.items (take j c.args.self.now.requests.items)) none

pub returns-clause-last : goal.returns-clause-last
unfolding log_state log_requests log_base
returns-clause-last g c =
    let copied : c.in_ok-file.file.items ≡ c.deref.result.now = search rules in
    let file = replayed-copy _ _ _ c.args.k _ _ c.in_ok-apply_all.ensures.ok (copied ∙ c.deref.ensures.value) c.deref-2.ensures.value in
    λ all. file ∙ ap (replay c.args.self.now.base.items) (take_all c.args.k c.args.self.now.requests.items (omega (arith, all)))

pub returns-clause-now : goal.returns-clause-now
unfolding log_state log_requests log_base
returns-clause-now g c =
    let copied : c.in_ok-file.file.items ≡ c.deref.result.now = search rules in
    let file = replayed-copy _ _ _ c.args.k _ _ c.in_ok-apply_all.ensures.ok (copied ∙ c.deref.ensures.value) c.deref-2.ensures.value in
    λ all in_step keeps. file ∙ ap (replay c.args.self.now.base.items) (take_all c.args.k c.args.self.now.requests.items (omega (arith, all))) ∙ in_step refl keeps

pub returns-clause-told : goal.returns-clause-told
unfolding log_state log_requests log_base
returns-clause-told g c =
    let copied : c.in_ok-file.file.items ≡ c.deref.result.now = search rules in
    let file = replayed-copy _ _ _ c.args.k _ _ c.in_ok-apply_all.ensures.ok (copied ∙ c.deref.ensures.value) c.deref-2.ensures.value in
    file_told c.args.self.now.base.items c.args.self.now.requests.items c.args.k _ c.requires file
