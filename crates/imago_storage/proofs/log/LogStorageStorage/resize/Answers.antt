use Rattle.std.proofs.Common.{refl, true, ap, ◌∙◌, ◌≡◌}
use Rattle.imago_storage.specs.State.{Shape}
use Rattle.imago_storage.specs.declared.log.Request.TheVariants.{Resize}
use Rattle.imago_storage.specs.Log.{log_state}
use Rattle.imago_storage.proofs.Replay.{resized_log, request_pushed}
use Rattle.imago_storage.proofs.Logging.{handed-on, handed-ok, full-later, full-once, full-resize_refused, forgotten-resize_refused, logged-later, noted-full, noted-ok, noted-refused, replayed-same, rose-resize}
use Rattle.imago_storage.proofs.log.LogStorageStorage.resize.Goals as goal

pub returns-in_err-keep-clause-ok : goal.returns-in_err-keep-clause-ok
unfolding log_state
returns-in_err-keep-clause-ok g c = handed-ok _ _ _ (handed-on _ _ _ c.from_residual.ensures.1 c.in_err-keep.ensures.err)

pub returns-in_err-keep-clause-err : goal.returns-in_err-keep-clause-err
unfolding log_state
returns-in_err-keep-clause-err g c = full-resize_refused _ _ _ _ _ _ _ _ (ap (λ b. b.items) c.keep.ensures.base) c.in_err-keep.ensures.err_requests c.in_err-keep.ensures.err_refusals (ap g.S.Storage.state c.keep.ensures.inner) _ (handed-on _ _ _ c.from_residual.ensures.1 c.in_err-keep.ensures.err)

pub returns-in_err-keep-clause-shape : goal.returns-in_err-keep-clause-shape
unfolding log_state
returns-in_err-keep-clause-shape g c = ap (λ (s : Shape). record s { tells = true }) (ap (λ s. (g.S.Storage.state s).shape) c.keep.ensures.inner)

pub returns-in_err-keep-clause-counts_not_fallen : goal.returns-in_err-keep-clause-counts_not_fallen
unfolding log_state
returns-in_err-keep-clause-counts_not_fallen g c = full-later _ _ _ _ _ _ _ _ (ap (λ b. b.items) c.keep.ensures.base) c.in_err-keep.ensures.err_requests c.in_err-keep.ensures.err_refusals (ap g.S.Storage.state c.keep.ensures.inner)

pub returns-in_err-keep-clause-single_request : goal.returns-in_err-keep-clause-single_request
unfolding log_state
returns-in_err-keep-clause-single_request g c = full-once _ _ _ _ _ _ _ _ (ap (λ b. b.items) c.keep.ensures.base) c.in_err-keep.ensures.err_requests c.in_err-keep.ensures.err_refusals (ap g.S.Storage.state c.keep.ensures.inner) _ (handed-on _ _ _ c.from_residual.ensures.1 c.in_err-keep.ensures.err)

pub returns-in_err-keep-clause-noted : goal.returns-in_err-keep-clause-noted
returns-in_err-keep-clause-noted g c = noted-full g.S.Storage.state (λ request. request ≡ Resize c.args.size) c.args.self.now c.keep.new.self c.keep.ensures.base _ (handed-on _ _ _ c.from_residual.ensures.1 c.in_err-keep.ensures.err) c.keep.ensures.inner c.in_err-keep.ensures.err_requests

pub returns-in-Ok-clause-ok : goal.returns-in-Ok-clause-ok
unfolding log_state
returns-in-Ok-clause-ok g c =
    resized_log _ _ _ _ _ _ (g.S.Storage.state c.args.self.now.inner) (g.S.Storage.state c.keep.new.self.inner) _ _ (ap (λ b. b.items) c.keep.ensures.base) c.in_ok-keep.ensures.ok_refusals (ap g.S.Storage.state c.keep.ensures.inner) c.in_ok-keep.ensures.ok
    c.args.size (λ file. refl) c.in-Ok.ensures.ok

pub returns-in-Ok-clause-shape : goal.returns-in-Ok-clause-shape
unfolding log_state
returns-in-Ok-clause-shape g c = ap (λ (s : Shape). record s { tells = true }) (c.in-Ok.ensures.shape ∙ ap (λ s. (g.S.Storage.state s).shape) c.keep.ensures.inner)

pub returns-in-Ok-clause-counts_not_fallen : goal.returns-in-Ok-clause-counts_not_fallen
unfolding log_state
returns-in-Ok-clause-counts_not_fallen g c = logged-later c.args.self.now.base.items c.keep.new.self.base.items c.args.self.now.requests.items c.keep.new.self.requests.items _ _ _ _ (g.S.Storage.state c.resize.new.self) _ c.in_ok-keep.ensures.ok_refusals (ap g.S.Storage.state c.keep.ensures.inner) refl c.in-Ok.ensures.counts_not_fallen

pub returns-in-Ok-clause-single_request : goal.returns-in-Ok-clause-single_request
unfolding log_state
returns-in-Ok-clause-single_request g c = λ _. request_pushed _ _ _ _ _ (ap (λ b. b.items) c.keep.ensures.base) c.in_ok-keep.ensures.ok

pub returns-in-Ok-clause-noted : goal.returns-in-Ok-clause-noted
returns-in-Ok-clause-noted g c = noted-ok g.S.Storage.state (λ request. request ≡ Resize c.args.size) c.args.self.now _ c.keep.ensures.base _ (Resize c.args.size) refl c.in_ok-keep.ensures.ok

pub returns-in-Err-clause-err : goal.returns-in-Err-clause-err
unfolding log_state
returns-in-Err-clause-err g c = forgotten-resize_refused _ _ _ _ _ _ _ _ _ _ (ap (λ b. b.items) (c.forget.ensures.base ∙ c.keep.ensures.base)) (c.forget.ensures.requests _ _ c.in_ok-keep.ensures.ok) (c.forget.ensures.refusals ∙ c.in_ok-keep.ensures.ok_refusals) (ap g.S.Storage.state c.keep.ensures.inner) (ap g.S.Storage.state c.forget.ensures.inner) _ c.in-Err.ensures.err

pub returns-in-Err-clause-shape : goal.returns-in-Err-clause-shape
unfolding log_state
returns-in-Err-clause-shape g c = ap (λ (s : Shape). record s { tells = true }) (ap (λ s. (g.S.Storage.state s).shape) c.forget.ensures.inner ∙ c.in-Err.ensures.shape ∙ ap (λ s. (g.S.Storage.state s).shape) c.keep.ensures.inner)

pub returns-in-Err-clause-counts_not_fallen : goal.returns-in-Err-clause-counts_not_fallen
unfolding log_state
returns-in-Err-clause-counts_not_fallen g c = logged-later c.args.self.now.base.items c.forget.new.self.base.items c.args.self.now.requests.items c.forget.new.self.requests.items _ _ _ _ _ _ (c.forget.ensures.refusals ∙ c.in_ok-keep.ensures.ok_refusals) (ap g.S.Storage.state c.keep.ensures.inner) (ap g.S.Storage.state c.forget.ensures.inner) c.in-Err.ensures.counts_not_fallen

pub returns-in-Err-clause-single_request : goal.returns-in-Err-clause-single_request
unfolding log_state
returns-in-Err-clause-single_request g c = replayed-same _ _ _ _ (ap (λ b. b.items) (c.forget.ensures.base ∙ c.keep.ensures.base)) (c.forget.ensures.requests _ _ c.in_ok-keep.ensures.ok)

pub returns-in-Err-clause-noted : goal.returns-in-Err-clause-noted
returns-in-Err-clause-noted g c = noted-refused g.S.Storage.state (λ request. request ≡ Resize c.args.size) c.args.self.now c.forget.new.self (c.forget.ensures.base ∙ c.keep.ensures.base) _ _ c.in-Err.e (ap g.S.Storage.state c.keep.ensures.inner) (ap g.S.Storage.state c.forget.ensures.inner) (c.forget.ensures.requests _ _ c.in_ok-keep.ensures.ok) (rose-resize _ _ c.in-Err.e c.in-Err.ensures.err)
