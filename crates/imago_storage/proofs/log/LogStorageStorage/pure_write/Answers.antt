use Rattle.std.proofs.Common.{refl, true, inl, ap, ◌∙◌, ◌++◌, ◌∷◌, []}
use Rattle.std.specs.Prelude.{Vec}
use Rattle.std.specs.declared.alloc.Global.{Global}
use Rattle.imago_storage.specs.State.{Shape}
use Rattle.imago_storage.specs.declared.log.Request.{Request}
use Rattle.imago_storage.specs.declared.log.Request.TheVariants.{Write}
use Rattle.imago_storage.specs.Log.{IsWrite, splice, log_state}
use Rattle.imago_storage.proofs.Replay.{wrote, request_pushed}
use Rattle.imago_storage.proofs.Logging.{handed-on, handed-ok, full-later, full-once, full-write_refused, forgotten-not_written, logged-later, noted-full, noted-ok, noted-refused, replayed-same, rose-from}
use Rattle.imago_storage.proofs.log.LogStorageStorage.pure_write.Goals as goal

pub returns-in_err-bytes-clause-ok : goal.returns-in_err-bytes-clause-ok
unfolding log_state
returns-in_err-bytes-clause-ok g c = handed-ok _ _ _ (handed-on _ _ _ c.from_residual.ensures.1 c.in_err-bytes.ensures.err)

pub returns-in_err-bytes-clause-err : goal.returns-in_err-bytes-clause-err
unfolding log_state
returns-in_err-bytes-clause-err g c = full-write_refused _ _ _ _ _ _ _ _ (ap (λ b. b.items) c.copy_of.ensures.base) (ap (λ (v : Vec Request Global). v.items) c.copy_of.ensures.requests) c.in_err-bytes.ensures.err_refusals (ap g.S.Storage.state c.copy_of.ensures.inner) _ (handed-on _ _ _ c.from_residual.ensures.1 c.in_err-bytes.ensures.err) _ _

pub returns-in_err-bytes-clause-shape : goal.returns-in_err-bytes-clause-shape
unfolding log_state
returns-in_err-bytes-clause-shape g c = ap (λ (s : Shape). record s { tells = true }) (ap (λ s. (g.S.Storage.state s).shape) c.copy_of.ensures.inner)

pub returns-in_err-bytes-clause-counts_not_fallen : goal.returns-in_err-bytes-clause-counts_not_fallen
unfolding log_state
returns-in_err-bytes-clause-counts_not_fallen g c = full-later _ _ _ _ _ _ _ _ (ap (λ b. b.items) c.copy_of.ensures.base) (ap (λ (v : Vec Request Global). v.items) c.copy_of.ensures.requests) c.in_err-bytes.ensures.err_refusals (ap g.S.Storage.state c.copy_of.ensures.inner)

pub returns-in_err-bytes-clause-single_request : goal.returns-in_err-bytes-clause-single_request
unfolding log_state
returns-in_err-bytes-clause-single_request g c = full-once _ _ _ _ _ _ _ _ (ap (λ b. b.items) c.copy_of.ensures.base) (ap (λ (v : Vec Request Global). v.items) c.copy_of.ensures.requests) c.in_err-bytes.ensures.err_refusals (ap g.S.Storage.state c.copy_of.ensures.inner) _ (handed-on _ _ _ c.from_residual.ensures.1 c.in_err-bytes.ensures.err)

pub returns-in_err-bytes-clause-noted : goal.returns-in_err-bytes-clause-noted
returns-in_err-bytes-clause-noted g c = noted-full g.S.Storage.state (IsWrite c.args.offset c.args.data.now) c.args.self.now c.copy_of.new.self c.copy_of.ensures.base _ (handed-on _ _ _ c.from_residual.ensures.1 c.in_err-bytes.ensures.err) c.copy_of.ensures.inner (ap (λ (v : Vec Request Global). v.items) c.copy_of.ensures.requests)

pub returns-in_err-keep-clause-ok : goal.returns-in_err-keep-clause-ok
unfolding log_state
returns-in_err-keep-clause-ok g c = handed-ok _ _ _ (handed-on _ _ _ c.from_residual-in_err-keep.ensures.1 c.in_err-keep.ensures.err)

pub returns-in_err-keep-clause-err : goal.returns-in_err-keep-clause-err
unfolding log_state
returns-in_err-keep-clause-err g c = full-write_refused _ _ _ _ _ _ _ _ (ap (λ b. b.items) (c.keep.ensures.base ∙ c.copy_of.ensures.base)) (c.in_err-keep.ensures.err_requests ∙ ap (λ (v : Vec Request Global). v.items) c.copy_of.ensures.requests) (rose-from _ _ _ c.in_ok-bytes.ensures.ok_refusals c.in_err-keep.ensures.err_refusals) (ap g.S.Storage.state (c.keep.ensures.inner ∙ c.copy_of.ensures.inner)) _ (handed-on _ _ _ c.from_residual-in_err-keep.ensures.1 c.in_err-keep.ensures.err) _ _

pub returns-in_err-keep-clause-shape : goal.returns-in_err-keep-clause-shape
unfolding log_state
returns-in_err-keep-clause-shape g c = ap (λ (s : Shape). record s { tells = true }) (ap (λ s. (g.S.Storage.state s).shape) (c.keep.ensures.inner ∙ c.copy_of.ensures.inner))

pub returns-in_err-keep-clause-counts_not_fallen : goal.returns-in_err-keep-clause-counts_not_fallen
unfolding log_state
returns-in_err-keep-clause-counts_not_fallen g c = full-later _ _ _ _ _ _ _ _ (ap (λ b. b.items) (c.keep.ensures.base ∙ c.copy_of.ensures.base)) (c.in_err-keep.ensures.err_requests ∙ ap (λ (v : Vec Request Global). v.items) c.copy_of.ensures.requests) (rose-from _ _ _ c.in_ok-bytes.ensures.ok_refusals c.in_err-keep.ensures.err_refusals) (ap g.S.Storage.state (c.keep.ensures.inner ∙ c.copy_of.ensures.inner))

pub returns-in_err-keep-clause-single_request : goal.returns-in_err-keep-clause-single_request
unfolding log_state
returns-in_err-keep-clause-single_request g c = full-once _ _ _ _ _ _ _ _ (ap (λ b. b.items) (c.keep.ensures.base ∙ c.copy_of.ensures.base)) (c.in_err-keep.ensures.err_requests ∙ ap (λ (v : Vec Request Global). v.items) c.copy_of.ensures.requests) (rose-from _ _ _ c.in_ok-bytes.ensures.ok_refusals c.in_err-keep.ensures.err_refusals) (ap g.S.Storage.state (c.keep.ensures.inner ∙ c.copy_of.ensures.inner)) _ (handed-on _ _ _ c.from_residual-in_err-keep.ensures.1 c.in_err-keep.ensures.err)

pub returns-in_err-keep-clause-noted : goal.returns-in_err-keep-clause-noted
returns-in_err-keep-clause-noted g c = noted-full g.S.Storage.state (IsWrite c.args.offset c.args.data.now) c.args.self.now c.keep.new.self (c.keep.ensures.base ∙ c.copy_of.ensures.base) _ (handed-on _ _ _ c.from_residual-in_err-keep.ensures.1 c.in_err-keep.ensures.err) (c.keep.ensures.inner ∙ c.copy_of.ensures.inner) (c.in_err-keep.ensures.err_requests ∙ ap (λ (v : Vec Request Global). v.items) c.copy_of.ensures.requests)

pub returns-in-Ok-clause-ok : goal.returns-in-Ok-clause-ok
unfolding log_state
returns-in-Ok-clause-ok g c =
    wrote _ _ _ _ _ _ (g.S.Storage.state c.args.self.now.inner) (g.S.Storage.state c.keep.new.self.inner) _ _ (ap (λ b. b.items) (c.keep.ensures.base ∙ c.copy_of.ensures.base)) (c.in_ok-keep.ensures.ok_refusals ∙ c.in_ok-bytes.ensures.ok_refusals) (ap g.S.Storage.state (c.keep.ensures.inner ∙ c.copy_of.ensures.inner))
    (c.in_ok-keep.ensures.ok ∙ ap (λ (v : Vec Request Global). v.items ++ Write c.args.offset c.in_ok-bytes.bytes ∷ []) c.copy_of.ensures.requests)
    c.args.offset c.args.data.now (λ file. ap (splice file c.args.offset) c.in_ok-bytes.ensures.ok) c.in-Ok.ensures.ok

pub returns-in-Ok-clause-shape : goal.returns-in-Ok-clause-shape
unfolding log_state
returns-in-Ok-clause-shape g c = ap (λ (s : Shape). record s { tells = true }) (c.in-Ok.ensures.shape ∙ ap (λ s. (g.S.Storage.state s).shape) (c.keep.ensures.inner ∙ c.copy_of.ensures.inner))

pub returns-in-Ok-clause-counts_not_fallen : goal.returns-in-Ok-clause-counts_not_fallen
unfolding log_state
returns-in-Ok-clause-counts_not_fallen g c = logged-later c.args.self.now.base.items c.keep.new.self.base.items c.args.self.now.requests.items c.keep.new.self.requests.items _ _ _ _ (g.S.Storage.state c.pure_write.new.self) _ (c.in_ok-keep.ensures.ok_refusals ∙ c.in_ok-bytes.ensures.ok_refusals) (ap g.S.Storage.state (c.keep.ensures.inner ∙ c.copy_of.ensures.inner)) refl c.in-Ok.ensures.counts_not_fallen

pub returns-in-Ok-clause-single_request : goal.returns-in-Ok-clause-single_request
unfolding log_state
returns-in-Ok-clause-single_request g c =
    λ _. request_pushed _ _ _ _ _ (ap (λ b. b.items) (c.keep.ensures.base ∙ c.copy_of.ensures.base))
    (c.in_ok-keep.ensures.ok ∙ ap (λ (v : Vec Request Global). v.items ++ Write c.args.offset c.in_ok-bytes.bytes ∷ []) c.copy_of.ensures.requests)

pub returns-in-Ok-clause-noted : goal.returns-in-Ok-clause-noted
returns-in-Ok-clause-noted g c = noted-ok g.S.Storage.state (IsWrite c.args.offset c.args.data.now) c.args.self.now _ (c.keep.ensures.base ∙ c.copy_of.ensures.base) _ (Write c.args.offset c.in_ok-bytes.bytes) (refl, c.in_ok-bytes.ensures.ok) (c.in_ok-keep.ensures.ok ∙ ap (λ (v : Vec Request Global). v.items ++ Write c.args.offset c.in_ok-bytes.bytes ∷ []) c.copy_of.ensures.requests)

pub returns-in-Err-clause-err : goal.returns-in-Err-clause-err
unfolding log_state
returns-in-Err-clause-err g c = forgotten-not_written _ _ _ _ _ _ _ _ _ _ (ap (λ b. b.items) (c.forget.ensures.base ∙ c.keep.ensures.base ∙ c.copy_of.ensures.base)) (c.forget.ensures.requests _ _ c.in_ok-keep.ensures.ok ∙ ap (λ (v : Vec Request Global). v.items) c.copy_of.ensures.requests) (c.forget.ensures.refusals ∙ c.in_ok-keep.ensures.ok_refusals ∙ c.in_ok-bytes.ensures.ok_refusals) (ap g.S.Storage.state (c.keep.ensures.inner ∙ c.copy_of.ensures.inner)) (ap g.S.Storage.state c.forget.ensures.inner) _ _ _ c.in-Err.ensures.err

pub returns-in-Err-clause-shape : goal.returns-in-Err-clause-shape
unfolding log_state
returns-in-Err-clause-shape g c = ap (λ (s : Shape). record s { tells = true }) (ap (λ s. (g.S.Storage.state s).shape) c.forget.ensures.inner ∙ c.in-Err.ensures.shape ∙ ap (λ s. (g.S.Storage.state s).shape) (c.keep.ensures.inner ∙ c.copy_of.ensures.inner))

pub returns-in-Err-clause-counts_not_fallen : goal.returns-in-Err-clause-counts_not_fallen
unfolding log_state
returns-in-Err-clause-counts_not_fallen g c = logged-later c.args.self.now.base.items c.forget.new.self.base.items c.args.self.now.requests.items c.forget.new.self.requests.items _ _ _ _ _ _ (c.forget.ensures.refusals ∙ c.in_ok-keep.ensures.ok_refusals ∙ c.in_ok-bytes.ensures.ok_refusals) (ap g.S.Storage.state (c.keep.ensures.inner ∙ c.copy_of.ensures.inner)) (ap g.S.Storage.state c.forget.ensures.inner) c.in-Err.ensures.counts_not_fallen

pub returns-in-Err-clause-single_request : goal.returns-in-Err-clause-single_request
unfolding log_state
returns-in-Err-clause-single_request g c = replayed-same _ _ _ _ (ap (λ b. b.items) (c.forget.ensures.base ∙ c.keep.ensures.base ∙ c.copy_of.ensures.base)) (c.forget.ensures.requests _ _ c.in_ok-keep.ensures.ok ∙ ap (λ (v : Vec Request Global). v.items) c.copy_of.ensures.requests)

pub returns-in-Err-clause-noted : goal.returns-in-Err-clause-noted
returns-in-Err-clause-noted g c = noted-refused g.S.Storage.state (IsWrite c.args.offset c.args.data.now) c.args.self.now c.forget.new.self (c.forget.ensures.base ∙ c.keep.ensures.base ∙ c.copy_of.ensures.base) _ _ c.in-Err.e (ap g.S.Storage.state (c.keep.ensures.inner ∙ c.copy_of.ensures.inner)) (ap g.S.Storage.state c.forget.ensures.inner) (c.forget.ensures.requests _ _ c.in_ok-keep.ensures.ok ∙ ap (λ (v : Vec Request Global). v.items) c.copy_of.ensures.requests) (inl c.in-Err.ensures.err.refused.refusals)
