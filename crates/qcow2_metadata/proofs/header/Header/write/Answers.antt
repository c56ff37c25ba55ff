use Rattle.std.proofs.Common.{◌≡◌, ◌+◌, ◌≤◌, ◌^◌, ◌∙◌, ℕ, List, length, ap, sym, subst, arith}
use Rattle.std.proofs.lemmas.Result.{err_from_is_err_and}
use Rattle.imago_storage.specs.State.{unit_of}
use Rattle.imago_storage.specs.Through.{FitsOneRequest, WriteOutcome, AtomicWriteOutcome}
use Rattle.imago_storage.proofs.Once.{put-below}
use Rattle.qcow2_types.specs.HeaderBytes.{header_bytes}
use Rattle.qcow2_metadata.proofs.header.Header.write.Goals as goal

pub returns-in_err-write-clause-put : goal.returns-in_err-write-clause-put
returns-in_err-write-clause-put g c = λ fits.
    let p = err_from_is_err_and c.from_residual-in_err-write.result c.from_residual-in_err-write.ensures.1 in
    let w = c.write in
    let held = c.in_ok-bytes.bytes in
    let bytes : c.deref.result.now ≡ header_bytes c.args.self.now = c.deref.ensures.value ∙ c.in_ok-bytes.ensures.bytes in
    let low : 0 + length c.deref.result.now ≤ 2 ^ 63 = omega (arith, ap length c.deref.ensures.value, held.ok.0, held.ok.1, held.small) in
    let put : WriteOutcome (g.S.Storage.state c.args.image.now) (g.S.Storage.state w.new.self) 0 c.deref.result.now w.result =
    put-below w.result _ _ 0 c.deref.result.now w.ensures.unit low w.ensures.ok w.ensures.err w.ensures.crash_images w.ensures.shape w.ensures.counts_not_fallen in
    rw (p.1, p.2, ← c.in_err-write.was) (subst (λ (bs : List ℕ). WriteOutcome (g.S.Storage.state c.args.image.now) (g.S.Storage.state w.new.self) 0 bs w.result) bytes put)

pub returns-in_err-write-clause-in_one_request : goal.returns-in_err-write-clause-in_one_request
returns-in_err-write-clause-in_one_request g c = λ fits range.
    let p = err_from_is_err_and c.from_residual-in_err-write.result c.from_residual-in_err-write.ensures.1 in
    let w = c.write in
    let held = c.in_ok-bytes.bytes in
    let bytes : c.deref.result.now ≡ header_bytes c.args.self.now = c.deref.ensures.value ∙ c.in_ok-bytes.ensures.bytes in
    let low : 0 + length c.deref.result.now ≤ 2 ^ 63 = omega (arith, ap length c.deref.ensures.value, held.ok.0, held.ok.1, held.small) in
    let here : FitsOneRequest (unit_of (g.S.Storage.state c.args.image.now).shape) 0 (length c.deref.result.now) = subst (λ (bs : List ℕ). FitsOneRequest (unit_of (g.S.Storage.state c.args.image.now).shape) 0 (length bs)) (sym bytes) range in
    let put : AtomicWriteOutcome (g.S.Storage.state c.args.image.now) (g.S.Storage.state w.new.self) 0 c.deref.result.now w.result =
    record { put = put-below w.result _ _ 0 c.deref.result.now w.ensures.unit low w.ensures.ok w.ensures.err w.ensures.crash_images w.ensures.shape w.ensures.counts_not_fallen; single_request = w.ensures.single_request here } in
    rw (p.1, p.2, ← c.in_err-write.was) (subst (λ (bs : List ℕ). AtomicWriteOutcome (g.S.Storage.state c.args.image.now) (g.S.Storage.state w.new.self) 0 bs w.result) bytes put)
