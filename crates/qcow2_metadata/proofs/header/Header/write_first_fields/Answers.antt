use Rattle.std.proofs.Common.{◌≡◌, ◌^◌, ◌∙◌, ℕ, List, length, take, refl, ap, subst, arith, length-take}
use Rattle.imago_storage.specs.Through.{AtomicWriteOutcome}
use Rattle.imago_storage.proofs.Once.{put-at-once}
use Rattle.qcow2_types.specs.Header.{Header as HeaderRecord}
use Rattle.qcow2_types.specs.HeaderBytes.{first_bytes}
use Rattle.qcow2_types.proofs.Switching.HeaderSwitch.{length-first_bytes}
use Rattle.qcow2_metadata.specs.FieldsView.{seen_fields}
use Rattle.qcow2_metadata.proofs.Written.{first-64}
use Rattle.qcow2_metadata.proofs.header.Header.write_first_fields.Goals as goal

pub slice_bounds-write-end : goal.slice_bounds-write-end
slice_bounds-write-end g c = let long : 64 ≡ length (take 64 c.to_bytes.new.bytes) = omega (arith, length-take 64 c.to_bytes.new.bytes, c.to_bytes.auto.bytes) in long

pub returns : goal.returns
returns g c =
    let w = c.write in
    let v2 = c.self.inside.v2 in
    let v3 = c.self.inside.v3 in
    let seen : take 64 c.to_bytes.new.bytes ≡ first_bytes (seen_fields v2 v3) = ap (take 64) c.to_bytes.ensures ∙ first-64 v2 v3 c.self.invariant.parts.magic in
    let bytes : take 64 c.to_bytes.new.bytes ≡ first_bytes c.args.self.now.fields = seen ∙ ap (λ (h : HeaderRecord). first_bytes h.fields) c.self.view_is in
    let long : length (take 64 c.to_bytes.new.bytes) ≡ 2 ^ 6 = ap length bytes ∙ length-first_bytes c.args.self.now.fields in
    subst (λ (bs : List ℕ). AtomicWriteOutcome (g.S.Storage.state c.args.image.now) (g.S.Storage.state w.new.self) 0 bs w.result) bytes
    (put-at-once w.result _ _ 0 6 (take 64 c.to_bytes.new.bytes) w.ensures.unit (omega (arith, long)) long refl w.ensures.ok w.ensures.err w.ensures.single_request w.ensures.crash_images w.ensures.shape w.ensures.counts_not_fallen)
