use Rattle.std.proofs.Common.{refl, false}
use Rattle.qcow2_types.specs.Bytes.{bytes_of}
use Rattle.qcow2_image.proofs.OpenRefusals.{space-not-loaded, space-sound}
use Rattle.qcow2_alloc.proofs.Faults.{handed-on}
use Rattle.qcow2_image.proofs.opening.load_free_space.Goals as goal

pub returns-clause-sound : goal.returns-clause-sound
returns-clause-sound g c = λ w.
    let state = g.S.Storage.state in
    space-sound false (bytes_of (state c.args.file.now.image).bytes) c.args.file.now.header c.requires.loads
    (state c.args.file.now.image) (state c.load.new.file.image) refl c.in_ok-space.space.allocator c.in_ok-space.ensures.loads

pub returns-in_err-space-clause-err : goal.returns-in_err-space-clause-err
returns-in_err-space-clause-err g c = rw (handed-on _ _ c.from_residual.ensures.1) (
    let state = g.S.Storage.state in
    space-not-loaded false (bytes_of (state c.args.file.now.image).bytes) c.args.file.now.header c.requires.loads
    (state c.args.file.now.image) (state c.load.new.file.image) refl c.args.writable c.if-not-writable.false c.in_err-space.field-0.0
    c.in_err-space.ensures.loads)
