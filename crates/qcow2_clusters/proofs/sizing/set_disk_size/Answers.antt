use Rattle.std.proofs.Common.{◌≡◌, subst, Ok, Err}
use Rattle.imago_storage.specs.Through.{AtomicWriteOutcome}
use Rattle.qcow2_types.specs.Header.{Header}
use Rattle.qcow2_types.specs.HeaderBytes.{first_bytes}
use Rattle.qcow2_types.specs.Switched.{with_size}
use Rattle.qcow2_clusters.proofs.DiskSizes.{size-back, sizes-disk}
use Rattle.qcow2_clusters.proofs.sizing.set_disk_size.Goals as goal

pub returns-in-Ok : goal.returns-in-Ok
returns-in-Ok g c =
    let state = g.S.Storage.state in
    let file = c.args.file.now in
    let made : c.set_size.new.self ≡ with_size file.header c.args.size = c.set_size.ensures in
    sizes-disk state c.args.size file (Ok tt) (record { image = c.write_size.new.image; header = c.set_size.new.self }) c.size-length.ensures.bytes
    (subst (λ (K : Header). AtomicWriteOutcome {T = Unit} (state file.image) (state c.write_size.new.image) 0 (first_bytes K.fields) (Ok tt)) made c.in-Ok.ensures)
    made tt

pub returns-in-Err : goal.returns-in-Err
returns-in-Err g c =
    let state = g.S.Storage.state in
    let file = c.args.file.now in
    let fault = c.in-Err.fault in
    let made : c.set_size.new.self ≡ with_size file.header c.args.size = c.set_size.ensures in
    sizes-disk state c.args.size file (Err fault) (record { image = c.write_size.new.image; header = c.set_size-in-Err.new.self })
    c.size-length.ensures.bytes
    (subst (λ (K : Header). AtomicWriteOutcome {T = Unit} (state file.image) (state c.write_size.new.image) 0 (first_bytes K.fields) (Err fault)) made c.in-Err.ensures)
    tt (size-back file.header c.set_size.new.self c.set_size-in-Err.new.self c.args.size c.size-old.result made c.size-old.ensures c.set_size-in-Err.ensures)
