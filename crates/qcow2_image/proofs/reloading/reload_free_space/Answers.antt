use Rattle.std.proofs.Common.{subst}
use Rattle.std.specs.Prelude.{IfErr}
use Rattle.qcow2_types.specs.Bytes.{bytes_of}
use Rattle.qcow2_types.specs.Header.{Header}
use Rattle.qcow2_image.specs.Opening.{WhyNoSpace}
use Rattle.qcow2_image.proofs.reloading.reload_free_space.Goals as goal

pub returns-clause-err : goal.returns-clause-err
returns-clause-err g c =
    let old = g.S.Storage.state c.args.file.now.image in
    let new = g.S.Storage.state c.load_free_space-space.new.file.image in
    subst (λ (H : Header). IfErr c.load_free_space-space.result (WhyNoSpace (bytes_of old.bytes) H.fields c.args.writable old.faults new.faults))
    c.swap.ensures.x_after c.load_free_space-space.ensures.err
