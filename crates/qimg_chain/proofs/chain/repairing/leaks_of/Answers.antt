use Rattle.std.proofs.Common.{subst}
use Rattle.qcow2_metadata.specs.Loading.{file}
use Rattle.qimg_core.specs.Check.{Found, IsFinding}
use Rattle.qimg_core.specs.declared.check.CheckFault.{CheckFault}
use Rattle.qimg_chain.proofs.Repairing.Images.{marked-list}
use Rattle.qimg_chain.proofs.chain.repairing.leaks_of.Goals as goal

pub returns-in-Err-Storage : goal.returns-in-Err-Storage
returns-in-Err-Storage g c =
    let st = g.S.Storage in
    let was = st.state c.image_mut.result.now in
    let rose = subst (λ (fault : CheckFault). Found was (st.state c.check.new.image) (IsFinding (file was)) fault) c.in-Err-Storage.field-0-is c.in-Err-Storage.ensures.err in
    marked-list g.row.S st g.S.Storage-dict g.S.Destruct-dict c.args.image.now c.mark_failed.new.self c.check.new.image c.mark_failed.ensures
    (rw (c.image_mut.ensures.value) at c.check.ensures.unchanged_but_faults) (rw (c.image_mut.ensures.value) at rose)
