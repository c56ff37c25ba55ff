use Rattle.qimg_chain.specs.contracts.chain.image_driver.ImageDriverDriverModel.TheImpl as image_seen
use Rattle.qimg_chain.specs.declared.chain.image_driver.ImageDriver.TheVariants as variant
use Rattle.qimg_chain.proofs.ImageKinds.{qcow2_kind}
use Rattle.qimg_chain.proofs.Repairing.Steps.{refused-repair}
use Rattle.qimg_chain.proofs.Repairing.Through.{repairs}
use Rattle.qimg_chain.proofs.chain.repairing.ImageDriverRepairsLeaks.repair_leaks.Goals as goal

pub returns-in-Raw : goal.returns-in-Raw
returns-in-Raw g c = rw (c.in-Raw.is) (refused-repair (image_seen.ghosts g.row.S g.S.Storage g.S.Storage-dict g.S.Destruct-dict) (variant.Raw c.in-Raw.raw) c.refusal.result c.refusal.ensures)

pub returns-in-Vmdk : goal.returns-in-Vmdk
returns-in-Vmdk g c = rw (c.in-Vmdk.is) (refused-repair (image_seen.ghosts g.row.S g.S.Storage g.S.Storage-dict g.S.Destruct-dict) (variant.Vmdk c.in-Vmdk.vmdk) c.refusal-in-Vmdk.result c.refusal-in-Vmdk.ensures)

pub returns-in-Qcow2 : goal.returns-in-Qcow2
returns-in-Qcow2 g c = rw (c.in-Qcow2.is) (repairs (qcow2_kind g.row.S g.S.Storage g.S.Storage-dict g.S.Destruct-dict) c.in-Qcow2.qcow2 c.repair_qcow2.new.image c.repair_qcow2.result c.repair_qcow2.ensures)
