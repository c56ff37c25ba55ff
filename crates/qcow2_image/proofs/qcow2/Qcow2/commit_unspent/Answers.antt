use Rattle.std.proofs.Common.{refl, Ok, Err}
use Rattle.qcow2_image.proofs.Commits.{spends-by}
use Rattle.qcow2_image.proofs.qcow2.Qcow2.commit_unspent.Goals as goal

pub returns-in-Ok : goal.returns-in-Ok
returns-in-Ok g c =
    spends-by g.S.Storage c.args.state.mapping_id c.args.self.now c.take_unspent.new.self c.in-Some.unspent c.in-Some.ensures (Ok tt)
    c.link_host.new.tables c.in-Ok.ensures _ refl _ refl c.size-bytes.ensures.bytes

pub returns : goal.returns
returns g c =
    spends-by g.S.Storage c.args.state.mapping_id c.args.self.now c.take_unspent.new.self c.in-Some.unspent c.in-Some.ensures (Err c.in-Err.fault)
    c.link_host.new.tables c.in-Err.ensures _ refl _ refl c.size-bytes.ensures.bytes
