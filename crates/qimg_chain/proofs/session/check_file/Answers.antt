use Rattle.qimg_chain.proofs.Sessions.Checked.{accepted-other, file-checked, file-unread, same-state}
use Rattle.qimg_chain.proofs.session.check_file.Goals as goal

pub returns-in_ok-check-clause-checked : goal.returns-in_ok-check-clause-checked
returns-in_ok-check-clause-checked g c =
    file-checked g.S.Storage.state c.args.file.now c.check.new.image c.in-Qcow2.is
    (same-state _ _ c.check.ensures.unchanged_but_faults c.in_ok-check.ensures.faults)

pub returns-in_default : goal.returns-in_default
returns-in_default g c = record {
  accepted = accepted-other c.args.file.now.format c.in_default.not-Qcow2 _;
  checked = file-unread g.S.Storage.state c.args.file.now;
  err = tt;
}
