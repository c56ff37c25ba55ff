use Rattle.qimg_chain.proofs.Sessions.OpenedAgain.{opened-accepted, opened-formed, opened-reads}
use Rattle.qimg_chain.proofs.Sessions.Whole.{reads-as-files}
use Rattle.qimg_chain.proofs.laws.a_crash_image_opens_again.Goals as goal

pub returns : goal.returns
returns g c = record {
  formed = λ writable top below since again others formed placed left.
      opened-formed g.S.Storage.state g.T.Storage.state top below since again others left writable formed placed;
  accepted = λ top below since again others left. opened-accepted g.S.Storage.state g.T.Storage.state top below since again others left;
  read_so = reads-as-files g.row.S g.S.Storage g.S.Storage-dict g.S.Destruct-dict _;
  reads = λ top below since again others disk left is.
      opened-reads g.S.Storage.state g.T.Storage.state top below since again others left disk is;
}
