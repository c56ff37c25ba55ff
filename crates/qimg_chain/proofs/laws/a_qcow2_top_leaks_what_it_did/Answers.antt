use Rattle.qimg_chain.proofs.FlushedLeaks.{leaks-what-it-did}
use Rattle.qimg_chain.proofs.laws.a_qcow2_top_leaks_what_it_did.Goals as goal

pub returns : goal.returns
returns g c = leaks-what-it-did g.row.S g.S.Storage g.S.Storage-dict g.S.Destruct-dict _
