use Rattle.qimg_chain.specs.Chains.{mode}
use Rattle.qimg_chain.proofs.Sessions.Checked.{cause-before, formed-before, has-top, refused-before}
use Rattle.qimg_chain.proofs.Sessions.Driving.{list-session}
use Rattle.qimg_chain.proofs.session.drive_files.Goals as goal

pub returns-in_err-chain-clause-err : goal.returns-in_err-chain-clause-err
returns-in_err-chain-clause-err g c =
    refused-before g.S.Storage.state (mode c.args.writable c.args.number) c.args.files.items c.check_top.new.files.items
    c.from_residual-in_err-chain.result c.in_err-chain.field-0.0
    (cause-before g.S.Storage.state c.args.writable c.in_err-chain.field-0.0 c.args.files.items c.check_top.new.files.items
    c.in_ok-check_top.ensures.checked)
    c.from_residual-in_err-chain.ensures.1 c.in_err-chain.ensures.err

pub returns-clause-accepted : goal.returns-clause-accepted
returns-clause-accepted g c =
    let formed = formed-before g.S.Storage.state c.args.writable c.args.files.items c.check_top.new.files.items c.in_ok-check_top.ensures.checked
    c.in_ok-chain.ensures.formed in
    has-top _ c.args.files.items formed.0 c.in_ok-check_top.ensures.accepted

pub returns-clause-formed : goal.returns-clause-formed
returns-clause-formed g c =
    formed-before g.S.Storage.state c.args.writable c.args.files.items c.check_top.new.files.items c.in_ok-check_top.ensures.checked
    c.in_ok-chain.ensures.formed

pub returns-clause-headline : goal.returns-clause-headline
returns-clause-headline g c =
    let opened = c.in_ok-chain.ensures in
    let driven = c.drive-answers.ensures in
    list-session g.row.S g.S.Storage g.S.Storage-dict g.S.Destruct-dict _ c.args.writable c.args.number c.args.files.items
    c.check_top.new.files.items c.args.calls.now c.drive-answers.result c.in_ok-chain.chain c.drive-answers.new.chain
    c.in_ok-check_top.ensures.accepted c.in_ok-check_top.ensures.checked (record {
      layers = opened.layers;
      places = opened.places;
      named = opened.named;
      means = opened.means;
      ready = opened.ready;
      committable = λ some. absurd (cc some);
      stands = opened.stands;
      below = λ none. (driven.below none opened.has_no_dirty_data).0;
      free = driven.free;
      made = driven.made;
      whole = driven.headline;
      each = driven.each;
      cut = driven.cut_short;
      refused = driven.refused;
    })
