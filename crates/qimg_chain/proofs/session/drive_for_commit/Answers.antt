use Rattle.std.proofs.Common.{refl}
use Rattle.qimg_chain.specs.Chains.{for_commit}
use Rattle.qimg_chain.proofs.Sessions.Checked.{commit-cause-before, commit-formed-before, has-both, refused-before, second-before}
use Rattle.qimg_chain.proofs.Sessions.Driving.{commit-session}
use Rattle.qimg_chain.proofs.session.drive_for_commit.Goals as goal

pub returns-in-Err-clause-err : goal.returns-in-Err-clause-err
returns-in-Err-clause-err g c = (
  refl,
  second-before _ g.S.Storage.state c.args.files.items c.check_top.new.files.items c.in_ok-check_top.ensures.checked c.in-Err.ensures.err,
)

pub returns-in_err-chain-clause-err : goal.returns-in_err-chain-clause-err
returns-in_err-chain-clause-err g c =
    refused-before g.S.Storage.state (for_commit c.args.number c.args.below_number) c.args.files.items c.check_next.new.files.items
    c.from_residual-in_err-chain.result c.in_err-chain.field-0.0
    (commit-cause-before g.S.Storage.state c.args.number c.args.below_number c.in_err-chain.field-0.0 c.args.files.items
    c.check_top.new.files.items c.check_next.new.files.items c.in_ok-check_top.ensures.checked c.in-Ok.ensures.checked)
    c.from_residual-in_err-chain.ensures.1 c.in_err-chain.ensures.err

pub returns-clause-accepted : goal.returns-clause-accepted
returns-clause-accepted g c =
    let formed = commit-formed-before g.S.Storage.state c.args.files.items c.check_top.new.files.items c.check_next.new.files.items
    c.in_ok-check_top.ensures.checked c.in-Ok.ensures.checked c.in_ok-chain.ensures.formed in
    has-both _ g.S.Storage.state c.args.files.items c.check_top.new.files.items formed c.in_ok-check_top.ensures.accepted
    c.in_ok-check_top.ensures.checked c.in-Ok.ensures.accepted

pub returns-clause-formed : goal.returns-clause-formed
returns-clause-formed g c =
    commit-formed-before g.S.Storage.state c.args.files.items c.check_top.new.files.items c.check_next.new.files.items
    c.in_ok-check_top.ensures.checked c.in-Ok.ensures.checked c.in_ok-chain.ensures.formed

pub returns-clause-headline : goal.returns-clause-headline
returns-clause-headline g c =
    let opened = c.in_ok-chain.ensures in
    let driven = c.drive-answers.ensures in
    commit-session g.row.S g.S.Storage g.S.Storage-dict g.S.Destruct-dict _ c.args.number c.args.below_number c.args.files.items
    c.check_top.new.files.items c.check_next.new.files.items c.args.calls.now c.drive-answers.result c.in_ok-chain.chain
    c.drive-answers.new.chain c.in_ok-check_top.ensures.accepted c.in_ok-check_top.ensures.checked c.in-Ok.ensures.accepted
    c.in-Ok.ensures.checked opened.formed (record {
      layers = opened.layers;
      places = opened.places;
      named = opened.named;
      means = opened.means;
      ready = opened.ready;
      committable = λ some. opened.committable;
      stands = opened.stands;
      below = λ none. (driven.below none opened.has_no_dirty_data).0;
      free = driven.free;
      made = driven.made;
      whole = driven.headline;
      each = driven.each;
      cut = driven.cut_short;
      refused = driven.refused;
    })

pub returns-clause-distinct : goal.returns-clause-distinct
returns-clause-distinct g c = c.in_ok-chain.ensures.distinct
