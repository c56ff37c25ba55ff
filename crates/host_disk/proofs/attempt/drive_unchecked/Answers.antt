use Rattle.std.proofs.Common.{refl, List, [], ◌∷◌}
use Rattle.imago_storage.specs.State.{StorageState}
use Rattle.qimg_core.specs.declared.plain.ChainFile.{ChainFile}
use Rattle.qimg_chain.specs.Chains.{AllOfTop, OfTop}
use Rattle.qimg_chain.specs.TopChecks.{AreChecked, IsAccepted}
use Rattle.qimg_chain.proofs.Sessions.Driving.{list-session}
use Rattle.host_disk.proofs.attempt.drive_unchecked.Goals as goal

-- The top, which is accepted.
accepted-all : {S : Type 0} (state : S → StorageState) (files : List (ChainFile S)) → OfTop (IsAccepted state) files
    → AllOfTop (IsAccepted state) files
accepted-all state [] accepted = absurd accepted
accepted-all state (top ∷ below) accepted = accepted

-- Files without a check are as after one.
are-checked : {S : Type 0} (state : S → StorageState) (files : List (ChainFile S)) → AreChecked state files files
are-checked state [] = refl
are-checked state (top ∷ below) = (top, refl, record { format = refl; extras = refl; image = refl; others = λ _. refl })

pub returns-clause-free : goal.returns-clause-free
returns-clause-free g c = c.drive-answers.ensures.free

pub returns-clause-formed : goal.returns-clause-formed
returns-clause-formed g c = c.in_ok-chain.ensures.formed

pub returns-clause-headline : goal.returns-clause-headline
returns-clause-headline g c = λ accepted.
    let opened = c.in_ok-chain.ensures in
    let driven = c.drive-answers.ensures in
    list-session g.row.S g.S.Storage g.S.Storage-dict g.S.Destruct-dict _ c.args.writable c.args.number c.args.files.items
    c.args.files.items c.args.calls.now c.drive-answers.result c.in_ok-chain.chain c.drive-answers.new.chain
    (accepted-all g.S.Storage.state c.args.files.items accepted) (are-checked g.S.Storage.state c.args.files.items) (record {
      layers = opened.layers;
      places = opened.places;
      named = opened.named;
      means = opened.means;
      ready = opened.ready;
      committable = λ some. absurd (cc some);
      stands = opened.stands;
      below = λ none. (driven.below none opened.has_no_dirty_data).0;
      free = driven.free;
      made = driven.made;
      whole = driven.headline;
      each = driven.each;
      cut = driven.cut_short;
      refused = driven.refused;
    })
