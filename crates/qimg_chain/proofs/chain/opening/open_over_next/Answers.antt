use Rattle.std.proofs.Common.{◌⊎◌, ◌∷◌, ◌∙◌, arith, inl}
use Rattle.std.specs.Prelude.{map, reverse}
use Rattle.imago_storage.specs.declared.fault.Fault.{Fault}
use Rattle.imago_storage.specs.declared.fault.Fault.TheVariants.{ExtraLayer}
use Rattle.imago_storage.proofs.Parts.{passed}
use Rattle.qimg_chain.specs.contracts.chain.image_driver.ImageDriverDriverModel.TheImpl as image_seen
use Rattle.qimg_chain.specs.FileMeanings.{file_bytes, files_bytes}
use Rattle.qimg_chain.specs.Refusals.{HadResourceError, WhyNotCommitLayers}
use Rattle.qimg_chain.proofs.FilesShown.{over}
use Rattle.qimg_chain.proofs.Refusing.{at_commit_below, at_commit_place, shown_so, upper_misplaced, upper_placed}
use Rattle.qimg_chain.proofs.chain.opening.open_over_next.Goals as goal

pub returns-in-Ok-clause-layers : goal.returns-in-Ok-clause-layers
returns-in-Ok-clause-layers g c =
    rw (c.in-Ok.ensures.ok)
    (record { opened = c.in_ok-driver.ensures.opened; layer = c.in_ok-driver.ensures.layer }, c.in_ok-rest.ensures.layers)

pub returns-then-not-shows_below-clause-err : goal.returns-then-not-shows_below-clause-err
returns-then-not-shows_below-clause-err g c =
    let below = c.args.next ∷ reverse c.args.below.now.items in
    let not_referenced = shown_so c.shows_below.result _ c.shows_below.ensures ∙ c.if-not-shows_below.true in
    at_commit_place g.S.Storage.state c.args.top below ExtraLayer _ _ c.in_ok-driver.ensures.layer
    (upper_misplaced _ c.args.next (reverse c.args.below.now.items) not_referenced)

pub returns-in_err-rest-clause-err : goal.returns-in_err-rest-clause-err
returns-in_err-rest-clause-err g c =
    let below = c.args.next ∷ reverse c.args.below.now.items in
    let named = shown_so c.shows_below.result _ c.shows_below.ensures ∙ c.if-not-shows_below.false in
    passed c.from_residual-in_err-rest.result
    (λ (e : Fault). HadResourceError g.S.Storage.state e ⊎ WhyNotCommitLayers g.S.Storage.state (c.args.top ∷ below) e)
    c.in_err-rest.field-0.0 c.from_residual-in_err-rest.ensures.1
    (at_commit_below g.S.Storage.state c.args.top below c.in_err-rest.field-0.0 _ _ c.in_ok-driver.ensures.layer
    (upper_placed _ c.args.next (reverse c.args.below.now.items) named) c.in_err-rest.ensures.err)

pub returns-in-Ok-clause-means : goal.returns-in-Ok-clause-means
returns-in-Ok-clause-means g c =
    let seen = image_seen.ghosts g.row.S g.S.Storage g.S.Storage-dict g.S.Destruct-dict in
    rw (c.in-Ok.ensures.ok)
    (over _ (map seen.layer (c.in_ok-rest.rest.0 ∷ c.in_ok-rest.rest.1)) (file_bytes g.S.Storage.state c.args.top)
    (files_bytes g.S.Storage.state (c.args.next ∷ reverse c.args.below.now.items)) c.in_ok-driver.ensures.means
    c.in_ok-rest.ensures.means.value (λ p. inl (c.shows_below.ensures.0 (grind (arith, c.if-not-shows_below.false)))))

pub returns-in-Ok-clause-named : goal.returns-in-Ok-clause-named
returns-in-Ok-clause-named g c = rw (c.in-Ok.ensures.ok) (c.in_ok-driver.ensures.named, c.in_ok-rest.ensures.named)
