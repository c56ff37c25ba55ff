use Rattle.std.proofs.Common.{◌≡◌, ◌⊎◌, ◌∷◌, ◌++◌, ◌∙◌, [], List, ap, arith, inl, inr, refl, subst, sym}
use Rattle.std.specs.Prelude.{map, reverse}
use Rattle.std.proofs.lemmas.List.{nil_from_length, reverse-append}
use Rattle.imago_storage.specs.declared.fault.Fault.{Fault}
use Rattle.imago_storage.specs.declared.fault.Fault.TheVariants.{ExtraLayer}
use Rattle.imago_storage.proofs.Parts.{passed}
use Rattle.qimg_core.specs.declared.plain.ChainFile.{ChainFile}
use Rattle.qimg_chain.specs.contracts.chain.image_driver.ImageDriverDriverModel.TheImpl as image_seen
use Rattle.qimg_chain.specs.FileMeanings.{file_bytes, files_bytes}
use Rattle.qimg_chain.specs.Refusals.{HadResourceError, WhyNotLayers}
use Rattle.qimg_chain.proofs.FilesShown.{over}
use Rattle.qimg_chain.proofs.Refusing.{at_below, at_place, shown_so, upper_misplaced, upper_placed}
use Rattle.qimg_chain.proofs.chain.opening.+open_over.Goals as goal

begins : {A : Type 0} (xs zs : List A) (x : A) → xs ≡ zs ++ (x ∷ []) → reverse xs ≡ x ∷ reverse zs
begins xs zs x ends = ap reverse ends ∙ reverse-append zs (x ∷ [])

pub returns-in-None-clause-layers : goal.returns-in-None-clause-layers
returns-in-None-clause-layers g t c =
    let none : c.args.below.now.items ≡ [] = nil_from_length c.args.below.now.items (omega (arith, c.in-None.ensures.cases.0, c.args.below.now.ok.0)) in
    rw (c.new.ensures, none) (record { opened = c.in_ok-driver.ensures.opened; layer = c.in_ok-driver.ensures.layer }, tt)

pub returns-in-Ok-clause-layers : goal.returns-in-Ok-clause-layers
returns-in-Ok-clause-layers g t c =
    rw (c.in-Ok.ensures.ok, begins c.args.below.now.items c.pop.new.self.items c.in-Some.next c.in-Some.ensures.items)
    (record { opened = c.in_ok-driver.ensures.opened; layer = c.in_ok-driver.ensures.layer }, c.in_ok-rest.ensures.layers)

pub returns-then-not-shows_below-clause-err : goal.returns-then-not-shows_below-clause-err
returns-then-not-shows_below-clause-err g t c =
    let rest = reverse c.pop.new.self.items in
    let same = begins c.args.below.now.items c.pop.new.self.items c.in-Some.next c.in-Some.ensures.items in
    let not_referenced = shown_so c.shows_below-2.result _ c.shows_below-2.ensures ∙ c.if-not-shows_below.true in
    subst (λ (fs : List (ChainFile g.row.S.Denot)). HadResourceError g.S.Storage.state ExtraLayer ⊎ WhyNotLayers g.S.Storage.state c.args.writable (c.args.top ∷ fs) ExtraLayer) (sym same)
    (at_place g.S.Storage.state c.args.writable c.args.top (c.in-Some.next ∷ rest) ExtraLayer _ _ c.in_ok-driver.ensures.layer
    (upper_misplaced _ c.in-Some.next rest not_referenced))

pub returns-in_err-rest-clause-err : goal.returns-in_err-rest-clause-err
returns-in_err-rest-clause-err g t c =
    let rest = reverse c.pop.new.self.items in
    let same = begins c.args.below.now.items c.pop.new.self.items c.in-Some.next c.in-Some.ensures.items in
    let named = shown_so c.shows_below-2.result _ c.shows_below-2.ensures ∙ c.if-not-shows_below.false in
    passed c.from_residual-in_err-rest.result (λ (e : Fault). HadResourceError g.S.Storage.state e ⊎ WhyNotLayers g.S.Storage.state c.args.writable (c.args.top ∷ reverse c.args.below.now.items) e)
    c.in_err-rest.field-0.0 c.from_residual-in_err-rest.ensures.1
    (subst (λ (fs : List (ChainFile g.row.S.Denot)). HadResourceError g.S.Storage.state c.in_err-rest.field-0.0
    ⊎ WhyNotLayers g.S.Storage.state c.args.writable (c.args.top ∷ fs) c.in_err-rest.field-0.0) (sym same)
    (at_below g.S.Storage.state c.args.writable c.args.top (c.in-Some.next ∷ rest) c.in_err-rest.field-0.0 _ _ c.in_ok-driver.ensures.layer
    (upper_placed _ c.in-Some.next rest named) c.in_err-rest.ensures.err))

pub returns-in-None-clause-means : goal.returns-in-None-clause-means
returns-in-None-clause-means g t c =
    let none : c.args.below.now.items ≡ [] = nil_from_length c.args.below.now.items (omega (arith, c.in-None.ensures.cases.0, c.args.below.now.ok.0)) in
    rw (c.new.ensures, none) (over _ [] _ [] c.in_ok-driver.ensures.means (λ p. refl) (λ p. inr refl))

pub returns-in-Ok-clause-means : goal.returns-in-Ok-clause-means
returns-in-Ok-clause-means g t c =
    rw (c.in-Ok.ensures.ok, begins c.args.below.now.items c.pop.new.self.items c.in-Some.next c.in-Some.ensures.items)
    (over _ (map (image_seen.ghosts g.row.S g.S.Storage g.S.Storage-dict g.S.Destruct-dict).layer (c.in_ok-rest.rest.0 ∷ c.in_ok-rest.rest.1)) (file_bytes g.S.Storage.state c.args.top) (files_bytes g.S.Storage.state (c.in-Some.next ∷ reverse c.pop.new.self.items)) c.in_ok-driver.ensures.means c.in_ok-rest.ensures.means.value (λ p. inl (c.shows_below-2.ensures.0 (grind (arith, c.if-not-shows_below.false)))))

pub returns-in-None-clause-named : goal.returns-in-None-clause-named
returns-in-None-clause-named g t c = rw (c.new.ensures) (c.in_ok-driver.ensures.named, tt)

pub returns-in-Ok-clause-named : goal.returns-in-Ok-clause-named
returns-in-Ok-clause-named g t c = rw (c.in-Ok.ensures.ok) (c.in_ok-driver.ensures.named, c.in_ok-rest.ensures.named)
