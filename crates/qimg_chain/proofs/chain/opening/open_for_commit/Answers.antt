use Rattle.std.proofs.lemmas.Bool.Decides.{nat_tests}
use Rattle.std.proofs.Common.{◌≡◌, ◌<◌, ◌≤◌, ◌⊎◌, ◌∷◌, ◌++◌, ◌∙◌, [], ℕ, List, ap, arith, inr, length, subst, sym}
use Rattle.std.specs.Prelude.{IfErr, IfOk, reverse}
use Rattle.std.proofs.lemmas.List.{reverse-append, reverse-reverse}
use Rattle.imago_storage.specs.declared.fault.Fault.TheVariants.{Limit}
use Rattle.imago_access.specs.Layers.{chain}
use Rattle.qimg_core.specs.declared.plain.ChainFile.{ChainFile}
use Rattle.qimg_chain.specs.contracts.chain.image_driver.ImageDriverDriverModel.TheImpl as image_seen
use Rattle.qimg_chain.specs.Chains.{AreLayers, for_commit}
use Rattle.qimg_chain.specs.Refusals.{FirstCommitCause, HadResourceError, WhyNotCommitLayers}
use Rattle.qimg_chain.proofs.ImageKinds.{keeps_so, none_held, sound_so}
use Rattle.qimg_chain.proofs.Opened.{committable, formed_for_commit, free, has_no_dirty_data, on_ok, on_ok_both, ready, second_other}
use Rattle.qimg_chain.proofs.Opened.{stands}
use Rattle.qimg_chain.proofs.Refusing.{alone, first_commit_of, on_err, too_many, unsupported}
use Rattle.qimg_chain.proofs.chain.opening.open_for_commit.Goals as goal

-- The first two elements of a list, which are the last two of the reversed one.
begins : {A : Type 0} (xs ys zs ws : List A) (x y : A) → ys ≡ reverse xs → ys ≡ zs ++ (x ∷ []) → zs ≡ ws ++ (y ∷ [])
    → xs ≡ x ∷ (y ∷ reverse ws)
begins xs ys zs ws x y turned ends ends' =
    sym (reverse-reverse xs) ∙ ap reverse (sym turned ∙ ends) ∙ reverse-append zs (x ∷ [])
    ∙ ap (λ l. x ∷ l) (ap reverse ends' ∙ reverse-append ws (y ∷ []))

pub returns-then-len-lt2-clause-err : goal.returns-then-len-lt2-clause-err
returns-then-len-lt2-clause-err g c =
    let few : length c.args.files.items < 2 = grind (arith, nat_tests, c.if-len-lt2.true, c.len.ensures) in
    inr (alone g.S.Storage.state c.args.number c.args.below_number c.if-number-below_number.false c.args.files.items few)

pub returns-in-Vmdk-clause-err : goal.returns-in-Vmdk-clause-err
returns-in-Vmdk-clause-err g c =
    let two : 1 < length c.args.files.items = grind (arith, nat_tests, c.if-len-lt2.false, c.len.ensures) in
    inr (unsupported g.S.Storage.state c.args.number c.args.below_number c.if-number-below_number.false c.args.files.items
    c.index.result.now two c.index.ensures c.in-Vmdk.is)

pub returns-then-len-gt-MOST_LAYERS-clause-err : goal.returns-then-len-gt-MOST_LAYERS-clause-err
returns-then-len-gt-MOST_LAYERS-clause-err g c =
    let items = c.args.files.items in
    let two : 1 < length items = grind (arith, nat_tests, c.if-len-lt2.false, c.len.ensures) in
    let many : 64 < length items = grind (arith, nat_tests, c.if-len-gt-MOST_LAYERS.true, c.len-2.ensures) in
    let other = second_other items c.index.result.now two c.index.ensures c.in_default.not-Vmdk in
    let counted : length items ≡ c.len-then-len-gt-MOST_LAYERS.result =
    omega (arith, c.len-then-len-gt-MOST_LAYERS.ensures, c.args.files.ok.0) in
    inr (subst (λ (n : ℕ). FirstCommitCause g.S.Storage.state c.args.number c.args.below_number items (Limit n)) counted
    (too_many g.S.Storage.state c.args.number c.args.below_number c.if-number-below_number.false items two other many))

pub returns-clause-layers : goal.returns-clause-layers
returns-clause-layers g c =
    let same = begins c.args.files.items c.reverse.new.self.items c.pop.new.self.items c.pop-2.new.self.items c.in-Some.top
    c.in-Some-pop.next c.reverse.ensures.items c.in-Some.ensures.items c.in-Some-pop.ensures.items in
    rw same c.open_over_next.ensures.layers

pub returns-clause-means : goal.returns-clause-means
returns-clause-means g c =
    let same = begins c.args.files.items c.reverse.new.self.items c.pop.new.self.items c.pop-2.new.self.items c.in-Some.top
    c.in-Some-pop.next c.reverse.ensures.items c.in-Some.ensures.items c.in-Some-pop.ensures.items in
    rw same c.open_over_next.ensures.means

pub returns-clause-free : goal.returns-clause-free
returns-clause-free g c =
    on_ok (free _ g.S.Storage.state (for_commit c.args.number c.args.below_number) c.in-Some.top
    (c.in-Some-pop.next ∷ reverse c.pop-2.new.self.items)) c.open_over_next.result c.open_over_next.ensures.layers

pub returns-clause-has_no_dirty_data : goal.returns-clause-has_no_dirty_data
returns-clause-has_no_dirty_data g c =
    on_ok (has_no_dirty_data _ g.S.Storage.state (for_commit c.args.number c.args.below_number) c.in-Some.top
    (c.in-Some-pop.next ∷ reverse c.pop-2.new.self.items)) c.open_over_next.result c.open_over_next.ensures.layers

pub returns-clause-ready : goal.returns-clause-ready
returns-clause-ready g c =
    let same = begins c.args.files.items c.reverse.new.self.items c.pop.new.self.items c.pop-2.new.self.items c.in-Some.top
    c.in-Some-pop.next c.reverse.ensures.items c.in-Some.ensures.items c.in-Some-pop.ensures.items in
    let few : length c.args.files.items ≤ 64 = grind (arith, nat_tests, c.if-len-gt-MOST_LAYERS.false, c.len-2.ensures) in
    rw same (on_ok_both (ready _ g.S.Storage.state (none_held g.row.S g.S.Storage g.S.Storage-dict g.S.Destruct-dict)
    (keeps_so g.row.S g.S.Storage g.S.Storage-dict g.S.Destruct-dict) (sound_so g.row.S g.S.Storage g.S.Storage-dict g.S.Destruct-dict)
    (for_commit c.args.number c.args.below_number) c.in-Some.top (c.in-Some-pop.next ∷ reverse c.pop-2.new.self.items) (rw same at few))
    c.open_over_next.result c.open_over_next.ensures.layers c.open_over_next.ensures.places)

pub returns-clause-committable : goal.returns-clause-committable
returns-clause-committable g c =
    let same = begins c.args.files.items c.reverse.new.self.items c.pop.new.self.items c.pop-2.new.self.items c.in-Some.top
    c.in-Some-pop.next c.reverse.ensures.items c.in-Some.ensures.items c.in-Some-pop.ensures.items in
    rw same (on_ok_both (committable _ g.S.Storage.state (none_held g.row.S g.S.Storage g.S.Storage-dict g.S.Destruct-dict)
    (keeps_so g.row.S g.S.Storage g.S.Storage-dict g.S.Destruct-dict) (sound_so g.row.S g.S.Storage g.S.Storage-dict g.S.Destruct-dict)
    (for_commit c.args.number c.args.below_number) (c.in-Some.top ∷ (c.in-Some-pop.next ∷ reverse c.pop-2.new.self.items)))
    c.open_over_next.result c.open_over_next.ensures.layers c.open_over_next.ensures.places)

pub returns-clause-stands : goal.returns-clause-stands
returns-clause-stands g c =
    let same = begins c.args.files.items c.reverse.new.self.items c.pop.new.self.items c.pop-2.new.self.items c.in-Some.top
    c.in-Some-pop.next c.reverse.ensures.items c.in-Some.ensures.items c.in-Some-pop.ensures.items in
    rw same (on_ok (stands _ g.S.Storage.state (for_commit c.args.number c.args.below_number) c.in-Some.top
    (c.in-Some-pop.next ∷ reverse c.pop-2.new.self.items)) c.open_over_next.result c.open_over_next.ensures.layers)

pub returns-clause-formed : goal.returns-clause-formed
returns-clause-formed g c =
    let items = c.args.files.items in
    let same = begins items c.reverse.new.self.items c.pop.new.self.items c.pop-2.new.self.items c.in-Some.top
    c.in-Some-pop.next c.reverse.ensures.items c.in-Some.ensures.items c.in-Some-pop.ensures.items in
    let two : 1 < length items = grind (arith, nat_tests, c.if-len-lt2.false, c.len.ensures) in
    let few : length items ≤ 64 = grind (arith, nat_tests, c.if-len-gt-MOST_LAYERS.false, c.len-2.ensures) in
    let other = second_other items c.index.result.now two c.index.ensures c.in_default.not-Vmdk in
    let d = image_seen.ghosts g.row.S g.S.Storage g.S.Storage-dict g.S.Destruct-dict in
    let layers = subst (λ (files : List (ChainFile g.row.S.Denot)). IfOk c.open_over_next.result
    (λ x. AreLayers d g.S.Storage.state (for_commit c.args.number c.args.below_number) files (chain x))) (sym same)
    c.open_over_next.ensures.layers in
    on_ok_both (formed_for_commit d g.S.Storage.state c.args.number c.args.below_number items two few other)
    c.open_over_next.result layers c.open_over_next.ensures.places

pub returns-clause-err : goal.returns-clause-err
returns-clause-err g c =
    let items = c.args.files.items in
    let same = begins items c.reverse.new.self.items c.pop.new.self.items c.pop-2.new.self.items c.in-Some.top
    c.in-Some-pop.next c.reverse.ensures.items c.in-Some.ensures.items c.in-Some-pop.ensures.items in
    let two : 1 < length items = grind (arith, nat_tests, c.if-len-lt2.false, c.len.ensures) in
    let few : length items ≤ 64 = grind (arith, nat_tests, c.if-len-gt-MOST_LAYERS.false, c.len-2.ensures) in
    let other = second_other items c.index.result.now two c.index.ensures c.in_default.not-Vmdk in
    let why = subst (λ (files : List (ChainFile g.row.S.Denot)). IfErr c.open_over_next.result
    (λ e. HadResourceError g.S.Storage.state e ⊎ WhyNotCommitLayers g.S.Storage.state files e)) (sym same) c.open_over_next.ensures.err in
    on_err (first_commit_of g.S.Storage.state c.args.number c.args.below_number c.if-number-below_number.false items two other few)
    c.open_over_next.result why

pub returns-clause-distinct : goal.returns-clause-distinct
returns-clause-distinct g c = on_ok (λ _ _. c.if-number-below_number.false) c.open_over_next.result c.open_over_next.ensures.places
