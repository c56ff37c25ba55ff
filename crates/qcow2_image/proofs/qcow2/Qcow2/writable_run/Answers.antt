use Rattle.std.proofs.Common.{sym, ◌∙◌, subst}
use Rattle.qcow2_image.specs.Holding.{HoldsRun}
use Rattle.qcow2_image.specs.Seen.{writable_locations_of}
use Rattle.qcow2_image.specs.Unspent.{holding_in}
use Rattle.qcow2_image.proofs.RangeLookups.{held-goes-on, held-nowhere, word-none, words-none}
use Rattle.qcow2_image.proofs.qcow2.Qcow2.writable_run.Goals as goal

pub returns-in-None-clause-writable_location : goal.returns-in-None-clause-writable_location
returns-in-None-clause-writable_location g c = λ seen.
    let st = g.S.Storage in
    let old = c.args.self.now in
    let keeps = c.in_ok-mapping.ensures.keeps in
    let held = subst (λ u. HoldsRun (holding_in st u) c.args.offset c.in_ok-mapping.count c.held_run.result) keeps.unspent
    c.held_run.ensures.run in
    held-goes-on (holding_in st old.unspent) (writable_locations_of st old) c.args.offset c.in_ok-mapping.count c.held_run.result held
    (words-none st old c.args.offset c.args.length c.in_ok-mapping.count c.in_ok-mapping.mapping (c.in_ok-mapping.ensures.entry seen)
    (sym c.writable_place.ensures ∙ c.in-None.is) (c.in_ok-mapping.ensures.whole seen))

pub returns-in-None-clause-none : goal.returns-in-None-clause-none
returns-in-None-clause-none g c = λ seen nowhere.
    let st = g.S.Storage in
    let old = c.args.self.now in
    let keeps = c.in_ok-mapping.ensures.keeps in
    let held = subst (λ u. HoldsRun (holding_in st u) c.args.offset c.in_ok-mapping.count c.held_run.result) keeps.unspent
    c.held_run.ensures.run in
    held-nowhere (holding_in st old.unspent) (writable_locations_of st old) c.args.offset c.in_ok-mapping.count c.held_run.result held
    (word-none st old c.args.offset c.args.length c.in_ok-mapping.count c.in_ok-mapping.mapping (c.in_ok-mapping.ensures.entry seen)
    (sym c.writable_place.ensures ∙ c.in-None.is)) nowhere
