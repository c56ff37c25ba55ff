use Rattle.std.proofs.Common.{refl, ap, sym, subst, ◌∙◌, Result, Err}
use Rattle.std.specs.Prelude.{not}
use Rattle.imago_storage.specs.declared.fault.Fault.{Fault}
use Rattle.imago_storage.specs.declared.fault.Fault.TheVariants.{DamagedTable}
use Rattle.qcow2_image.specs.Allocating.{Begins, FillsContent}
use Rattle.qcow2_image.specs.declared.qcow2.Qcow2.{Qcow2}
use Rattle.qcow2_clusters.proofs.EarlyRefusals.{words-same}
use Rattle.qcow2_image.proofs.CallStarts.{begins-same, changed-begins}
use Rattle.qcow2_image.proofs.ClusterSteps.{filled, some-there}
use Rattle.qcow2_image.proofs.qcow2.Qcow2.fill_content.Goals as goal

pub returns-clause-fills : goal.returns-clause-fills
returns-clause-fills g c = λ guest.
    let old = c.args.self.now in
    let bytes = c.args.content.now in
    let caches = c.drop_cached-dropped.new.caches in
    let some = some-there old.tables.space (c.is_none.ensures ∙ ap not c.if-is_none.false) in
    subst (λ (r : Result Unit Fault). FillsContent g.S.Storage guest c.args.host bytes old r c.mark_change_fault.new.self) (sym c.mark_change_fault.ensures.same)
    (subst (λ (d : Qcow2 g.row.S.Denot g.S.Storage). FillsContent g.S.Storage guest c.args.host bytes old c.fill-filled.result d) (sym c.mark_change_fault.ensures.marks_failed)
    (filled g.S.Storage old c.fill-filled.new.begun _ some.0 caches guest c.args.host bytes c.fill-filled.result some.1 some.1 refl c.requires.free
    (c.fill-filled.ensures.fills guest caches some.0 c.drop_cached-dropped.ensures.empty) c.fill-filled.ensures.reaches))

pub returns-then-is_none-clause-begins : goal.returns-then-is_none-clause-begins
returns-then-is_none-clause-begins g c = begins-same g.S.Storage {T = Unit} c.args.begun.now c.args.self.now (Err DamagedTable) tt

pub returns-clause-begins : goal.returns-clause-begins
returns-clause-begins g c =
    let old = c.args.self.now in
    let caches = c.drop_cached-dropped.new.caches in
    let some = some-there old.tables.space (c.is_none.ensures ∙ ap not c.if-is_none.false) in
    let filled = c.fill-filled in
    let was = c.args.begun.now in
    let now = filled.new.begun in
    let fills = filled.ensures.fills 0 caches some.0 c.drop_cached-dropped.ensures.empty in
    subst (λ (r : Result Unit Fault). Begins g.S.Storage was old r now c.mark_change_fault.new.self) (sym c.mark_change_fault.ensures.same)
    (subst (λ (d : Qcow2 g.row.S.Denot g.S.Storage). Begins g.S.Storage was old filled.result now d) (sym c.mark_change_fault.ensures.marks_failed)
    (changed-begins g.S.Storage was now old _ some.0 some.0 caches filled.result some.1 some.1 fills.rests.counts_not_fallen fills.rests.faults
    c.drop_cached-dropped.ensures.empty (λ unbegun.
    let spared = filled.ensures.untouched_unless_begun unbegun in
    (record { unbegun = spared.0; refused = spared.1; unchanged_but_faults = spared.2; header = fills.header; space = refl }, words-same old.tables.l1))))
