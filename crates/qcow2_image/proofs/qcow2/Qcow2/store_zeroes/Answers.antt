use Rattle.std.proofs.Common.{refl, sym, subst, ℕ, Result, ◌*◌, ◌∙◌, replicate}
use Rattle.imago_storage.specs.declared.fault.Fault.{Fault}
use Rattle.qcow2_types.specs.Header.{cluster_size}
use Rattle.qcow2_image.specs.Allocating.{Begins, StoresContent}
use Rattle.qcow2_image.specs.declared.qcow2.Qcow2.{Qcow2}
use Rattle.qcow2_clusters.proofs.EarlyRefusals.{words-same}
use Rattle.qcow2_image.proofs.CallStarts.{changed-begins}
use Rattle.qcow2_image.proofs.ClusterSteps.{stored}
use Rattle.qcow2_image.proofs.qcow2.Qcow2.store_zeroes.Goals as goal

pub returns-clause-stores : goal.returns-clause-stores
returns-clause-stores g c =
    let old = c.args.self.now in
    let bytes = replicate (c.args.count * cluster_size old.tables.file.header.fields) 0 in
    subst (λ (r : Result ℕ Fault). StoresContent g.S.Storage c.args.count bytes old r c.mark_change_fault.new.self)
    (sym (c.host_of.ensures ∙ c.mark_change_fault.ensures.same))
    (subst (λ (d : Qcow2 g.row.S.Denot g.S.Storage). StoresContent g.S.Storage c.args.count bytes old c.store_zeroes-stored.result d)
    (sym c.mark_change_fault.ensures.marks_failed)
    (stored g.S.Storage old c.store_zeroes-stored.new.begun _ c.in-Some.space c.store_zeroes-stored.new.space
    c.drop_cached-dropped.new.caches c.args.count bytes c.store_zeroes-stored.result c.in-Some.is refl refl
    c.requires.free c.requires.any c.store_zeroes-stored.ensures.stores c.store_zeroes-stored.ensures.reaches))

pub returns-clause-begins : goal.returns-clause-begins
returns-clause-begins g c =
    let old = c.args.self.now in
    let stored = c.store_zeroes-stored in
    let was = c.args.begun.now in
    let now = stored.new.begun in
    subst (λ (r : Result ℕ Fault). Begins g.S.Storage was old r now c.mark_change_fault.new.self)
    (sym (c.host_of.ensures ∙ c.mark_change_fault.ensures.same))
    (subst (λ (d : Qcow2 g.row.S.Denot g.S.Storage). Begins g.S.Storage was old stored.result now d)
    (sym c.mark_change_fault.ensures.marks_failed)
    (changed-begins g.S.Storage was now old _ c.in-Some.space stored.new.space c.drop_cached-dropped.new.caches stored.result c.in-Some.is refl
    stored.ensures.stores.rests.counts_not_fallen stored.ensures.stores.rests.faults stored.ensures.stores.rests.empty
    (λ not. (stored.ensures.untouched_unless_begun not, words-same old.tables.l1))))
