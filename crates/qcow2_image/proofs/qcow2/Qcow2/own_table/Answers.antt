use Rattle.std.proofs.Common.{refl, ap, sym, subst, ◌∙◌, arith, ℕ, ◌/◌, Result, Ok}
use Rattle.std.specs.Prelude.{slice_index}
use Rattle.imago_storage.specs.declared.fault.Fault.{Fault}
use Rattle.qcow2_types.specs.Entries.{l2_entries}
use Rattle.qcow2_types.specs.Words.{is_copied}
use Rattle.qcow2_image.specs.Allocating.{Begins, EnsuresTable}
use Rattle.qcow2_image.specs.FreeSpace.{enough_for_one}
use Rattle.qcow2_image.specs.Looking.{place_of_table}
use Rattle.qcow2_image.specs.declared.qcow2.Qcow2.{Qcow2}
use Rattle.qcow2_image.proofs.CallStarts.{begins-same, changed-begins}
use Rattle.qcow2_image.proofs.ClusterSteps.{renewed, table-there}
use Rattle.qcow2_image.proofs.qcow2.Qcow2.own_table.Goals as goal
use Rattle.qcow2_image.proofs.qcow2.Qcow2.own_table.Goals.{in-Some+else-is_copied, in_default}

pub returns-then-is_copied-clause-table : goal.returns-then-is_copied-clause-table
returns-then-is_copied-clause-table g c =
    let old = c.args.self.now in
    let bits = c.cluster_bits-cluster_bits.ensures.value in
    table-there g.S.Storage old c.args.guest c.in-Some.table
    (ap (λ b. place_of_table old.tables.l1.raw_entries b c.args.guest) (sym bits) ∙ sym c.l2_cluster-named.ensures ∙ c.in-Some.is)
    (ap (λ n. is_copied (slice_index old.tables.l1.raw_entries n)) (sym (c.l1_index-index.ensures ∙ ap (λ b. c.args.guest / l2_entries b) bits))
    ∙ ap is_copied (sym c.get.ensures) ∙ sym c.is_copied.ensures ∙ c.if-is_copied.true)

pub returns-clause-table : goal.returns-clause-table
returns-clause-table g c =
    let old = c.args.self.now in
    let guest = c.args.guest in
    let bits = c.cluster_bits-cluster_bits.ensures.value in
    subst (λ (r : Result ℕ Fault). EnsuresTable g.S.Storage (enough_for_one old.tables) guest old r c.mark_change_fault.new.self) (sym c.mark_change_fault.ensures.same)
    (subst (λ (d : Qcow2 g.row.S.Denot g.S.Storage). EnsuresTable g.S.Storage (enough_for_one old.tables) guest old c.new_table-made.result d) (sym c.mark_change_fault.ensures.marks_failed)
    (renewed g.S.Storage old c.new_table-made.new.begun _ c.in-Some-space.space c.new_table-made.new.space c.drop_cached-dropped.new.caches guest c.l1_index-index.result
    c.new_table-made.result c.in-Some-space.is refl c.requires.free (c.l1_index-index.ensures ∙ ap (λ b. guest / l2_entries b) bits)
    (let inside = c.requires.inside in let at = c.l1_index-index.ensures ∙ ap (λ b. guest / l2_entries b) bits in omega (arith, inside, at)) c.l2_cluster-named.result
    (ap (λ b. place_of_table old.tables.l1.raw_entries b guest) (sym bits) ∙ sym c.l2_cluster-named.ensures)
    (λ table is. elim c.match-named.branch [
      | in-Some+else-is_copied w ↦
          ap (λ n. is_copied (slice_index old.tables.l1.raw_entries n)) (sym (c.l1_index-index.ensures ∙ ap (λ b. guest / l2_entries b) bits))
          ∙ ap is_copied (sym w.get.ensures) ∙ sym w.is_copied.ensures ∙ w.if-is_copied.false
      | in_default w ↦ absurd (cc (sym is ∙ w.in_default.is))
    ])
    (λ is. c.new_table-made.ensures.copies (c.is_some-is_copy.ensures ∙ is))
    (λ is. c.new_table-made.ensures.makes (c.is_some-is_copy.ensures ∙ is))))

pub returns-then-is_copied-clause-begins : goal.returns-then-is_copied-clause-begins
returns-then-is_copied-clause-begins g c = begins-same g.S.Storage {T = ℕ} c.args.begun.now c.args.self.now (Ok c.in-Some.table) tt

pub returns-clause-begins : goal.returns-clause-begins
returns-clause-begins g c =
    let old = c.args.self.now in
    let made = c.new_table-made in
    let was = c.args.begun.now in
    let now = made.new.begun in
    subst (λ (r : Result ℕ Fault). Begins g.S.Storage was old r now c.mark_change_fault.new.self) (sym c.mark_change_fault.ensures.same)
    (subst (λ (d : Qcow2 g.row.S.Denot g.S.Storage). Begins g.S.Storage was old made.result now d) (sym c.mark_change_fault.ensures.marks_failed)
    (changed-begins g.S.Storage was now old _ c.in-Some-space.space made.new.space c.drop_cached-dropped.new.caches made.result c.in-Some-space.is refl
    made.ensures.rests.counts_not_fallen made.ensures.rests.faults made.ensures.rests.empty made.ensures.untouched_unless_begun))
