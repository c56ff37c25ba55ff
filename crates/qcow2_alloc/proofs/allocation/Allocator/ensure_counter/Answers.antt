use Rattle.std.proofs.Common.{◌+◌, ◌/◌, ℕ, subst, ◌∙◌, ap}
use Rattle.qcow2_alloc.specs.declared.allocation.handing_out.Readiness.{Readiness}
use Rattle.qcow2_alloc.specs.Allocating.{MakesBlocks}
use Rattle.qcow2_types.specs.Counts.{counters_of_block}
use Rattle.qcow2_alloc.specs.Allocators.{metadata_of, table_of, first_free_of}
use Rattle.qcow2_alloc.specs.FillingBlocks.{FillsFrom}
use Rattle.qcow2_alloc.specs.HandingOutOne.{ReadiesRawEntry}
use Rattle.qcow2_alloc.specs.State.{seen, allocator_state}
use Rattle.qcow2_alloc.proofs.Blocks.BlockRows.{so, refused}
use Rattle.qcow2_alloc.proofs.Blocks.CounterProvision.{ready_so, counter-barred, counter-made, counter-unmade, index-moved}
use Rattle.qcow2_alloc.proofs.Faults.{handed-on}
use Rattle.qcow2_alloc.proofs.allocation.Allocator.ensure_counter.Goals as goal

pub returns-clause-readies : goal.returns-clause-readies
returns-clause-readies g c =
    let s = allocator_state c.args.self.now c.args.caches.now c.args.file.now c.args.list.now in
    let mid = c.ensure_entry.new in
    let between = allocator_state mid.self mid.caches mid.file mid.list in
    let new = c.ensure_blocks.new in
    let raw_entry = subst (λ (r : Readiness). ReadiesRawEntry g.S.Storage.state c.args.cluster s (ready_so r) between) c.in_default.is c.in_ok-ensure_entry.ensures.readies in
    let at = index-moved c.args.file.now.header mid.file.header raw_entry.did.step.moved c.args.cluster c.rt_index-index.result (c.rt_index-index.ensures ∙ ap (λ n. c.args.cluster / n) c.rb_bits.ensures.entries) in
    counter-made g.S.Storage.state c.args.cluster s between raw_entry c.requires.reach (table_of new.self) new.caches new.file (first_free_of new.self) c.in_ok-_provision.ensures.mark c.in_ok-_provision._provision
    (subst (λ (i : ℕ). MakesBlocks g.S.Storage.state i (i + 1) between.image (so c.in_ok-_provision._provision) (seen new.self new.caches new.file mid.list)) at (c.in_ok-_provision.ensures.makes mid.list.entries))
    (λ order keeps sound. subst (λ (m : ℕ). FillsFrom m (c.args.cluster / counters_of_block c.args.file.now.header.fields) (c.args.cluster / counters_of_block c.args.file.now.header.fields + 1) (metadata_of g.S.Storage.state mid.file mid.caches (table_of mid.self) mid.list.entries) (metadata_of g.S.Storage.state new.file new.caches (table_of new.self) mid.list.entries)) raw_entry.mark
    (subst (λ (i : ℕ). FillsFrom (first_free_of mid.self) i (i + 1) (metadata_of g.S.Storage.state mid.file mid.caches (table_of mid.self) mid.list.entries) (metadata_of g.S.Storage.state new.file new.caches (table_of new.self) mid.list.entries)) at (c.in_ok-_provision.ensures.fills mid.list.entries order keeps sound)))

pub returns-in_err-_provision-clause-readies : goal.returns-in_err-_provision-clause-readies
returns-in_err-_provision-clause-readies g c = rw (handed-on _ _ c.from_residual-in_err-_provision.ensures.1) (
    let s = allocator_state c.args.self.now c.args.caches.now c.args.file.now c.args.list.now in
    let mid = c.ensure_entry.new in
    let between = allocator_state mid.self mid.caches mid.file mid.list in
    let new = c.ensure_blocks.new in
    let raw_entry = subst (λ (r : Readiness). ReadiesRawEntry g.S.Storage.state c.args.cluster s (ready_so r) between) c.in_default.is c.in_ok-ensure_entry.ensures.readies in
    let at = index-moved c.args.file.now.header mid.file.header raw_entry.did.step.moved c.args.cluster c.rt_index-index.result (c.rt_index-index.ensures ∙ ap (λ n. c.args.cluster / n) c.rb_bits.ensures.entries) in
    counter-unmade g.S.Storage.state c.args.cluster s between raw_entry c.requires.reach (table_of new.self) new.caches new.file (first_free_of new.self) c.in_err-_provision.ensures.mark c.in_err-_provision.field-0.0
    (subst (λ (i : ℕ). MakesBlocks g.S.Storage.state i (i + 1) between.image (refused c.in_err-_provision.field-0.0) (seen new.self new.caches new.file mid.list)) at (c.in_err-_provision.ensures.makes mid.list.entries)))

pub returns-in-NoPlace-clause-readies : goal.returns-in-NoPlace-clause-readies
returns-in-NoPlace-clause-readies g c =
    let s = allocator_state c.args.self.now c.args.caches.now c.args.file.now c.args.list.now in
    let mid = c.ensure_entry.new in
    let between = allocator_state mid.self mid.caches mid.file mid.list in
    counter-barred g.S.Storage.state c.args.cluster s between
    (subst (λ (r : Readiness). ReadiesRawEntry g.S.Storage.state c.args.cluster s (ready_so r) between) c.in-NoPlace.is c.in_ok-ensure_entry.ensures.readies)
