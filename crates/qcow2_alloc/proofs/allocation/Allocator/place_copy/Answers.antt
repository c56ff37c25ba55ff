use Rattle.std.proofs.Common.{◌≡◌, ◌+◌, ◌-◌, ◌*◌, ◌^◌, ◌∙◌, ℕ, ap, subst, arith, length, Some, true}
use Rattle.qcow2_types.specs.Counts.{counters_of_block}
use Rattle.qcow2_metadata.specs.Places.{IsAddressable}
use Rattle.qcow2_alloc.specs.Allocators.{table_of}
use Rattle.qcow2_alloc.specs.Growing.{lacking}
use Rattle.qcow2_alloc.specs.MakingBlocks.{CanReference}
use Rattle.qcow2_alloc.proofs.Growth.CopyPlaces.{copy-planned}
use Rattle.qcow2_alloc.proofs.allocation.Allocator.place_copy.Goals as goal

pub returns-clause-ok : goal.returns-clause-ok
returns-clause-ok c =
    let h = c.args.header.now.fields in
    let t = table_of c.args.self.now in
    let run = c.args.room in
    let k = counters_of_block c.args.header.now.fields in
    let r = c.rb_bits-rb_bits.result in
    let entries = c.rb_bits-rb_bits.ensures.entries in
    let first : c.first-2.inside.0 ≡ run.first = c.first-2.view_is ∙ c.first.ensures in
    let some = c.if-first-eq0.false in
    let more = c.requires.copy.more in
    let enough = c.requires.copy.enough in
    let last : c.first-2.inside.0 + (c.len.result - 1) ≡ run.first + (run.len - 1) = (let len = c.len.ensures in omega (arith, first, len)) in
    let can = subst (λ (d : ℕ). CanReference t h.cluster_bits d × IsAddressable h.cluster_bits d) last (subst (λ (b : ℕ). CanReference t b (c.first-2.inside.0 + (c.len.result - 1)) × IsAddressable b (c.first-2.inside.0 + (c.len.result - 1))) c.cluster_bits.ensures.value c.in_ok-check_place.ensures.ok) in
    let raw_entries : c.entries.result * 2 ^ r ≡ length c.args.copy.now.raw_entries * k = ap (λ n. n * 2 ^ r) c.entries.ensures.value ∙ ap (λ n. length c.args.copy.now.raw_entries * n) entries in
    let end : c.from_ref_indices-2.inside.0 ≡ c.entries.result * 2 ^ r + 0 = c.from_ref_indices-2.view_is ∙ c.from_ref_indices.ensures in
    let below = c.if-last-from_ref_indices.false in
    let blocks : c.lacking_for.result ≡ lacking t k run.first run.len = c.lacking_for.ensures ∙ ap (λ n. lacking t n run.first run.len) entries in
    let place : c.first-2.inside.0 + c.lacking_for.result ≡ run.first + lacking t k run.first run.len = omega (arith, first, blocks) in
    copy-planned h t run c.args.copy.now c.set_cluster.new.self c.link_new_blocks.new.table c.requires.copy c.cluster_bits.ensures.shaped.low
    (c.set_cluster.ensures ∙ ap (λ (d : ℕ). record c.args.copy.now { cluster = Some d; modified = true }) place) c.in_ok-link_new_blocks.ensures.ok c.entries.ensures.table
    (λ none. some (omega (arith, first, none))) can.0 can.1 (omega (arith, last, below, end, raw_entries, more, enough))
