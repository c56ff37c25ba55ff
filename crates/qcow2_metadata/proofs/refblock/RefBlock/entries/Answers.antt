use Rattle.std.proofs.Common.{◌≡◌, ◌*◌, ◌/◌, ◌^◌, ◌∙◌, ap, sym, length, arith}
use Rattle.qcow2_metadata.specs.Blocks.{Block}
use Rattle.qcow2_metadata.proofs.Blocks.{counters_length}
use Rattle.qcow2_metadata.proofs.Packed.{count-of-cells, whole-counters}
use Rattle.qcow2_metadata.proofs.CounterBounds.{counters-fit}
use Rattle.qcow2_metadata.proofs.refblock.RefBlock.entries.Goals as goal

pub returns-clause-value : goal.returns-clause-value
returns-clause-value c =
    let s = c.self.inside in
    let long : c.len.result ≡ 2 ^ s.cluster_bits = omega (arith, c.len.ensures, s.bytes.ok, c.self.invariant.whole) in
    ap (λ n. n * 8 / 2 ^ s.refcount_order) long
    ∙ (sym (count-of-cells s.refcount_order s.cluster_bits (length s.bytes.items) c.self.invariant.order c.self.invariant.low c.self.invariant.whole)
    ∙ (sym (counters_length s.refcount_order s.bytes.items) ∙ ap (λ (v : Block). length v.counters) c.self.view_is))

pub returns-clause-whole : goal.returns-clause-whole
returns-clause-whole c =
    let s = c.self.inside in
    let long : c.len.result ≡ 2 ^ s.cluster_bits = omega (arith, c.len.ensures, s.bytes.ok, c.self.invariant.whole) in
    ap (λ n. n * 8 / 2 ^ s.refcount_order * 2 ^ c.args.self.now.order) long
    ∙ (ap (λ (v : Block). 2 ^ s.cluster_bits * 8 / 2 ^ s.refcount_order * 2 ^ v.order) (sym c.self.view_is)
    ∙ (whole-counters s.refcount_order s.cluster_bits c.self.invariant.order c.self.invariant.low ∙ ap (λ (v : Block). 2 ^ v.cluster_bits * 8) c.self.view_is))

pub returns-clause-fit : goal.returns-clause-fit
returns-clause-fit c = rw (← c.self.view_is) (counters-fit c.self.inside.refcount_order c.self.inside.bytes.items)
