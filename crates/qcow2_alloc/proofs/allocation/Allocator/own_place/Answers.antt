use Rattle.std.proofs.Common.{◌≡◌, ◌*◌, ◌/◌, ◌<◌, ◌^◌, ap, ◌∙◌, arith}
use Rattle.std.proofs.Math.Nat.{mul-div_left}
use Rattle.std.proofs.lemmas.Nat.{pow_pos}
use Rattle.qcow2_types.specs.Counts.{counters_of_block}
use Rattle.qcow2_alloc.proofs.allocation.Allocator.own_place.Goals as goal

pub returns-clause-own : goal.returns-clause-own
returns-clause-own c =
    let some : 0 < 2 ^ c.rb_bits.result = pow_pos c.rb_bits.result in
    let entries = c.rb_bits.ensures.entries in
    let is : c.from_ref_indices.result ≡ c.args.index * counters_of_block c.args.header.now.fields = c.from_ref_indices.ensures ∙ omega arith ∙ ap (λ n. c.args.index * n) entries in
    ap (λ n. n / counters_of_block c.args.header.now.fields) is ∙ mul-div_left c.args.index (omega (arith, some, entries))
