use Rattle.std.proofs.Common.{◌≡◌, ◌≤◌, ◌<◌, ◌+◌, ◌*◌, ◌/◌, ◌^◌, ℕ, suc, arith, ap, sym, subst, ◌∙◌, Option}
use Rattle.std.specs.Option.{is_some}
use Rattle.std.proofs.lemmas.Nat.{pow_pos}
use Rattle.std.proofs.Math.Nat.{pow-le-pow_right, div-mul-le_self}
use Rattle.qcow2_alloc.specs.Allocators.{table_of}
use Rattle.qcow2_alloc.specs.Growing.{lacks}
use Rattle.qcow2_alloc.specs.MakingRoom.{rank}
use Rattle.qcow2_alloc.proofs.Growth.FirstRooms.{lacking-before, lacking-behind, lacking-there, lacking-here, index-near}
use Rattle.qcow2_alloc.proofs.Blocks.RefcountTableWords.{named-some, named-none}
use Rattle.qcow2_alloc.proofs.allocation.Allocator.lacking_for.Goals as goal
use Rattle.qcow2_alloc.proofs.allocation.Allocator.lacking_for.Goals.{then-is_none, else-is_none}

pub loop-lacking-init : goal.loop-lacking-init
loop-lacking-init c =
    let k = pow_pos c.args.rb_bits in
    let at = c.rt_index-index.ensures in
    let le : c.args.run.first / 2 ^ c.args.rb_bits * 2 ^ c.args.rb_bits ≤ c.args.run.first = div-mul-le_self c.args.run.first (2 ^ c.args.rb_bits) in
    subst (λ (i : ℕ). (0 ≡ rank (lacks (table_of c.args.self.now) (2 ^ c.args.rb_bits) c.args.run.first c.args.run.len) i) × (0 ≤ i) × (c.args.run.first / 2 ^ c.args.rb_bits ≤ i) × (i * 2 ^ c.args.rb_bits < c.args.run.first + c.args.run.len + 2 ^ c.args.rb_bits))
    (sym at) (sym (lacking-before (table_of c.args.self.now) (2 ^ c.args.rb_bits) c.args.run.first c.args.run.len), omega arith, omega arith, omega (arith, le, k))

pub from_ref_indices-requires-clause-fits : goal.from_ref_indices-requires-clause-fits
from_ref_indices-requires-clause-fits c =
    let k : 2 ^ c.args.rb_bits ≤ 2 ^ 24 = pow-le-pow_right (omega arith) c.requires.bits in
    let near = c.loop-lacking.invariant.3 in
    let fits = c.requires.fits in
    omega (arith, k, near, fits)

pub loop-lacking-preserved : goal.loop-lacking-preserved
loop-lacking-preserved c =
    let l = c.loop-lacking in
    let t = table_of c.args.self.now in
    let k = 2 ^ c.args.rb_bits in
    let first = c.args.run.first in
    let len = c.args.run.len in
    let at = c.from_ref_indices.ensures in
    let end = c.next.ensures in
    let test = c.loop-lacking-test.true in
    let sum = l.invariant.0 in
    let few = l.invariant.1 in
    let from = l.invariant.2 in
    let inside : l.index * k < first + len = omega (arith, test, at, end) in
    let up : rank (lacks t k first len) (l.index + 1) ≡ rank (lacks t k first len) (suc l.index) = ap (rank (lacks t k first len)) (omega arith) in
    let next : (l.index + 1) * k ≡ l.index * k + k = omega arith in
    elim c.if-is_none.branch [
      | then-is_none w ↦
          let none = named-none t l.index (ap (λ (o : Option ℕ). is_some o) (sym c.block_cluster.ensures) ∙ w.if-is_none.ensures) in
          let more : rank (lacks t k first len) (l.index + 1) ≡ rank (lacks t k first len) l.index + 1 = up ∙ lacking-here t k first len l.index none from inside in
          let is = w.lacking-is in (omega (arith, is, more, sum), omega (arith, is, few), omega (arith, from), omega (arith, inside, next))
      | else-is_none w ↦
          let there = named-some t l.index (ap (λ (o : Option ℕ). is_some o) (sym c.block_cluster.ensures) ∙ w.if-is_none.ensures) in
          let same : rank (lacks t k first len) (l.index + 1) ≡ rank (lacks t k first len) l.index = up ∙ lacking-there t k first len l.index there in
          let is = w.lacking-is in (omega (arith, is, same, sum), omega (arith, is, few), omega (arith, from), omega (arith, inside, next))
    ]

pub returns : goal.returns
returns c =
    let past = c.loop-lacking-test.false in
    let at = c.from_ref_indices.ensures in
    let end = c.next.ensures in
    let near = c.loop-lacking.invariant.3 in
    let some = pow_pos c.args.rb_bits in
    c.loop-lacking.invariant.0 ∙ lacking-behind (table_of c.args.self.now) (2 ^ c.args.rb_bits) c.args.run.first c.args.run.len c.loop-lacking.index (omega (arith, past, at, end))
    (index-near c.loop-lacking.index (2 ^ c.args.rb_bits) (c.args.run.first + c.args.run.len) some near)
