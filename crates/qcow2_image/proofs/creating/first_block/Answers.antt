use Rattle.std.proofs.Common.{arith, ap, ◌∙◌, length}
use Rattle.std.proofs.lemmas.List.{length-set}
use Rattle.qcow2_metadata.specs.Blocks.{Block}
use Rattle.qcow2_image.proofs.Resizes.Creations.{counters-counted, counters-room}
use Rattle.qcow2_image.proofs.creating.first_block.Goals as goal

pub count_first-requires-clause-inside : goal.count_first-requires-clause-inside
count_first-requires-clause-inside c =
    let none = ap (λ (b : Block). b.counters) c.set_cluster.ensures ∙ ap (λ (b : Block). b.counters) c.in_ok-block.ensures.ok in
    let room = counters-room c.args.header.now.fields c.requires.shaped c.set_cluster.new.self.counters none in
    omega (arith, room)

pub count_first-requires-2-clause-inside : goal.count_first-requires-2-clause-inside
count_first-requires-2-clause-inside c =
    let none = ap (λ (b : Block). b.counters) c.set_cluster.ensures ∙ ap (λ (b : Block). b.counters) c.in_ok-block.ensures.ok in
    let room = counters-room c.args.header.now.fields c.requires.shaped c.set_cluster.new.self.counters none in
    let long = ap (λ (b : Block). length b.counters) c.count_first.ensures.value ∙ length-set c.set_cluster.new.self.counters 0 _ in
    omega (arith, room, long)

pub count_first-requires-3-clause-inside : goal.count_first-requires-3-clause-inside
count_first-requires-3-clause-inside c =
    let none = ap (λ (b : Block). b.counters) c.set_cluster.ensures ∙ ap (λ (b : Block). b.counters) c.in_ok-block.ensures.ok in
    let room = counters-room c.args.header.now.fields c.requires.shaped c.set_cluster.new.self.counters none in
    let long = ap (λ (b : Block). length b.counters) c.count_first.ensures.value ∙ length-set c.set_cluster.new.self.counters 0 _ in
    let long' = ap (λ (b : Block). length b.counters) c.count_first-2.ensures.value ∙ length-set c.count_first.new.block.counters 1 _ in
    omega (arith, room, long, long')

pub returns-clause-counters : goal.returns-clause-counters
returns-clause-counters c =
    counters-counted c.args.header.now.fields c.requires.shaped c.set_cluster.new.self.counters c.count_first.new.block.counters
    c.count_first-2.new.block.counters c.count_first-3.new.block.counters
    (ap (λ (b : Block). b.counters) c.set_cluster.ensures ∙ ap (λ (b : Block). b.counters) c.in_ok-block.ensures.ok)
    (ap (λ (b : Block). b.counters) c.count_first.ensures.value) (ap (λ (b : Block). b.counters) c.count_first-2.ensures.value)
    (ap (λ (b : Block). b.counters) c.count_first-3.ensures.value)
