use Rattle.qcow2_image.proofs.Resizes.Creations.{first-shaped, parts-refused, parts-shape, parts-written}
use Rattle.qcow2_image.proofs.creating.write_parts.Goals as goal

pub first_block-requires : goal.first_block-requires
first_block-requires g c = record { shaped = first-shaped c.args.header c.requires }

pub first_table-requires-clause-shaped : goal.first_table-requires-clause-shaped
first_table-requires-clause-shaped g c = first-shaped c.args.header c.requires

pub returns-clause-ok : goal.returns-clause-ok
returns-clause-ok g c =
    let s = g.S.Storage.state in
    parts-written c.args.header c.requires c.in_ok-block.block c.in_ok-table.table c.set_reftable.new.self (s c.args.image.now) (s c.write.new.image)
    (s c.write-2.new.image) (s c.write-3.new.image) c.write-3.result c.in_ok-block.ensures.counters c.in_ok-block.ensures.order
    c.in_ok-block.ensures.cluster c.in_ok-table.ensures.raw_entries c.in_ok-table.ensures.cluster c.set_reftable.ensures.fields
    c.in_ok-write.ensures.request c.in_ok-write-2.ensures.request c.write-3.ensures.put c.write-3.ensures.limit

pub returns-clause-err : goal.returns-clause-err
returns-clause-err g c =
    let s = g.S.Storage.state in
    parts-refused c.args.header c.requires c.in_ok-block.block c.in_ok-table.table c.set_reftable.new.self (s c.args.image.now) (s c.write.new.image)
    (s c.write-2.new.image) (s c.write-3.new.image) c.write-3.result c.in_ok-block.ensures.counters c.in_ok-block.ensures.order
    c.in_ok-block.ensures.cluster c.in_ok-table.ensures.raw_entries c.in_ok-table.ensures.cluster c.set_reftable.ensures.fields
    c.in_ok-write.ensures.request c.in_ok-write-2.ensures.request c.write-3.ensures.put c.write-3.ensures.limit

pub returns-clause-shape : goal.returns-clause-shape
returns-clause-shape g c =
    let s = g.S.Storage.state in
    parts-shape c.args.header c.requires c.in_ok-block.block c.in_ok-table.table c.set_reftable.new.self (s c.args.image.now) (s c.write.new.image)
    (s c.write-2.new.image) (s c.write-3.new.image) c.write-3.result c.in_ok-block.ensures.counters c.in_ok-block.ensures.order
    c.in_ok-block.ensures.cluster c.in_ok-table.ensures.raw_entries c.in_ok-table.ensures.cluster c.set_reftable.ensures.fields
    c.in_ok-write.ensures.request c.in_ok-write-2.ensures.request c.write-3.ensures.put c.write-3.ensures.limit
