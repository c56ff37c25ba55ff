use Rattle.std.proofs.Common.{◌≤◌, length, arith, length-take}
use Rattle.qcow2_metadata.specs.FieldsView.{seen_fields}
use Rattle.qcow2_metadata.proofs.Written.{put-newer, put-older, fields-long}
use Rattle.qcow2_metadata.proofs.header.writing.put_fields.Goals as goal

pub slice_bounds-to_bytes-end-2 : goal.slice_bounds-to_bytes-end-2
slice_bounds-to_bytes-end-2 c =
    let least = fields-long (seen_fields c.args.v2.now c.args.v3.now) in
    let room : 72 ≤ length c.args.bytes.now = omega (arith, least.0, c.requires.room) in
    omega (arith, length-take 72 c.args.bytes.now)

pub to_bytes-requires : goal.to_bytes-requires
to_bytes-requires c =
    let least = fields-long (seen_fields c.args.v2.now c.args.v3.now) in
    let room : 72 ≤ length c.args.bytes.now = omega (arith, least.0, c.requires.room) in
    record { size = omega (arith, length-take 72 c.args.bytes.now) }

pub returns-then-v2-eq3 : goal.returns-then-v2-eq3
returns-then-v2-eq3 c = put-newer c.args.v2.now c.args.v3.now c.args.bytes.now _ _ c.requires.magic c.if-v2-eq3.true c.requires.room c.to_bytes.ensures c.to_bytes-then-v2-eq3.ensures

pub returns-else-v2-eq3 : goal.returns-else-v2-eq3
returns-else-v2-eq3 c = put-older c.args.v2.now c.args.v3.now c.args.bytes.now _ c.requires.magic c.if-v2-eq3.false c.to_bytes.ensures
