use Rattle.std.proofs.Common.{◌≡◌, ◌≤◌, arith, length, get_or}
use Rattle.qcow2_types.specs.Features.{kind_of}
use Rattle.qcow2_metadata.proofs.Names.{text-cut, entry-skipped, entry-named}
use Rattle.qcow2_metadata.proofs.features.name_in_entry.Goals as goal

pub returns-in_default-from_utf8 : goal.returns-in_default-from_utf8
returns-in_default-from_utf8 c =
    let long : 2 ≤ length c.args.entry.now = omega arith in
    entry-skipped c.args.entry.now _ long (text-cut c.args.entry.now c.place_of_zero.result c.unwrap_or-end.result c.place_of_zero.ensures c.unwrap_or-end.ensures) c.in_default-from_utf8.ensures.cases.0

pub returns : goal.returns
returns c =
    let long : 2 ≤ length c.args.entry.now = omega arith in
    let kind : kind_of c.in-Some.kind ≡ get_or c.args.entry.now 0 0 = c.in-Some.ensures.known in
    rw (c.in_ok-name.ensures.ok, c.in-Ok.ensures.cases.0)
    (entry-named c.args.entry.now _ long (text-cut c.args.entry.now c.place_of_zero.result c.unwrap_or-end.result c.place_of_zero.ensures c.unwrap_or-end.ensures) c.in-Some.kind kind c.in-Ok.ensures.cases.1)
