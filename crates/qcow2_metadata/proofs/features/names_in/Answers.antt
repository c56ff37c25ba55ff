use Rattle.std.proofs.Common.{◌≡◌, ◌-◌, ◌/◌, arith, [], length, Some, map}
use Rattle.std.specs.Option.{option_map}
use Rattle.qcow2_types.specs.Header.{with_names, features_of}
use Rattle.qcow2_metadata.specs.Features.{seen_name}
use Rattle.qcow2_metadata.proofs.Names.{entry-read}
use Rattle.qcow2_metadata.proofs.Order.{features-ordered}
use Rattle.qcow2_metadata.proofs.features.names_in.Goals as goal
use Rattle.qcow2_metadata.proofs.features.names_in.Goals.{in-Some-2+in_ok-put_name, in_default-2}

pub loop-i-preserved : goal.loop-i-preserved
loop-i-preserved c =
    let next = entry-read c.in-Some.bytes.now (length c.in-Some.bytes.now / 48) c.loop-i.i (map seen_name c.loop-i.names.items) (option_map seen_name c.in_ok-name.field-0) _ c.loop-i-test.true c.in_ok-name.ensures c.loop-i.invariant in
    elim c.match-branch-2.branch [
      | in-Some-2+in_ok-put_name w ↦ rw (w.names-is, w.in_ok-put_name.ensures) (rw w.in-Some-2.is at next)
      | in_default-2 w ↦ rw w.names-is (rw w.in_default-2.is at next)
    ]

pub returns-clause-ordered : goal.returns-clause-ordered
returns-clause-ordered c =
    let none : length c.in-Some.bytes.now / 48 - c.loop-i.i ≡ 0 = omega arith in
    let all : map seen_name c.loop-i.names.items ≡ with_names [] (features_of (length c.in-Some.bytes.now / 48) c.in-Some.bytes.now) = rw none at c.loop-i.invariant in
    rw all (features-ordered (Some c.in-Some.bytes.now))
