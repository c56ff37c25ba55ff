use Rattle.std.proofs.Common.{◌*◌, ◌+◌, ◌/◌, ◌<◌, arith}
use Rattle.std.proofs.Math.Nat.{div-mul-le_self, lt-div-mul-add}
use Rattle.qcow2_alloc.specs.Crowding.{space}
use Rattle.qcow2_alloc.proofs.laws.a_quarter_is_room.Goals as goal

pub returns : goal.returns
returns c = λ m mark n first behind below free few.
    let whole = space m.header.fields in
    let under = div-mul-le_self whole 16 in
    let high : whole < whole / 4 * 4 + 4 = lt-div-mul-add (omega arith) in
    record { first = first; total = whole / 4; not_before_start = behind; below = below; free = free; enough = omega (arith, under, high, few) }
