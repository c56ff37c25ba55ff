-- The whole units of the larger alignment, and the bytes around them.
use Rattle.std.proofs.Common.{rules, arith, ◌≡◌, ◌+◌, ◌-◌, ◌<◌, ◌^◌, max, subst, sym}
use Rattle.imago_storage.specs.State.{unit_of, IsUnitRange}
use Rattle.imago_storage.specs.Through.{round_up, IsUnitAligned}
use Rattle.imago_storage.proofs.Range.{is_some_fits}
use Rattle.imago_storage.proofs.Rounding.{le_round_up}
use Rattle.imago_storage.proofs.Wholes.{whole-behind, whole-some, whole-inside, whole-units, units-has, units-all}
use Rattle.imago_storage.proofs.ZeroSteps.{once-one}
use Rattle.imago_storage.proofs.zeroing.zero_padded.Goals as goal

pub whole_part-requires-clause-fits : goal.whole_part-requires-clause-fits
whole_part-requires-clause-fits g c =
    let fits : round_up c.unit_size-unit.result (c.args.offset + c.args.n) < 2 ^ 64 = is_some_fits c.padded_end.result _ _ c.padded_end.ensures (search rules) in
    omega (arith, le_round_up c.unit_size-unit.result (c.args.offset + c.args.n) c.unit_size-unit.ensures.alignment.positive, fits)

pub zero_wholes-requires-clause-before : goal.zero_wholes-requires-clause-before
zero_wholes-requires-clause-before g c = whole-behind c.larger_alignment-align.result c.args.offset c.args.n c.in-Some.whole c.larger_alignment-align.ensures.alignment.positive c.in-Some.ensures.0 c.in-Some.ensures.1

pub zero_wholes-requires-clause-ends_inside : goal.zero_wholes-requires-clause-ends_inside
zero_wholes-requires-clause-ends_inside g c = whole-inside c.larger_alignment-align.result c.args.offset c.args.n c.in-Some.whole c.larger_alignment-align.ensures.alignment.positive c.in-Some.ensures.0 c.in-Some.ensures.1

pub zero_wholes-requires-clause-nonempty : goal.zero_wholes-requires-clause-nonempty
zero_wholes-requires-clause-nonempty g c = whole-some c.larger_alignment-align.result c.args.offset c.args.n c.in-Some.whole c.larger_alignment-align.ensures.alignment.positive c.in-Some.ensures.0 c.in-Some.ensures.1

pub zero_wholes-requires-clause-whole : goal.zero_wholes-requires-clause-whole
zero_wholes-requires-clause-whole g c =
    let fits : round_up c.unit_size-unit.result (c.args.offset + c.args.n) < 2 ^ 64 = is_some_fits c.padded_end.result _ _ c.padded_end.ensures (search rules) in
    let end : c.args.offset + c.args.n < 2 ^ 64 = omega (arith, le_round_up c.unit_size-unit.result (c.args.offset + c.args.n) c.unit_size-unit.ensures.alignment.positive, fits) in
    whole-units c.larger_alignment-align.result c.args.offset c.args.n c.in-Some.whole c.larger_alignment-align.ensures.alignment.positive c.in-Some.ensures.0 c.in-Some.ensures.1 c.unit_size-unit.result c.larger_alignment-align.ensures.first end

pub zero_wholes-requires-clause-aligned : goal.zero_wholes-requires-clause-aligned
zero_wholes-requires-clause-aligned g c =
    let fits : round_up c.unit_size-unit.result (c.args.offset + c.args.n) < 2 ^ 64 = is_some_fits c.padded_end.result _ _ c.padded_end.ensures (search rules) in
    let end : c.args.offset + c.args.n < 2 ^ 64 = omega (arith, le_round_up c.unit_size-unit.result (c.args.offset + c.args.n) c.unit_size-unit.ensures.alignment.positive, fits) in
    subst (λ u. IsUnitRange u c.in-Some.whole.0 (c.in-Some.whole.1 - c.in-Some.whole.0)) c.zero_align.ensures.value
    (whole-units c.larger_alignment-align.result c.args.offset c.args.n c.in-Some.whole c.larger_alignment-align.ensures.alignment.positive c.in-Some.ensures.0 c.in-Some.ensures.1 c.zero_align.result c.larger_alignment-align.ensures.second end)

pub returns-in-None-clause-single_request : goal.returns-in-None-clause-single_request
returns-in-None-clause-single_request g c allocated units =
    let align : c.larger_alignment-align.result ≡ max (unit_of (g.S.Storage.state c.args.storage.now).shape) (g.S.Storage.state c.args.storage.now).shape.zero_align = search rules in
    absurd (c.in-None.ensures (units-has c.larger_alignment-align.result c.args.offset c.args.n c.larger_alignment-align.ensures.alignment.positive (omega (arith, c.if-n-eq0.false)) (subst (λ a. IsUnitAligned a c.args.offset c.args.n) (sym align) units)))

pub returns-in-Some-clause-single_request : goal.returns-in-Some-clause-single_request
returns-in-Some-clause-single_request g c allocated units =
    let align : c.larger_alignment-align.result ≡ max (unit_of (g.S.Storage.state c.args.storage.now).shape) (g.S.Storage.state c.args.storage.now).shape.zero_align = search rules in
    once-one (g.S.Storage.state c.args.storage.now) (g.S.Storage.state c.zero_wholes.new.storage) c.args.n c.zero_wholes.result
    (c.zero_wholes.ensures.single_request allocated (units-all c.larger_alignment-align.result c.args.offset c.args.n c.larger_alignment-align.ensures.alignment.positive (omega (arith, c.if-n-eq0.false)) (subst (λ a. IsUnitAligned a c.args.offset c.args.n) (sym align) units) c.in-Some.whole c.in-Some.ensures.1))
