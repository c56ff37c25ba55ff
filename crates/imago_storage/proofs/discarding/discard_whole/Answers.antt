-- The whole units are a valid range of a request.
use Rattle.std.proofs.Common.{rules, arith, ◌+◌, ◌-◌, ◌<◌, ◌^◌, subst}
use Rattle.imago_storage.specs.State.{IsUnitRange}
use Rattle.imago_storage.specs.Through.{round_up}
use Rattle.imago_storage.proofs.Range.{is_some_fits}
use Rattle.imago_storage.proofs.Rounding.{le_round_up}
use Rattle.imago_storage.proofs.Wholes.{whole-units}
use Rattle.imago_storage.proofs.discarding.discard_whole.Goals as goal

pub whole_part-requires-clause-fits : goal.whole_part-requires-clause-fits
whole_part-requires-clause-fits g c =
    let fits : round_up c.unit_size-unit.result (c.args.offset + c.args.n) < 2 ^ 64 = is_some_fits c.padded_end.result _ _ c.padded_end.ensures (search rules) in
    omega (arith, le_round_up c.unit_size-unit.result (c.args.offset + c.args.n) c.unit_size-unit.ensures.alignment.positive, fits)

pub pure_discard-requires-clause-whole : goal.pure_discard-requires-clause-whole
pure_discard-requires-clause-whole g c =
    let fits : round_up c.unit_size-unit.result (c.args.offset + c.args.n) < 2 ^ 64 = is_some_fits c.padded_end.result _ _ c.padded_end.ensures (search rules) in
    let end : c.args.offset + c.args.n < 2 ^ 64 = omega (arith, le_round_up c.unit_size-unit.result (c.args.offset + c.args.n) c.unit_size-unit.ensures.alignment.positive, fits) in
    subst (λ u. IsUnitRange u c.in-Some.start (c.in-Some.end - c.in-Some.start)) c.unit_size-unit.ensures.unit
    (whole-units c.larger_alignment-align.result c.args.offset c.args.n (c.in-Some.start, c.in-Some.end) c.larger_alignment-align.ensures.alignment.positive c.in-Some.ensures.0 c.in-Some.ensures.1 c.unit_size-unit.result c.larger_alignment-align.ensures.first end)

pub pure_discard-requires-clause-discards : goal.pure_discard-requires-clause-discards
pure_discard-requires-clause-discards g c =
    let fits : round_up c.unit_size-unit.result (c.args.offset + c.args.n) < 2 ^ 64 = is_some_fits c.padded_end.result _ _ c.padded_end.ensures (search rules) in
    let end : c.args.offset + c.args.n < 2 ^ 64 = omega (arith, le_round_up c.unit_size-unit.result (c.args.offset + c.args.n) c.unit_size-unit.ensures.alignment.positive, fits) in
    subst (λ u. IsUnitRange u c.in-Some.start (c.in-Some.end - c.in-Some.start)) c.discard_align.ensures.value
    (whole-units c.larger_alignment-align.result c.args.offset c.args.n (c.in-Some.start, c.in-Some.end) c.larger_alignment-align.ensures.alignment.positive c.in-Some.ensures.0 c.in-Some.ensures.1 c.discard_align.result c.larger_alignment-align.ensures.second end)
