use Rattle.std.proofs.Common.{rules, ◌-◌, ◌%◌, ◌<◌, length, subst}
use Rattle.imago_storage.specs.State.{IsUnitRange}
use Rattle.imago_storage.proofs.Calls.{one_unit}
use Rattle.imago_storage.proofs.padding.pad_edge.Goals as goal

pub pure_read-requires : goal.pure_read-requires
pure_read-requires g c =
    let some : 0 < length c.args.part.now = search rules in
    subst (λ u. IsUnitRange u (c.args.offset - c.args.offset % c.args.unit) (length c.args.buf.now)) c.requires.unit
    (one_unit c.args.unit (length c.args.buf.now) c.args.offset (length c.args.part.now) (c.requires.edge.unit_if_nonempty some) c.requires.positive some c.requires.inside c.requires.fits)
