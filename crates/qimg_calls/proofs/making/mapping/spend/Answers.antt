use Rattle.std.specs.Prelude.{Some}
use Rattle.qimg_calls.proofs.making.mapping.spend.Goals as goal

pub returns-in-WriteMapped : goal.returns-in-WriteMapped
returns-in-WriteMapped g c = rw (c.in-WriteMapped.is) (c.write_mapped.ensures (Some c.args.mapping) c.requires.mapping_prepared)
