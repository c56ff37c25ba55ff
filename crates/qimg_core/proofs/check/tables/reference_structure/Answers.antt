use Rattle.std.proofs.lemmas.Result.{on_ok_weaker}
use Rattle.qimg_core.proofs.Contents.Places.{adds_structure}
use Rattle.qimg_core.proofs.check.tables.reference_structure.Goals as goal

pub returns-clause-ok : goal.returns-clause-ok
returns-clause-ok c =
    on_ok_weaker c.reference_places-2.result (λ last. adds_structure c.args.header.now.fields c.args.names.now c.reference_start.new.names c.reference_places.new.names c.reference_places-2.new.names c.args.places.now.tables.items c.args.places.now.blocks.items
    c.in_ok-reference_start.ensures.ok (rw (← c.deref.ensures.value) c.in_ok-reference_places.ensures.ok) (rw (← c.deref-2.ensures.value) last))
    c.reference_places-2.ensures.ok
