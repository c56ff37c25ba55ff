use Rattle.qimg_core.proofs.Contents.L2Tables.{NamedTo}
use Rattle.qimg_core.proofs.check.tables.reference_contents.Given as goal

-- The references of the tables before this one are added, except for equal offsets that continue.
abbrev pub invariant-loop-i : goal.invariant-loop-i
invariant-loop-i g l = NamedTo (g.S.Storage.state l.fn.image) (g.S.Storage.state l.image) l.header.fields l.fn.names l.names l.places.items l.times l.i
