use Rattle.std.proofs.Common.{◌≡◌}
use Rattle.qcow2_metadata.specs.Loading.{file}
use Rattle.qimg_core.proofs.Tables.TablePlaces.{tables_to}
use Rattle.qimg_core.proofs.check.tables.table_places.Given as goal

-- The offsets of the entries before this one are pushed.
abbrev pub invariant-loop-index : goal.invariant-loop-index
invariant-loop-index g l = l.places.items ≡ tables_to (file (g.S.Storage.state l.fn.image)) l.header.fields l.index
