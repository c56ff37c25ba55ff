use Rattle.std.proofs.Common.{◌≡◌, ◌/◌, length}
use Rattle.qcow2_types.specs.Bytes.{bytes_of}
use Rattle.qcow2_types.specs.Header.{layout_of}
use Rattle.qcow2_metadata.specs.Tables.{raw_entries_in, AreSound}
use Rattle.qcow2_metadata.proofs.WordLists.{AreClear, ArePut}
use Rattle.qcow2_types.specs.TableBytes.{AreFit}
use Rattle.qcow2_metadata.proofs.table.decode.Given as goal

-- All entries fit the slice. The first ones are written, valid and of 64 bits; the others are 0.
abbrev pub invariant-loop-index : goal.invariant-loop-index
invariant-loop-index g l = record {
  long : length l.entries ≡ length l.bytes / 8;
  raw_entries : ArePut (bytes_of l.bytes) (g.E.TableEntry.raw_entries l.entries) l.index;
  clear : AreClear (g.E.TableEntry.raw_entries l.entries) l.index;
  sound : AreSound g.E.TableEntry.kind (layout_of l.header.fields) (raw_entries_in (bytes_of l.bytes) 0 l.index);
  fit : AreFit (raw_entries_in (bytes_of l.bytes) 0 l.index);
}
