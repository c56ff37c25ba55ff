use Rattle.std.proofs.Common.{◌≡◌, ◌*◌, length, take}
use Rattle.qcow2_types.specs.TableBytes.{table_bytes}
use Rattle.qcow2_metadata.proofs.WordLists.{AreZeroes}
use Rattle.qcow2_metadata.proofs.table.put_raw_entries.Given as goal

-- All bytes fit the slice. The first ones are those of the entries before this index, and the others are 0.
abbrev pub invariant-loop-index : goal.invariant-loop-index
invariant-loop-index g l = record {
  long : length l.bytes ≡ 8 * length (g.T.Table.value l.table).raw_entries;
  front : take (8 * l.index) l.bytes ≡ table_bytes (take l.index (g.T.Table.value l.table).raw_entries);
  zeroes : AreZeroes l.bytes (8 * l.index);
}
