use Rattle.std.proofs.Common.{◌≡◌, ◌*◌, ◌/◌, length, min}
use Rattle.qcow2_types.specs.Bytes.{bytes_of}
use Rattle.qcow2_types.specs.Header.{layout_of}
use Rattle.qcow2_metadata.proofs.Chunks.{AreDecoded}
use Rattle.qcow2_metadata.proofs.table.entries_in.Given as goal

-- All entries fit the list, and those of the chunks before are decoded.
abbrev pub invariant-loop-chunk : goal.invariant-loop-chunk
invariant-loop-chunk g l =
    let n = length l.bytes / 8 in
    record {
      long : length l.entries.items ≡ n;
      decoded : AreDecoded g.E.TableEntry.kind (layout_of l.header.fields) (bytes_of l.bytes) n (g.E.TableEntry.raw_entries l.entries.items) (min (64 * l.chunk) n);
    }
