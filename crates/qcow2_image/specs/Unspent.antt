-- The value of a prepared mapping (a run that is written and not yet committed) as contracts see it.
use Rattle.std.specs.Prelude.{ℕ, ◌+◌, Bool, false, Option, Some, None, ltb, nat_le, ◌&&◌, ◌||◌}
use Rattle.std.specs.declared.snapshot.Snapshot.{Snapshot}
use Rattle.imago_storage.specs.declared.storage.Storage.{Ghosts}
use Rattle.qcow2_types.specs.Bytes.{bytes_of}
use Rattle.qcow2_image.specs.declared.unspent.Unspent.{Unspent}
use Rattle.qcow2_image.specs.declared.unspent.Writes.{Writes, fold-Writes}
use Rattle.qcow2_image.specs.declared.unspent.Writes.TheOpen.{Writes-F}
use Rattle.qcow2_image.specs.Holding.{PreparedMappingRun}

-- The byte is in the range.
abbrev pub here : (at n p : ℕ) → Bool
here at n p = nat_le at p && ltb p (at + n)

abbrev pub earlier : Option (Snapshot (ℕ → Bool)) → ℕ → Bool
earlier None p = false
earlier (Some s) p = s.value p

-- The byte was written, in the last range or an earlier one.
abbrev pub covered_by : Writes-F (ℕ → Bool) → ℕ → Bool
covered_by layer p = here layer.at layer.length p || earlier layer.before p

unfoldable pub covers : Writes → ℕ → Bool
covers = fold-Writes (ℕ → Bool) covered_by

abbrev pub prepared_mapping_run : {S : Type 0} (g : Ghosts S) → Unspent S g → PreparedMappingRun
prepared_mapping_run g u = record {
  mapping_id = u.mapping_id;
  offset = u.offset;
  length = u.length;
  place = u.place;
  guest = u.guest;
  table = u.table;
  host = u.host;
  count = u.count;
  is_kept = u.is_kept;
  overwrite = u.overwrite;
  copied = bytes_of (g.state u.copied.value).bytes;
  written = covers u.written;
}

abbrev pub holding_in : {S : Type 0} (g : Ghosts S) → Option (Unspent S g) → Option PreparedMappingRun
holding_in g None = None
holding_in g (Some u) = Some (prepared_mapping_run g u)
