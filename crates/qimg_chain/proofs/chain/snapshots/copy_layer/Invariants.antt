use Rattle.std.proofs.Common.{◌≡◌, map, take}
use Rattle.std.specs.Prelude.{⊤}
use Rattle.std.specs.String.{string_bytes}
use Rattle.imago_access.specs.FileReads.{files_at, FilesRead}
use Rattle.imago_access.specs.Files.{Pairs}
use Rattle.imago_access.specs.Layers.{chain as drivers}
use Rattle.imago_storage.specs.MemStorage.{mem_state}
use Rattle.qimg_chain.specs.FileMeanings.{extra_bytes}
use Rattle.qimg_chain.specs.Snapshots.{with_bytes}
use Rattle.qimg_chain.proofs.chain.snapshots.copy_layer.Given as goal

-- The further files before this one are copied, and the chain is unchanged.
abbrev pub invariant-loop-index : goal.invariant-loop-index
invariant-loop-index g l = record {
  so_far : map (extra_bytes mem_state) l.extras.items ≡ with_bytes (take l.index (map string_bytes l.names.names.items)) 1 (files_at g.D.DriverModel (drivers l.fn.chain) l.layer);
  read : Pairs (FilesRead g.D.DriverModel ⊤) (drivers l.fn.chain) (drivers l.chain);
}
