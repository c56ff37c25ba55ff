use Rattle.std.proofs.Common.{◌≡◌, map, take}
use Rattle.std.specs.Prelude.{⊤}
use Rattle.imago_access.specs.FileReads.{FilesRead}
use Rattle.imago_access.specs.Files.{Pairs}
use Rattle.imago_access.specs.Layers.{chain as drivers}
use Rattle.imago_storage.specs.MemStorage.{mem_state}
use Rattle.qimg_chain.specs.FileMeanings.{driver_bytes, files_bytes}
use Rattle.qimg_chain.proofs.chain.snapshots.snapshot.Given as goal

-- The files of the layers before this one are copied, and the chain is unchanged.
abbrev pub invariant-loop-layer : goal.invariant-loop-layer
invariant-loop-layer g l = record {
  so_far : files_bytes mem_state l.files.items ≡ take l.layer (map (driver_bytes g.D.DriverModel g.D.NamesFiles.names) (drivers l.fn.chain));
  read : Pairs (FilesRead g.D.DriverModel ⊤) (drivers l.fn.chain) (drivers l.chain);
}
