use Rattle.std.proofs.Common.{◌≡◌, ◌∷◌, ◌++◌, length, map}
use Rattle.imago_storage.specs.View.{view_state}
use Rattle.qimg_chain.specs.FileMeanings.{driver_bytes, files_bytes}
use Rattle.qimg_chain.proofs.chain.lending.lend.Given as goal

-- The collected files, and those of the remaining layers, are all files.
abbrev pub invariant-loop-files : goal.invariant-loop-files
invariant-loop-files g l = let bytes = driver_bytes g.D.DriverModel g.D.NamesFiles.names in
    files_bytes view_state l.files.items ++ map bytes (l.next.0 ∷ l.next.1) ≡ map bytes (l.chain.0 ∷ l.chain.1)

abbrev pub decreases-loop-files : goal.decreases-loop-files
decreases-loop-files g l = length l.next.1
