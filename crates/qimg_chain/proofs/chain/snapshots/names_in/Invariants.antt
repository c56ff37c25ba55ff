use Rattle.std.proofs.Common.{◌≡◌, map, take}
use Rattle.std.specs.String.{string_bytes}
use Rattle.qimg_chain.specs.FileMeanings.{with_names}
use Rattle.qimg_chain.proofs.chain.snapshots.names_in.Given as goal

-- The names before this one are copied.
abbrev pub invariant-loop-index : goal.invariant-loop-index
invariant-loop-index g l = map string_bytes l.names.items ≡ take l.index (map (λ file. file.0) (with_names (g.D.NamesFiles.names l.driver) 0 (g.D.DriverModel.extras l.driver)))
