use Rattle.std.proofs.Common.{◌≡◌, map, take}
use Rattle.imago_storage.specs.View.{view_state}
use Rattle.qimg_chain.specs.FileMeanings.{extra_bytes, with_names}
use Rattle.qimg_chain.proofs.chain.lending.lend_layer.Given as goal

-- The further files before this one are borrowed.
abbrev pub invariant-loop-index : goal.invariant-loop-index
invariant-loop-index g l = map (extra_bytes view_state) l.extras.items ≡ take l.index (with_names (g.D.NamesFiles.names l.driver) 0 (g.D.DriverModel.extras l.driver))
