use Rattle.std.proofs.Common.{◌≡◌, ◌∷◌, ◌++◌, length, map}
use Rattle.qimg_chain.specs.Snapshots.{names_of, said_names}
use Rattle.qimg_chain.proofs.chain.snapshots.layer_names.Given as goal

-- The collected names, and those of the remaining layers, are all names.
abbrev pub invariant-loop-layers : goal.invariant-loop-layers
invariant-loop-layers g l = let names = names_of g.D.DriverModel g.D.NamesFiles.names in
    map said_names l.layers.items ++ map names (l.next.0 ∷ l.next.1) ≡ map names (l.chain.0 ∷ l.chain.1)

abbrev pub decreases-loop-layers : goal.decreases-loop-layers
decreases-loop-layers g l = length l.next.1
