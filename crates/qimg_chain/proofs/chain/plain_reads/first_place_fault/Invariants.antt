use Rattle.std.proofs.Common.{◌≡◌, ◌∷◌, ◌-◌, length, map}
use Rattle.imago_access.specs.Chain.{at, Each}
use Rattle.qimg_chain.specs.PlainReads.{IsNarrowed}
use Rattle.qimg_chain.proofs.chain.plain_reads.first_place_fault.Given as goal

-- The layers show the same as before, and the first value that can't be read is between two offsets.
abbrev pub invariant-loop-end : goal.invariant-loop-end
invariant-loop-end g l = let d = g.D.DriverModel in let layers = map d.layer (l.fn.chain.0 ∷ l.fn.chain.1) in record {
  narrowed : IsNarrowed (at layers) l.offset (length l.fn.buf) l.good l.end l.fault;
  same : map d.layer (l.chain.0 ∷ l.chain.1) ≡ layers;
  coherent : Each d.coherent (l.chain.0 ∷ l.chain.1);
}

abbrev pub decreases-loop-end : goal.decreases-loop-end
decreases-loop-end g l = l.end - l.good
