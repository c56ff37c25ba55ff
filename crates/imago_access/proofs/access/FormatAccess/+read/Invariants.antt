use Rattle.std.proofs.Common.{length, ◌-◌, ◌≡◌, ◌<◌, ◌≤◌, ◌+◌, ℕ, slice_index, map}
use Rattle.std.specs.Prelude.{⊤}
use Rattle.imago_storage.specs.Disk.{byte}
use Rattle.imago_access.specs.Chain.{at, Each}
use Rattle.imago_access.specs.Layers.{chain}
use Rattle.imago_access.specs.Files.{Pairs}
use Rattle.imago_access.specs.Going.{LookupCall}
use Rattle.imago_access.proofs.access.FormatAccess.+read.Given as goal

abbrev pub invariant-read_all-loop-done : goal.invariant-read_all-loop-done
invariant-read_all-loop-done g l = record {
  inside : l.done ≤ length l.buf;
  long : length l.buf ≡ length l.fn.buf;
  deep : length l.self.1 ≡ length l.fn.self.1;
  shown : Each g.D.DriverModel.coherent (chain l.fn.self) → (i : ℕ) → i < l.done → at (map g.D.DriverModel.layer (chain l.fn.self)) (l.offset + i) ≡ byte (slice_index l.buf i);
  lookup_call : Pairs (LookupCall g.D.DriverModel ⊤) (chain l.fn.self) (chain l.self);
}

-- proposed from the loop's first test
abbrev pub decreases-read_all-loop-done : goal.decreases-read_all-loop-done
decreases-read_all-loop-done g l = length l.initial.buf - l.done
