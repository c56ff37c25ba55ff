use Rattle.std.proofs.Common.{◌≡◌, take}
use Rattle.std.specs.Prelude.{map}
use Rattle.imago_storage.specs.State.{IsAlignment}
use Rattle.imago_access.specs.Files.{greatest}
use Rattle.imago_formats.proofs.vmdk.storages.greatest_mem_align.Given as goal

abbrev pub invariant-loop-file : goal.invariant-loop-file
invariant-loop-file g l = record {
  value : l.most ≡ greatest (λ s. s.shape.mem_align) (g.S.Storage.state l.image) (map g.S.Storage.state (take l.file-index l.files));
  alignment : IsAlignment l.most;
}
