use Rattle.std.specs.Prelude.{map}
use Rattle.imago_storage.specs.Calls.{IsFaultless}
use Rattle.imago_access.specs.Files.{UnchangedButMoreFaults, Pairs}
use Rattle.imago_formats.proofs.vmdk.storages.keep_files.Given as goal

abbrev pub invariant-loop-i : goal.invariant-loop-i
invariant-loop-i g l = record {
  kept : Pairs UnchangedButMoreFaults (map g.S.Storage.state l.initial.files) (map g.S.Storage.state l.files);
  faultless : Pairs IsFaultless (map g.S.Storage.state l.initial.files) (map g.S.Storage.state l.files);
}
