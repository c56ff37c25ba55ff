use Rattle.std.proofs.Common.{◌≡◌, take}
use Rattle.imago_storage.specs.Log.{replay}
use Rattle.imago_storage.proofs.log.apply_all.Given as goal

abbrev pub invariant-loop-request : goal.invariant-loop-request
invariant-loop-request l = l.file.items ≡ replay l.fn.file.items (take l.request-index l.requests)
