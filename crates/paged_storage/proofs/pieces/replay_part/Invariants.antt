use Rattle.std.proofs.Common.{ℕ, List, take}
use Rattle.imago_storage.specs.Calls.{Reads}
use Rattle.imago_storage.specs.Log.{replay}
use Rattle.paged_storage.proofs.pieces.replay_part.Given as goal

abbrev pub invariant-loop-request : goal.invariant-loop-request
invariant-loop-request l = (file : List ℕ) → Reads file l.offset l.fn.buf → Reads (replay file (take l.request-index l.requests)) l.offset l.buf
