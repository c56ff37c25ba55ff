use Rattle.std.proofs.Common.{◌≡◌, ◌+◌, ◌<◌, ℕ, length, get_or, Some, None}
use Rattle.imago_storage.specs.Steps.{IsOut}
use Rattle.access_cases.proofs.clusters.note.Given as goal

abbrev pub invariant-loop-i : goal.invariant-loop-i
invariant-loop-i l = record {
  len : length l.written.items ≡ length l.fn.written.items;
  inside : (k : ℕ) → k < l.i → get_or l.written.items (l.at + k) None ≡ Some (get_or l.bytes k 0);
  outside : (p : ℕ) → IsOut l.at l.i p → get_or l.written.items p None ≡ get_or l.fn.written.items p None;
}
