use Rattle.std.proofs.Common.{◌≡◌, ℕ, ◌+◌, ◌*◌, ◌<◌, length, slice_index}
use Rattle.paged_storage.specs.Pages.{byte_at}
use Rattle.paged_storage.proofs.paged_file.PagedFile.read_there.Given as goal

-- The bytes before the page with the next number are filled.
abbrev pub invariant-loop-number : goal.invariant-loop-number
invariant-loop-number g l = (k : ℕ) → k < length l.buf → l.fn.offset + k < l.number-counter * 65536
    → slice_index l.buf k ≡ byte_at l.fn.self.pages.entries (g.H.HostFile.state l.fn.self.file).held (l.fn.offset + k)
