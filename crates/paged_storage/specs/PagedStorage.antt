-- The state of a `PagedStorage`: the bytes of a file with pages in memory, and requests applied to them.
use Rattle.std.specs.Prelude.{ℕ, List, None, true}
use Rattle.imago_storage.specs.Log.{files_before, replay}
use Rattle.imago_storage.specs.Null.{one_aligned}
use Rattle.imago_storage.specs.State.{IsAligned, StorageState}
use Rattle.imago_storage.specs.declared.log.Request.{Request}
use Rattle.host_file.specs.declared.file.HostFile.{Ghosts}
use Rattle.paged_storage.specs.PagedFiles.{file_shown}
use Rattle.paged_storage.specs.declared.paged_storage.PagedStorage.{PagedStorage}

-- The state of a storage that had these bytes at first, and got these requests. It exposes its crash images, and its alignments are 1.
abbrev pub requested : List ℕ → List Request → (faults refusals : ℕ) → StorageState
requested base requests faults refusals = record {
  shape = record {
    keeps = true;
    tells = true;
    mem_align = 1;
    req_align = 1;
    zero_align = 1;
    discard_align = 1;
    filename = None;
  };
  bytes = replay base requests;
  faults = faults;
  refusals = refusals;
  crash_image = replay base requests;
  past_crash_images = files_before base requests;
}

-- The state of a `PagedStorage`.
unfoldable pub paged_state : {H : Type 0} (g : Ghosts H) → PagedStorage H g → StorageState
paged_state g s = requested (file_shown g s.base.now) s.requests.items s.faults s.refusals

-- All alignments are 1.
pub paged_aligned : {H : Type 0} (g : Ghosts H) (s : PagedStorage H g) → IsAligned (paged_state g s).shape
unfolding paged_state
paged_aligned g s = record { memory = one_aligned; requests = one_aligned; zeroes = one_aligned; discards = one_aligned }
