-- A file of the host after one more request, and pages in memory after all of them.
use Rattle.std.proofs.Common.{◌≡◌, ℕ, ◌+◌, ◌<◌, List, ◌∷◌, ◌++◌, length, take, get_or, sym, ◌∙◌, ap}
use Rattle.std.proofs.lemmas.List.{take_more}
use Rattle.imago_storage.specs.Log.{apply, files_before, replay}
use Rattle.imago_storage.specs.declared.log.Request.{Request}
use Rattle.imago_storage.proofs.Replay.{files_before-push, replay_more}
use Rattle.host_file.specs.FileState.{FileState, IsChangedTo}
use Rattle.paged_storage.specs.Replaying.{IsReplayed}

files_before_more : (file : List ℕ) (requests : List Request) (i : ℕ) (request : Request) → i < length requests
    → files_before file (take (i + 1) requests) ≡ replay file (take i requests) ∷ files_before file (take i requests)
files_before_more file requests i request lt =
    ap (files_before file) (take_more requests i request lt) ∙ files_before-push file (take i requests) (get_or requests i request)

-- The file got one more request.
pub replayed_more : (start old new : FileState) (requests : List Request) (i : ℕ) (request : Request) → i < length requests → request ≡ get_or requests i request
    → IsReplayed (take i requests) start old → IsChangedTo (apply request old.held) old new → IsReplayed (take (i + 1) requests) start new
replayed_more start old new requests i request lt is was changed =
    record {
      held = changed.held ∙ ap (apply request) was.held ∙ sym (replay_more start.held requests i request lt is);
      past =
          changed.past ∙ ap (λ (f : List ℕ). f ∷ old.past) was.held ∙ ap (λ (p : List (List ℕ)). replay start.held (take i requests) ∷ p) was.past
          ∙ ap (λ (p : List (List ℕ)). p ++ start.past) (sym (files_before_more start.held requests i request lt));
    }
