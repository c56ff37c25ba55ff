-- Lists of calls on files of the host: what the parts of a list say together.
use Rattle.std.proofs.Common.{◌≡◌, ℕ, inl, inr, ap, subst, sym, ◌∙◌, take}
use Rattle.std.specs.Prelude.{Err, IfErr, IfOk, List, Ok, Result, [], ◌∷◌, ◌++◌, map}
use Rattle.imago_storage.specs.Log.{files_before, replay}
use Rattle.imago_storage.specs.declared.log.Request.{Request}
use Rattle.host_file.specs.FileState.{FileState, IsOnlyRead}
use Rattle.host_file.specs.declared.file.HostFile.{Ghosts}
use Rattle.paged_storage.specs.Replaying.{IsReplayed, StoppedIn}
use Rattle.qimg_calls.specs.declared.call.Answer.{Answer}
use Rattle.qimg_calls.specs.declared.call.Call.{Call}
use Rattle.host_disk.specs.Checks.{IsTopSound}
use Rattle.host_disk.specs.Layers.{AreOnlyRead, AreTruthful, held_by, shown_by, state_of}
use Rattle.host_disk.specs.Lists.{DrivenOn, IfSound, OnFiles, PutInPart, PutOn, StoppedOn, SurelyDrivenOn}
use Rattle.host_disk.specs.declared.layer.HostLayer.{HostLayer}
use Rattle.host_disk.proofs.Layering.{held_same, only_read-trans, same-file, shown_held}
use Rattle.qimg_chain.specs.FileMeanings.{FileBytes}

-- Requests to a file that was only read before.
pub replayed_from : (requests : List Request) (old mid new : FileState) → IsOnlyRead old mid → IsReplayed requests mid new
    → IsReplayed requests old new
replayed_from requests old mid new read replayed = record {
  held = subst (λ (held : List ℕ). new.held ≡ replay held requests) read.held replayed.held;
  past = replayed.past
      ∙ ap (λ (held : List ℕ). files_before held requests ++ mid.past) read.held
      ∙ ap (λ (past : List (List ℕ)). files_before old.held requests ++ past) read.past;
}

pub stopped_from : (requests : List Request) (old mid new : FileState) → IsOnlyRead old mid → StoppedIn requests mid new
    → StoppedIn requests old new
stopped_from requests old mid new read stopped =
    (stopped.0, stopped.1, replayed_from (take stopped.0 requests) old mid new read stopped.2)

-- A fact of a result with an error.
pub at_an_error : {T E : Type 0} (r : Result T E) (P : Type 0) → P → IfErr r (λ _. P)
at_an_error (Ok v) P holds = tt
at_an_error (Err e) P holds = holds

-- A fact of a result's value, by another.
pub value_more : {T E : Type 0} (r : Result T E) (P Q : T → Type 0) → IfOk r P → ((v : T) → P v → Q v) → IfOk r Q
value_more (Ok v) P Q holds more = more v holds
value_more (Err e) P Q holds more = tt

module _ {H : Type 0} (g : Ghosts H) where
  -- A proposition about the bytes that storages show also holds for the first bytes of the files.
  pub settled : {T E : Type 0} (r : Result T E) (P : List FileBytes → T → Type 0) (olds nows : List (HostLayer H g)) → AreOnlyRead g olds nows
      → IfOk r (P (map (shown_by g) nows)) → IfOk r (λ v. AreTruthful g nows → P (map (held_by g) olds) v)
  settled (Ok v) P olds nows read on =
      λ truthful. subst (λ (files : List FileBytes). P files v) (shown_held g nows truthful ∙ held_same g olds nows read) on
  settled (Err e) P olds nows read on = tt

  -- The calls, over files that were only read, and then the requests.
  pub driven : (list : List Call) (answers : List Answer) (requests : List Request) (olds mids news : List (HostLayer H g))
      → AreOnlyRead g olds mids → OnFiles (map (held_by g) olds) list answers requests → PutOn g requests mids news
      → DrivenOn g list answers olds news
  driven list answers requests [] mids news read on put = absurd on
  driven list answers requests (old ∷ olds) [] news read on put = absurd read
  driven list answers requests (old ∷ olds) (mid ∷ mids) news read on put =
      subst (λ (layers : List (HostLayer H g)). DrivenOn g list answers (old ∷ olds) layers) (sym put.1)
      (requests, on, put.2 ∙ read.0, replayed_from requests (state_of g old) (state_of g mid) (state_of g put.0) read.1 put.3, read.2)

  -- The files were only read.
  pub stopped_reading : (list : List Call) (olds news : List (HostLayer H g)) → AreOnlyRead g olds news → StoppedOn g list olds news
  stopped_reading list [] [] read = read
  stopped_reading list [] (new ∷ news) read = read
  stopped_reading list (old ∷ olds) [] read = read
  stopped_reading list (old ∷ olds) (new ∷ news) read = (read.0, inl read.1, read.2)

  -- The calls, and then the first of the requests.
  pub stopped_putting : (list : List Call) (answers : List Answer) (requests : List Request) (olds mids news : List (HostLayer H g))
      → AreOnlyRead g olds mids → OnFiles (map (held_by g) olds) list answers requests → PutInPart g requests mids news
      → StoppedOn g list olds news
  stopped_putting list answers requests [] mids news read on put = absurd on
  stopped_putting list answers requests (old ∷ olds) [] news read on put = absurd read
  stopped_putting list answers requests (old ∷ olds) (mid ∷ mids) news read on put =
      subst (λ (layers : List (HostLayer H g)). StoppedOn g list (old ∷ olds) layers) (sym put.1)
      (put.2 ∙ read.0, inr (answers, requests, on, stopped_from requests (state_of g old) (state_of g mid) (state_of g put.0) read.1 put.3), read.2)

  -- A list on files that were only read before, with a consistent top.
  pub surely_driven : (list : List Call) (answers : List Answer) (olds mids news : List (HostLayer H g))
      → AreOnlyRead g olds mids → IsTopSound (map (held_by g) olds) → DrivenOn g list answers mids news
      → SurelyDrivenOn g list answers olds news
  surely_driven list answers [] [] news read sound on = on
  surely_driven list answers [] (mid ∷ mids) news read sound on = absurd read
  surely_driven list answers (old ∷ olds) [] news read sound on = absurd read
  surely_driven list answers (old ∷ olds) (mid ∷ mids) [] read sound on = on
  surely_driven list answers (old ∷ olds) (mid ∷ mids) (new ∷ news) read sound on = λ not_vmdk.
      let top = same-file old.format mid.format (state_of g old).held (state_of g mid).held read.0 read.1.held in
      let below = held_same g olds mids read.2 in
      let sure : IfSound (held_by g old) (map (held_by g) olds) list answers on.0 =
      subst (λ (layers : List FileBytes). IfSound (held_by g old) layers list answers on.0) below
      (subst (λ (layer : FileBytes). IfSound layer (map (held_by g) mids) list answers on.0) top on.1) in (
        on.0,
        sure sound not_vmdk,
        on.2 ∙ read.0,
        replayed_from on.0 (state_of g old) (state_of g mid) (state_of g new) read.1 on.3,
        only_read-trans g olds mids news read.2 on.4,
      )
