-- A list of calls on storages over files of the host, as calls of one flat disk that is at first what the files mean.
use Rattle.std.proofs.Common.{◌≡◌, ◌≢◌, ◌<◌, All, Bool, ℕ, refl, sym, ap, subst, ◌∙◌, List, [], ◌∷◌, length, map, take, arith, IsFalse, IsTrue, Ok, Result, Vec}
use Rattle.std.specs.Global.{Global}
use Rattle.std.proofs.lemmas.List.{take_all}
use Rattle.imago_access.specs.declared.driver_model.DriverModel.{Ghosts as Model}
use Rattle.imago_access.specs.declared.format.Format.TheVariants.{Vmdk}
use Rattle.imago_storage.specs.Calls.{UnchangedButFaults}
use Rattle.imago_storage.specs.State.{Shape, StorageState}
use Rattle.imago_storage.specs.declared.fault.Fault.{Fault}
use Rattle.imago_storage.specs.declared.log.Request.{Request}
use Rattle.host_file.specs.declared.file.HostFile.{Ghosts}
use Rattle.paged_storage.specs.PagedFiles.{file_shown}
use Rattle.paged_storage.specs.PagedStorage.{paged_state, requested}
use Rattle.paged_storage.specs.declared.paged_storage.PagedStorage.{PagedStorage}
use Rattle.qimg_calls.specs.Calls.{any_commit_down}
use Rattle.qimg_calls.specs.Runs.{AllGoOn}
use Rattle.qimg_calls.specs.declared.call.Answer.{Answer}
use Rattle.qimg_calls.specs.declared.call.Call.{Call}
use Rattle.qimg_core.specs.declared.plain.ChainFile.{ChainFile}
use Rattle.qimg_chain.specs.Chains.{IsSoundAs, OfTop, mode}
use Rattle.qimg_chain.specs.FileMeanings.{FileBytes, IsDiskOf, value_of, extra_bytes, file_bytes, files_bytes}
use Rattle.qimg_chain.specs.OneDisk.{RunsOnDisk}
use Rattle.qimg_chain.specs.Sessions.{CanBeTop, OnOneDisk, Session, opening}
use Rattle.qimg_chain.specs.TopChecks.{IsAccepted}
use Rattle.host_disk.specs.Layers.{AreStoragesOf, IsStorageOf, shown_by}
use Rattle.host_disk.specs.Lists.{ChangesOneDisk, OnFiles}
use Rattle.host_disk.specs.declared.layer.HostLayer.{HostLayer}
use Rattle.host_disk.proofs.Bases.{after-run, base-is, from-start}

module _ {H : Type 0} (h : Ghosts H) where
  -- A storage over a file means the bytes that the file shows.
  bytes-shown : (layer : HostLayer H h) (file : ChainFile (PagedStorage H h)) → IsStorageOf h layer file
      → file_bytes (paged_state h) file ≡ shown_by h layer
  bytes-shown layer file over =
      let format : file.format ≡ layer.format = over.format in
      let bytes : (paged_state h file.image).bytes ≡ file_shown h layer.file = ap (λ (s : StorageState). s.bytes) over.image in
      let extras : map (extra_bytes (paged_state h)) file.extras.items ≡ [] = ap (λ files. map (extra_bytes (paged_state h)) files) over.extras in
      cc

  pub all-bytes-shown : (layers : List (HostLayer H h)) (files : List (ChainFile (PagedStorage H h))) → AreStoragesOf h layers files
      → files_bytes (paged_state h) files ≡ map (shown_by h) layers
  all-bytes-shown [] [] over = refl
  all-bytes-shown [] (file ∷ files) over = absurd over
  all-bytes-shown (layer ∷ layers) [] over = absurd over
  all-bytes-shown (layer ∷ layers) (file ∷ files) over =
      let first = bytes-shown layer file over.0 in
      let others = all-bytes-shown layers files over.1 in
      cc (first, others)

  can-be-top : (layer : HostLayer H h) (file : ChainFile (PagedStorage H h)) → IsStorageOf h layer file → layer.format ≢ Vmdk
      → CanBeTop (paged_state h) file
  can-be-top layer file over not_vmdk = record {
    format = λ vmdk. not_vmdk (sym over.format ∙ vmdk);
    crash_image = λ _ _. ap (λ (s : StorageState). s.crash_image) over.image ∙ sym (ap (λ (s : StorageState). s.bytes) over.image);
    keeps = ap (λ (s : StorageState). s.shape.keeps) over.image;
    others = subst (λ files. All (λ other. IsTrue (paged_state h other.1).shape.keeps) files) (sym over.extras) (λ k d below. absurd (omega arith));
  }

  accepted : (layer : HostLayer H h) (file : ChainFile (PagedStorage H h)) → IsStorageOf h layer file
      → IsSoundAs layer.format (file_shown h layer.file) → IsAccepted (paged_state h) file
  accepted layer file over sound =
      subst (λ (f : FileBytes). IsSoundAs f.format f.bytes) (sym (bytes-shown layer file over)) sound

  module _ {D St : Type 0} (g : Model D St) where
    -- The calls of a list without a commit to the layer below. No answer is a resource error.
    changes : (layer : HostLayer H h) (layers : List (HostLayer H h)) (file : ChainFile (PagedStorage H h))
        (files : List (ChainFile (PagedStorage H h))) (list : List Call) (answers : List Answer) (opened new : D × List D)
        (base : List ℕ) (requests : List Request) (faults refusals : ℕ)
        → IsStorageOf h layer file → AreStoragesOf h layers files → IsFalse (any_commit_down list) → AllGoOn answers
        → length answers ≡ length list → g.image new.0 ≡ requested base requests faults refusals
        → IsSoundAs layer.format (file_shown h layer.file)
        → OnOneDisk g (paged_state h) file files list answers opened new
        → ChangesOneDisk (shown_by h layer) (map (shown_by h) layers) list answers requests
    changes layer layers file files list answers opened new base requests faults refusals over overs none goes each ended sound disk =
        let top = shown_by h layer in
        let below = map (shown_by h) layers in
        let first = bytes-shown layer file over in
        let others = all-bytes-shown layers files overs in
        let all = all-bytes-shown (layer ∷ layers) (file ∷ files) (over, overs) in
        let starts = disk.starts in
        let start = disk.start in
        let last = disk.last in
        let top_is : UnchangedButFaults (requested top.bytes [] 0 0) start.top =
        subst (λ s. UnchangedButFaults s start.top) over.image starts.top_is in
        let run = subst (λ f. RunsOnDisk f below list answers start last) first
        (subst (λ fs. RunsOnDisk (file_bytes (paged_state h) file) fs list answers start last) others disk.run) in
        let from = after-run top below top.bytes list answers start last none goes run (from-start top start.top sound top_is) in
        let end : last.top ≡ requested base requests faults refusals = sym (disk.ends goes).top_is ∙ ended in
        let same : base ≡ top.bytes = base-is top top.bytes base requests faults refusals last.top from end in
        let end_here : last.top ≡ requested top.bytes requests faults refusals = subst (λ b. last.top ≡ requested b requests faults refusals) same end in
        record {
          start = start;
          last = last;
          means = subst (λ fs. IsDiskOf start.disk fs) all starts.means;
          is_free = starts.is_free;
          none = starts.none;
          flushed_at_start = starts.flushed;
          below_is = starts.below_is ∙ ap value_of others;
          exposes = (ap (λ (shape : Shape). shape.tells) top_is.shape, ap (λ (shape : Shape). shape.keeps) top_is.shape, top_is.refusals);
          bytes_at_start = (top_is.bytes, top_is.crash_image, top_is.past_crash_images);
          run = run;
          each = each;
          goes_on = goes;
          bytes = ap (λ (s : StorageState). s.bytes) end_here;
          crash_images = ap (λ (s : StorageState). s.crash_image ∷ s.past_crash_images) end_here;
          is_sound = from.is_sound;
        }

    -- The same from the whole list's `Session`. `taken` is the driver of the top, and `s` the storage of its file.
    pub on-files : (names : D → ℕ → List ℕ) (writable : Bool) (number : ℕ) (layers : List (HostLayer H h))
        (files : List (ChainFile (PagedStorage H h))) (list : List Call) (outcome : Result (Vec Answer Global) Fault) (answers : Vec Answer Global)
        (new : D × List D) (taken : D) (s : StorageState) (base : List ℕ) (requests : List Request) (faults refusals : ℕ)
        → AreStoragesOf h layers files → 0 < length files
        → (OfTop (IsAccepted (paged_state h)) files
        → Session g names (paged_state h) (opening files (mode writable number)) list outcome new)
        → outcome ≡ Ok answers → IsFalse (any_commit_down list) → AllGoOn answers.items → taken ≡ new.0 → s ≡ g.image taken
        → s ≡ requested base requests faults refusals → OnFiles (map (shown_by h) layers) list answers.items requests
    on-files names writable number [] [] list outcome answers new taken s base requests faults refusals overs some session ok none goes is_top is_its ended =
        absurd (omega arith)
    on-files names writable number [] (file ∷ files) list outcome answers new taken s base requests faults refusals overs some session ok none goes
        is_top is_its ended = absurd overs
    on-files names writable number (layer ∷ layers) [] list outcome answers new taken s base requests faults refusals overs some session ok none goes
        is_top is_its ended = absurd overs
    on-files names writable number (layer ∷ layers) (file ∷ files) list outcome answers new taken s base requests faults refusals overs some session ok
        none goes is_top is_its ended =
        λ sound not_vmdk.
        let whole = subst (λ o. Session g names (paged_state h) (opening (file ∷ files) (mode writable number)) list o new) ok
        (session (accepted layer file overs.0 sound)) in
        let disk = whole.one_disk (can-be-top layer file overs.0 not_vmdk) (λ some. absurd (cc some)) in
        let each : length answers.items ≡ length list = ap length (sym whole.told.0) ∙ whole.told.1 in
        let disk_of : OnOneDisk g (paged_state h) file files (take (length answers.items) list) answers.items whole.opened new =
        subst (λ a. OnOneDisk g (paged_state h) file files (take (length a) list) a whole.opened new) whole.told.0 disk in
        let all : take (length answers.items) list ≡ list = take_all (length answers.items) list (omega (arith, each)) in
        let ended_here : g.image new.0 ≡ requested base requests faults refusals = sym (is_its ∙ ap (λ d. g.image d) is_top) ∙ ended in
        changes layer layers file files list answers.items whole.opened new base requests faults refusals overs.0 overs.1 none goes each ended_here
        sound (subst (λ l. OnOneDisk g (paged_state h) file files l answers.items whole.opened new) all disk_of)
