-- Specifies how the clusters on the list of clusters to free are freed: their refcounts are decremented.
use Rattle.std.specs.Prelude.{◌≡◌, [], ℕ, Result, OnOk, IfErr}
use Rattle.imago_storage.specs.State.{StorageState}
use Rattle.imago_storage.specs.declared.fault.Fault.{Fault}
use Rattle.qcow2_alloc.specs.Causes.{HasCause, Causes}
use Rattle.qcow2_alloc.specs.Going.{IsNoShorter, HadNoResourceError}
use Rattle.qcow2_clusters.specs.Progress.{Progresses, handing}
use Rattle.qcow2_clusters.specs.Flushed.{Clusters, IsReady, KeepsL1, flushed_metadata, storage}
use Rattle.qcow2_clusters.specs.Storing.{Rests}
use Rattle.qcow2_clusters.specs.Room.{KeepsNoneFreeBefore}

-- The faults of a call that frees, in addition to resource errors. Damaged tables and refcounts that can't change occur
-- only if `ready` doesn't hold.
abbrev pub releasing_causes : (ready : Type 0) → (before after : ℕ) → Causes
releasing_causes ready before after =
    record { damaged = ready → ⊥; counter = ready → ⊥; full = ⊥; limit = λ number. ⊥; before = before; after = after }

-- The clusters on the list are freed. The guest reads the same bytes as before, and the file gets no shorter in any
-- case.
pub record FreesPendingClusters {S : Type 0} (state : S → StorageState) (c : Clusters S) (result : Result Unit Fault)
    (c' : Clusters S) : Type 0 where
  pub progress : Progresses (HadNoResourceError result) (handing (λ _. 0) (λ _. 0)) (storage state c) (flushed_metadata state c)
      (storage state c') (flushed_metadata state c')
  pub rests : Rests state c result c'
  pub held : c'.space.to_free.held ≡ c.space.to_free.held
  pub l1 : KeepsL1 state c result c'
  pub emptied : OnOk result (c'.space.to_free.entries ≡ [])
  pub header : c'.file.header ≡ c.file.header
  pub no_shorter : IsNoShorter (storage state c) (storage state c')
  pub marked : KeepsNoneFreeBefore state c result c'
  pub cause : IfErr result (HasCause (releasing_causes (IsReady state c) (storage state c).faults (storage state c').faults))
