-- The properties of a change, after its dirty metadata is written and the caches are emptied.
use Rattle.std.proofs.Common.{◌≡◌, ℕ, ◌+◌, refl, arith, ap, sym, subst, inl, inr, List, Result, Ok, Err}
use Rattle.std.specs.Prelude.{◌⊎◌, ⊤, IfErr, IfOk, OnOk}
use Rattle.imago_storage.specs.State.{StorageState}
use Rattle.imago_storage.specs.Calls.{IsFaultless}
use Rattle.imago_storage.specs.declared.fault.Fault.{Fault}
use Rattle.imago_storage.specs.declared.fault.Fault.TheVariants.{Memory, Storage}
use Rattle.qcow2_types.specs.Pending.{FreeEntry}
use Rattle.qcow2_metadata.specs.Tables.{TableValue}
use Rattle.qcow2_alloc.specs.declared.cache.MetadataCaches.{MetadataCaches}
use Rattle.qcow2_alloc.specs.declared.file.ImageFile.{ImageFile}
use Rattle.qcow2_alloc.specs.Allocators.{metadata_of}
use Rattle.qcow2_alloc.specs.Caches.{cached_in}
use Rattle.qcow2_alloc.specs.Causes.{HasCause}
use Rattle.qcow2_alloc.specs.Going.{AreBlocksAddressable, AreTablesAddressable, HadNoResourceError, writing_causes}
use Rattle.qcow2_alloc.specs.GuestView.{Metadata, PreservesGuest}
use Rattle.qcow2_alloc.specs.State.{AllocatorState, ImageState, KeepsWritesAndSound, allocator_state, seen}
use Rattle.qcow2_alloc.proofs.Flushing.FaultlessCalls.{faultless-then}
use Rattle.qcow2_alloc.proofs.GuestView.QuietSequences.{quietly-otherwise, quietly-then}
use Rattle.qcow2_clusters.specs.Progress.{Kind, Progresses, both, handing}
use Rattle.qcow2_clusters.specs.Flushed.{AreEmpty, Clusters, IsReady, changed, flushed_metadata, storage}
use Rattle.qcow2_clusters.specs.WritingBack.{WritesBack, all_flushed}
use Rattle.qcow2_clusters.proofs.ProgressSums.{progresses-halted, progresses-then, progresses-weaker, quiet-progresses, wider-both, wider-handing, wider-same}
use Rattle.qcow2_clusters.proofs.StartsAtRest.{begun-quietly, begun-sound}

-- A result is a resource error or not.
pub cut-or-not : {T : Type 0} (given : Result T Fault) → HadNoResourceError given ⊎ (HadNoResourceError given → ⊥)
cut-or-not (Ok v) = inl tt
cut-or-not (Err Memory) = inr (λ whole. whole)
cut-or-not (Err Storage) = inr (λ whole. whole)
cut-or-not (Err _) = inl tt

-- Two calls that preserve the guest and take nothing. The first has no resource error.
pub quiet-both : (ok done : Type 0) (handed handed' : ℕ → ℕ) (s : StorageState) (m : Metadata) (s1 : StorageState) (m1 : Metadata)
    (s2 : StorageState) (m2 : Metadata) → done → PreservesGuest done handed (λ _. 0) s m s1 m1 → PreservesGuest ok handed' (λ _. 0) s1 m1 s2 m2
    → PreservesGuest ok (λ c. handed c + handed' c) (λ _. 0) s m s2 m2
quiet-both ok done handed handed' s m s1 m1 s2 m2 was first second =
    quietly-otherwise ok (λ c. handed c + handed' c) (λ c. 0 + 0) (λ c. handed c + handed' c) (λ _. 0) s m s2 m2 (λ sound c. omega arith) (λ sound c used none. refl)
    (quietly-then done ok handed (λ _. 0) handed' (λ _. 0) s m s1 m1 s2 m2 was (λ sound c some. refl) first second)

-- The second call allocates nothing.
pub quiet-then-nothing : (ok done : Type 0) (handed : ℕ → ℕ) (s : StorageState) (m : Metadata) (s1 : StorageState) (m1 : Metadata)
    (s2 : StorageState) (m2 : Metadata) → done → PreservesGuest done handed (λ _. 0) s m s1 m1 → PreservesGuest ok (λ _. 0) (λ _. 0) s1 m1 s2 m2
    → PreservesGuest ok handed (λ _. 0) s m s2 m2
quiet-then-nothing ok done handed s m s1 m1 s2 m2 was first second =
    quietly-otherwise ok (λ c. handed c + 0) (λ _. 0) handed (λ _. 0) s m s2 m2 (λ sound c. omega arith) (λ sound c used none. refl)
    (quiet-both ok done handed (λ _. 0) s m s1 m1 s2 m2 was first second)

-- The first call allocates nothing.
pub quiet-behind-nothing : (ok done : Type 0) (handed : ℕ → ℕ) (s : StorageState) (m : Metadata) (s1 : StorageState) (m1 : Metadata)
    (s2 : StorageState) (m2 : Metadata) → done → PreservesGuest done (λ _. 0) (λ _. 0) s m s1 m1 → PreservesGuest ok handed (λ _. 0) s1 m1 s2 m2
    → PreservesGuest ok handed (λ _. 0) s m s2 m2
quiet-behind-nothing ok done handed s m s1 m1 s2 m2 was first second =
    quietly-otherwise ok (λ c. 0 + handed c) (λ _. 0) handed (λ _. 0) s m s2 m2 (λ sound c. omega arith) (λ sound c used none. refl)
    (quiet-both ok done (λ _. 0) handed s m s1 m1 s2 m2 was first second)

-- A call that preserves the guest and fails with a resource error does so for any metadata in memory.
pub quiet-halted : (ok ok' : Type 0) (handed taken handed' taken' : ℕ → ℕ) (s : StorageState) (m : Metadata) (s' : StorageState) (m' m'' : Metadata)
    → (ok' → ⊥) → PreservesGuest ok handed taken s m s' m' → PreservesGuest ok' handed' taken' s m s' m''
quiet-halted ok ok' handed taken handed' taken' s m s' m' m'' never guest_unchanged = record {
  shape = guest_unchanged.shape;
  counts_not_fallen = guest_unchanged.counts_not_fallen;
  passes = guest_unchanged.passes;
  holds = λ keeps sound done. absurd (never done);
}

-- A flushed image, as the parameter of an allocator's call.
abbrev pub begun : {S : Type 0} → Clusters S → ImageState S
begun c = seen c.space.allocator c.caches c.file c.space.to_free

-- A flushed image with its first-free hint.
abbrev pub lent_by : {S : Type 0} → Clusters S → AllocatorState S
lent_by c = allocator_state c.space.allocator c.caches c.file c.space.to_free

-- If the image is ready, it is consistent for the allocator.
pub ready-kept : {S : Type 0} (state : S → StorageState) (c : Clusters S) → AreEmpty c.caches → IsReady state c → KeepsWritesAndSound state (begun c)
ready-kept state c empty ready = (ready.keeps, begun-sound (changed state c) empty ready.sound)

-- A call that preserves the guest from there preserves it from the flushed image.
pub begun-then : {S : Type 0} (state : S → StorageState) (c : Clusters S) → AreEmpty c.caches → (ok : Type 0) (handed : ℕ → ℕ) (s : StorageState) (m : Metadata)
    → PreservesGuest ok handed (λ _. 0) (storage state c) (changed state c) s m → PreservesGuest ok handed (λ _. 0) (storage state c) (flushed_metadata state c) s m
begun-then state c empty ok handed s m guest_unchanged =
    quiet-behind-nothing ok ⊤ handed (storage state c) (flushed_metadata state c) (storage state c) (changed state c) s m tt (begun-quietly ⊤ (storage state c) (changed state c) empty) guest_unchanged

module _ {S T : Type 0} (state : S → StorageState) (given : Result T Fault) (before : ImageFile S) (old : MetadataCaches S)
    (result : Result T Fault) (after : ImageFile S) (new : MetadataCaches S) (settles : WritesBack state given before old result after new) where
  module _ (table : TableValue) (pending : List FreeEntry) (s : StorageState) (m : Metadata) where
    abbrev between : Metadata
    between = metadata_of state before old table pending

    abbrev rested : ImageFile S → Metadata
    rested f = all_flushed (metadata_of state f old table pending)

    -- A change whose metadata is written is still of its kind.
    pub settled-progresses : (kind : Kind) → Progresses (HadNoResourceError given) kind s m (state before.image) between
        → Progresses (HadNoResourceError result) kind s m (state after.image) (rested after)
    settled-progresses kind first = elim (cut-or-not given) [
      | inl whole ↦
          progresses-weaker (HadNoResourceError result) (HadNoResourceError result) (both kind (handing (λ _. 0) (λ _. 0))) kind s m (state after.image) (rested after)
          (wider-both kind (handing (λ _. 0) (λ _. 0)) kind (wider-same kind) (wider-handing (λ _. 0) (λ _. 0) kind)) (λ done. done) (λ c. omega arith) (λ c. omega arith)
          (progresses-then (HadNoResourceError result) (HadNoResourceError given) kind (handing (λ _. 0) (λ _. 0)) s m (state before.image) between (state after.image) (rested after) whole first
          (quiet-progresses (HadNoResourceError result) (λ _. 0) (λ _. 0) (state before.image) between (state after.image) (rested after) (λ sound c some. refl) (settles.guest_unchanged table pending)))
      | inr cut ↦
          let same = settles.cut cut in
          subst (λ (r : Result T Fault). Progresses (HadNoResourceError r) kind s m (state after.image) (rested after)) (sym same.0)
          (subst (λ (f : ImageFile S). Progresses (HadNoResourceError given) kind s m (state f.image) (rested f)) (sym same.1)
          (progresses-halted (HadNoResourceError given) (HadNoResourceError given) kind kind s m (state before.image) between (rested before) (wider-same kind) (λ keeps sound done. cut done) first))
    ]

    -- It still preserves the guest.
    pub settled-quietly : (handed : ℕ → ℕ) → PreservesGuest (HadNoResourceError given) handed (λ _. 0) s m (state before.image) between
        → PreservesGuest (HadNoResourceError result) handed (λ _. 0) s m (state after.image) (rested after)
    settled-quietly handed first = elim (cut-or-not given) [
      | inl whole ↦
          quiet-then-nothing (HadNoResourceError result) (HadNoResourceError given) handed s m (state before.image) between (state after.image) (rested after) whole first (settles.guest_unchanged table pending)
      | inr cut ↦
          let same = settles.cut cut in
          subst (λ (r : Result T Fault). PreservesGuest (HadNoResourceError r) handed (λ _. 0) s m (state after.image) (rested after)) (sym same.0)
          (subst (λ (f : ImageFile S). PreservesGuest (HadNoResourceError given) handed (λ _. 0) s m (state f.image) (rested f)) (sym same.1)
          (quiet-halted (HadNoResourceError given) (HadNoResourceError given) handed (λ _. 0) handed (λ _. 0) s m (state before.image) between (rested before) cut first))
    ]

  -- Without a resource error it fails no request.
  pub settled-faultless : (s : StorageState) → (HadNoResourceError given → IsFaultless s (state before.image)) → HadNoResourceError result → IsFaultless s (state after.image)
  settled-faultless s first whole = elim (cut-or-not given) [
    | inl done ↦ faultless-then (first done) (settles.faults whole)
    | inr cut ↦ absurd (cut (subst (λ (r : Result T Fault). HadNoResourceError r) (settles.cut cut).0 whole))
  ]

  -- A property of a successful result still holds.
  pub settled-ok : (P : Type 0) → OnOk given P → OnOk result P
  settled-ok P holds = elim settles.answer [
    | inl same ↦ subst (λ (r : Result T Fault). OnOk r P) (sym same) holds
    | inr refused ↦ subst (λ (r : Result T Fault). OnOk r P) (sym refused.1) tt
  ]

  pub settled-if-ok : (P : T → Type 0) → IfOk given P → IfOk result P
  settled-if-ok P holds = elim settles.answer [
    | inl same ↦ subst (λ (r : Result T Fault). IfOk r P) (sym same) holds
    | inr refused ↦ subst (λ (r : Result T Fault). IfOk r P) (sym refused.1) tt
  ]

  -- If the result stays, the storage failed no further request.
  same-faults : result ≡ given → (state after.image).faults ≡ (state before.image).faults
  same-faults same = elim (cut-or-not given) [
    | inl whole ↦ (settles.faults (subst (λ (r : Result T Fault). HadNoResourceError r) (sym same) whole)).0
    | inr cut ↦ ap (λ (f : ImageFile S). (state f.image).faults) (settles.cut cut).1
  ]

  -- The result stays. Otherwise it wasn't a resource error, and the flush failed.
  pub settled-cases : (result ≡ given) ⊎ (HadNoResourceError given × (fault : Fault) × (result ≡ Err fault)
      × HasCause (writing_causes (AreTablesAddressable (cached_in old) × AreBlocksAddressable (cached_in old)) (state before.image).faults (state after.image).faults) fault)
  settled-cases = elim (cut-or-not given) [
    | inl whole ↦ elim settles.answer [
      | inl same ↦ inl same
      | inr refused ↦ inr (whole, refused.0, refused.1, refused.2)
    ]
    | inr cut ↦ inl (settles.cut cut).0
  ]

  -- The cause of the failure: the call's own, or that of the flush.
  pub settled-cause : (why : ℕ → Fault → Type 0) → IfErr given (why (state before.image).faults)
      → (HadNoResourceError given → (fault : Fault)
      → HasCause (writing_causes (AreTablesAddressable (cached_in old) × AreBlocksAddressable (cached_in old)) (state before.image).faults (state after.image).faults) fault
      → why (state after.image).faults fault)
      → IfErr result (why (state after.image).faults)
  settled-cause why was flush = elim settled-cases [
    | inl same ↦
        subst (λ (r : Result T Fault). IfErr r (why (state after.image).faults)) (sym same) (subst (λ n. IfErr given (why n)) (sym (same-faults same)) was)
    | inr refused ↦ subst (λ (r : Result T Fault). IfErr r (why (state after.image).faults)) (sym refused.2) (flush refused.0 refused.1 refused.3)
  ]
