-- Lemmas on images with nothing pending: when that is so, and what calls then leave of the leaks.
use Rattle.std.proofs.Common.{◌≡◌, ℕ, ◌+◌, ◌-◌, refl, arith, ap, sym, ◌∙◌, Bool, true, false, List, [], ◌∷◌, length, Option, Some, None}
use Rattle.std.proofs.lemmas.Bool.{ne_eqb}
use Rattle.std.specs.Prelude.{not, ◌==◌, Ok}
use Rattle.imago_storage.specs.State.{StorageState}
use Rattle.imago_storage.specs.declared.storage.Storage.{Ghosts}
use Rattle.imago_access.specs.Layer.{IsFree}
use Rattle.qcow2_types.specs.Header.{header_of}
use Rattle.qcow2_types.specs.Pending.{FreeEntry}
use Rattle.qcow2_alloc.specs.FreeList.{listed}
use Rattle.qcow2_clusters.specs.declared.space.Space.{Space}
use Rattle.qcow2_image.specs.Allocating.{waits_in}
use Rattle.qcow2_image.specs.Holding.{PreparedMappingRun, mapping_id_held}
use Rattle.qcow2_image.specs.Leaking.{KeepsLeaks, counts_in, names_in, pending, reserved_in, excess_refcount_of, waiting_in}
use Rattle.qcow2_image.specs.Opening.{IsOpenedAs}
use Rattle.qcow2_image.specs.ImageLayer.{qcow2_leaks, excess_refcount_in}
use Rattle.qcow2_image.specs.Seen.{file_of, layer_of}
use Rattle.qcow2_image.specs.Unspent.{holding_in}
use Rattle.qcow2_image.specs.declared.qcow2.Qcow2.{Qcow2}
use Rattle.qcow2_image.proofs.ClusterSteps.{idle-waits}

none-listed : (entries : List FreeEntry) → not (length entries == 0) ≡ false → (c : ℕ) → listed entries c ≡ 0
none-listed [] none c = refl
none-listed (e ∷ entries) none c =
    let some : (length (e ∷ entries) == 0) ≡ false = ne_eqb (length (e ∷ entries)) 0 (λ is. omega (arith, is)) in
    let bad : true ≡ false = sym (ap not some) ∙ none in
    absurd (cc bad)

none-waiting : (o : Option Space) → waits_in o ≡ false → (c : ℕ) → waiting_in o c ≡ 0
none-waiting None none c = refl
none-waiting (Some space) none c = none-listed space.to_free.entries none c

none-reserved : (o : Option PreparedMappingRun) → mapping_id_held o ≡ None → (c : ℕ) → reserved_in o c ≡ 0
none-reserved None free c = refl
none-reserved (Some hold) free c = absurd (cc free)

module _ {S : Type 0} (g : Ghosts S) where
  -- Nothing is pending if the free list is empty and no mapping is prepared.
  pub none-pending : (d : Qcow2 S g) → waits_in d.tables.space ≡ false → IsFree (layer_of g d) → (c : ℕ) → pending g d c ≡ 0
  none-pending d none free c =
      let waits = none-waiting d.tables.space none c in
      let held = none-reserved (holding_in g d.unspent) free c in
      omega (arith, waits, held)

  -- Nothing is pending right after opening.
  pub opened-pending : (before : StorageState) (writable : Bool) (backing : Option Bool) (number tables blocks : ℕ) (d : Qcow2 S g)
      → IsOpenedAs g before writable backing number tables blocks d → (c : ℕ) → pending g d c ≡ 0
  opened-pending before writable backing number tables blocks d opened =
      none-pending d (idle-waits d.tables.space opened.tables.space.idle) (ap (λ u. mapping_id_held (holding_in g u)) opened.free)

  -- With nothing pending, the excess refcounts are the same.
  pub leaks-alike : (old new : Qcow2 S g) → KeepsLeaks g old new → ((c : ℕ) → pending g old c ≡ 0) → ((c : ℕ) → pending g new c ≡ 0)
      → (c : ℕ) → counts_in g new c + names_in g old c ≡ counts_in g old c + names_in g new c
  leaks-alike old new keeps none none' c = let all = keeps c in let was = none c in let is = none' c in omega (arith, all, was, is)

  -- With nothing pending, the leaks of the file are its excess refcounts.
  pub counted-idle : (d : Qcow2 S g) → header_of false (file_of g d.tables) ≡ Ok d.tables.file.header → waits_in d.tables.space ≡ false
      → IsFree (layer_of g d) → (c : ℕ) → excess_refcount_of g d c ≡ qcow2_leaks (g.state d.tables.file.image).bytes c
  counted-idle d loads none free c =
      let idle = none-pending d none free c in
      let by : excess_refcount_in (file_of g d.tables) (header_of false (file_of g d.tables)) c ≡ counts_in g d c - names_in g d c =
      ap (λ r. excess_refcount_in (file_of g d.tables) r c) loads in
      omega (arith, idle, by)
