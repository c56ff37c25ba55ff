-- Readying a counter for a cluster, and allocating the cluster if it is free.
use Rattle.std.proofs.Common.{◌≡◌, ℕ, ◌+◌, ◌/◌, ◌<◌, ◌≤◌, true, refl, arith, ap, sym, subst, ◌∙◌, inl, inr, Option, None, Some, Result, Ok, Err, length}
use Rattle.std.specs.Prelude.{⊤, ◌⊎◌, IsTrue, IfOk}
use Rattle.std.proofs.lemmas.Bool.{cases_eq, cases_lt}
use Rattle.std.proofs.lemmas.List.{get_or_past}
use Rattle.imago_storage.specs.State.{StorageState}
use Rattle.imago_storage.specs.declared.fault.Fault.{Fault}
use Rattle.imago_storage.proofs.Composing.{keeps_on}
use Rattle.qcow2_types.specs.Counts.{counters_of_block}
use Rattle.qcow2_types.specs.Header.{Header}
use Rattle.qcow2_types.specs.Words.{block_offset}
use Rattle.qcow2_types.specs.Pending.{FreeEntry}
use Rattle.qcow2_types.specs.References.{structure, meets}
use Rattle.qcow2_metadata.specs.Places.{IsAddressable}
use Rattle.qcow2_alloc.specs.declared.allocation.handing_out.Readiness.TheVariants.{Ready, NoPlace}
use Rattle.qcow2_alloc.specs.declared.cache.CacheDependency.TheVariants.{L2DependsOnRb}
use Rattle.qcow2_alloc.specs.declared.cache.MetadataCaches.{MetadataCaches}
use Rattle.qcow2_alloc.specs.declared.file.ImageFile.{ImageFile}
use Rattle.qcow2_alloc.specs.Allocating.{Allocating, OnlyIncremented}
use Rattle.qcow2_alloc.specs.Allocators.{metadata_of}
use Rattle.qcow2_alloc.specs.Caches.{order_of}
use Rattle.qcow2_alloc.specs.Freeing.{NoneFreeBefore}
use Rattle.qcow2_alloc.specs.Going.{HadNoResourceError}
use Rattle.qcow2_alloc.specs.GrowingTables.{IsTakenFor}
use Rattle.qcow2_alloc.specs.HandingOut.{handed_at, IsBarred, IsAllocatedAt, IsOneAt}
use Rattle.qcow2_alloc.specs.HandingOutOne.{AllocatesAt, ReadiesCounter, leaked_by}
use Rattle.qcow2_alloc.specs.GuestView.{Metadata, IsSound, counted}
use Rattle.qcow2_alloc.specs.State.{image_state, metadata, IsGuarded, with_first_free, AllocatorState}
use Rattle.qcow2_alloc.proofs.Causes.{fails-weaker}
use Rattle.qcow2_alloc.proofs.Blocks.BlockCreationCalls.{allocating-weaker}
use Rattle.qcow2_alloc.proofs.Handing.CountSequences.{counted-still, allocating-none, allocating-as, allocating-then}
use Rattle.qcow2_alloc.proofs.Blocks.RunProvision.{leaks-none}
use Rattle.qcow2_alloc.proofs.Handing.ClustersHandedOut.{stands-there}
use Rattle.qcow2_alloc.proofs.Handing.SingleCounts.{handed_so, not_handed}
use Rattle.qcow2_alloc.proofs.Blocks.CounterProvision.{ready_so, not_ready}

-- If refcounts only rise, there is still no free cluster before the first-free hint.
pub marked-raised : (m m' : Metadata) (mark : ℕ) → OnlyIncremented m m' → NoneFreeBefore m mark → NoneFreeBefore m' mark
marked-raised m m' mark raised marked c below = counted-still m m' c raised (marked c below)

pub free-raised : (m m' : Metadata) (c : ℕ) → OnlyIncremented m m' → counted m' c ≡ 0 → counted m c ≡ 0
free-raised m m' c raised zero = elim (raised c) [ inl same ↦ omega (arith, same, zero) | inr up ↦ up.0 ]

module _ {S : Type 0} (state : S → StorageState) (cluster : ℕ) (s : AllocatorState S) where
  abbrev Old : Metadata
  Old = metadata state s.image

  abbrev Barred : Metadata → Type 0
  Barred m = IsBarred m s.mark cluster

  -- A cluster that isn't addressable isn't allocated.
  pub out-of-reach : (IsAddressable s.file.header.fields.cluster_bits cluster → ⊥) → AllocatesAt state Barred cluster s (handed_so None) s
  out-of-reach far = record {
    did = record {
      leaked = λ _. 0;
      leaks = leaks-none _ _ (handed_so None);
      step = allocating-none state s.image;
      list = inl refl;
      cause = refl;
    };
    one = tt;
    answer = λ order keeps sound. inr (inr (inl far));
    taken_up_to_cluster = λ order keeps sound c none more. absurd (omega (arith, none, more));
    further = refl;
    stays = tt;
    marked = λ order keeps sound whole marked. marked;
  }

  module _ (mid : AllocatorState S) where
    abbrev Mid : Metadata
    Mid = metadata state mid.image

    -- A cluster without a counter isn't allocated.
    pub uncounted-at : ReadiesCounter state cluster s (ready_so NoPlace) mid → AllocatesAt state Barred cluster s (handed_so None) mid
    uncounted-at counter = record {
      did = record { leaked = λ _. 0; leaks = leaks-none _ _ (handed_so None); step = counter.did.step; list = counter.did.list; cause = counter.did.cause };
      one = tt;
      answer = λ order keeps sound. inr (inr (counter.barred order keeps sound refl));
      taken_up_to_cluster = counter.taken_up_to_cluster;
      further = counter.mark;
      stays = tt;
      marked = λ order keeps sound whole marked c below.
          marked-raised Old Mid s.mark (counter.did.step.raised order keeps sound tt) marked c (let same = counter.mark in omega (arith, same, below));
    }

    -- Readying the counter fails.
    pub refused-at : (fault : Fault) → ReadiesCounter state cluster s (not_ready fault) mid → AllocatesAt state Barred cluster s (not_handed fault) mid
    refused-at fault counter = record {
      did = record {
        leaked = counter.did.leaked;
        leaks = record { none = λ full. counter.did.leaks.none (λ at. full (let e = at in cc)); pinned = counter.did.leaks.pinned };
        step = counter.did.step;
        list = counter.did.list;
        cause = counter.did.cause;
      };
      one = tt;
      answer = λ order keeps sound. tt;
      taken_up_to_cluster = λ order keeps sound. tt;
      further = tt;
      stays = counter.mark;
      marked = λ order keeps sound whole marked c below.
          marked-raised Old Mid s.mark (counter.did.step.raised order keeps sound whole) marked c (let same = counter.mark in omega (arith, same, below));
    }

    module _ (counter : ReadiesCounter state cluster s (ready_so Ready) mid) (result : Result (Option FreeEntry) Fault) (new : MetadataCaches S) (after : ImageFile S) (mark' : ℕ)
        (taken : AllocatesAt state (λ _. ⊥) cluster mid result (with_first_free (image_state mid.table new after mid.pending) mark')) where
      one : AllocatesAt state (λ _. ⊥) cluster (with_first_free mid.image s.mark) result (with_first_free (image_state mid.table new after mid.pending) mark')
      one = subst (λ m. AllocatesAt state (λ _. ⊥) cluster (with_first_free mid.image m) result (with_first_free (image_state mid.table new after mid.pending) mark')) counter.mark taken

      abbrev New : Metadata
      New = metadata_of state after new mid.table mid.pending

      holds-still : IsGuarded state s.image → IsGuarded state mid.image
      holds-still holds = let guest_unchanged = counter.did.step.guest_unchanged holds.1 in (keeps_on (state s.file.image) (state mid.file.image) guest_unchanged.shape holds.0, counter.did.step.order ∙ holds.1, (guest_unchanged.holds holds.0 holds.2 tt).0)

      both : Allocating state (HadNoResourceError result) (handed_at result one.did.leaked) s.image (image_state mid.table new after mid.pending)
      both = allocating-as state (HadNoResourceError result) (HadNoResourceError result) (λ c. leaked_by (ready_so Ready) counter.did.leaked c + handed_at result one.did.leaked c) (handed_at result one.did.leaked) s.image (image_state mid.table new after mid.pending) (λ w. w) (λ c. omega arith)
          (allocating-then state ⊤ (HadNoResourceError result) (leaked_by (ready_so Ready) counter.did.leaked) (handed_at result one.did.leaked) s.image mid.image (image_state mid.table new after mid.pending) tt counter.did.step one.did.step)

      -- The cluster isn't allocated since its refcount is above 0: it was before, or the cluster now holds a new table or block.
      taken-by : result ≡ Ok None → order_of s.caches ≡ L2DependsOnRb → IsTrue (state s.file.image).shape.keeps → IsSound Old → 0 < counted Mid cluster → (0 < counted Old cluster) ⊎ (0 < structure New.file New.header.fields (meets New.header.fields cluster))
      taken-by none order keeps sound more =
          let whole : HadNoResourceError result = subst (λ (r : Result (Option FreeEntry) Fault). HadNoResourceError r) (sym none) tt in
          let held = holds-still (keeps, order, sound) in
          let after-all = (both.guest_unchanged order).holds keeps sound whole in
          let kept : handed_at result one.did.leaked cluster ≡ 0 = subst (λ (r : Result (Option FreeEntry) Fault). handed_at r one.did.leaked cluster ≡ 0) (sym none) refl in
          elim (cases_lt 0 (counted Old cluster)) [
            | inl was ↦ inl was
            | inr none' ↦ inr (stands-there Old New (handed_at result one.did.leaked) cluster sound after-all.0 after-all.1 counter.did.list (omega (arith, none')) kept
                (counted-still Mid New cluster (one.did.step.raised held.1 held.0 held.2 whole) more))
          ]

      answered : (r : Result (Option FreeEntry) Fault) → result ≡ r → order_of s.caches ≡ L2DependsOnRb → IsTrue (state s.file.image).shape.keeps → IsSound Old → IfOk r (IsAllocatedAt ⊥ cluster Mid New) → IfOk r (IsAllocatedAt (Barred Old) cluster Old New)
      answered (Ok (Some entry)) is order keeps sound (zero, once, not_referenced, free) = (free-raised Old Mid cluster (counter.did.step.raised order keeps sound tt) zero, once, not_referenced, free)
      answered (Ok None) is order keeps sound (inl more) = elim (taken-by is order keeps sound more) [ inl was ↦ inl was | inr stands ↦ inr (inl stands) ]
      answered (Ok None) is order keeps sound (inr (inl stands)) = inr (inl stands)
      answered (Ok None) is order keeps sound (inr (inr never)) = absurd never
      answered (Err fault) is order keeps sound said = tt

      -- Each newly counted cluster is used for the counter, or is the allocated one.
      nearby : (r : Result (Option FreeEntry) Fault) → order_of s.caches ≡ L2DependsOnRb → IsTrue (state s.file.image).shape.keeps → IsSound Old → IfOk r (λ _. IsTakenFor s.mark cluster Mid New) → IfOk r (λ _. IsTakenFor s.mark cluster Old New)
      nearby (Err fault) order keeps sound said = tt
      nearby (Ok found) order keeps sound said = λ c none more. elim (cases_eq (counted Mid c) 0) [
        | inr made ↦ counter.taken_up_to_cluster order keeps sound c none (omega (arith, made))
        | inl has_no_dirty_data ↦ elim (said c has_no_dirty_data more) [
          | inl le ↦ inl le
          | inr room ↦ absurd (never room.0)
        ]
      ]
        where
          never : length mid.table.raw_entries ≤ cluster / counters_of_block mid.file.header.fields → ⊥
          never past =
              let here : length mid.table.raw_entries ≤ cluster / counters_of_block s.file.header.fields = subst (λ (H : Header). length mid.table.raw_entries ≤ cluster / counters_of_block H.fields) counter.did.step.moved.2 past in
              counter.ready_covers_cluster refl (ap block_offset (get_or_past mid.table.raw_entries (cluster / counters_of_block s.file.header.fields) 0 here))

      -- The cluster is allocated if it is free.
      pub readied-at : AllocatesAt state Barred cluster s result (with_first_free (image_state mid.table new after mid.pending) mark')
      readied-at = record {
        did = record {
          leaked = one.did.leaked;
          leaks = record { none = one.did.leaks.none; pinned = λ holds loose. one.did.leaks.pinned (holds-still holds) (counter.did.step.keeps_unpinned_room true loose) };
          step = both;
          list = counter.did.list;
          cause = fails-weaker _ _ (allocating-weaker holds-still counter.did.step.keeps_unpinned_room (λ n full. full) counter.did.cause) (λ same. same ∙ counter.did.cause) result one.did.cause;
        };
        one = subst (λ (H : Header). IfOk result (IsOneAt cluster H.fields.cluster_bits)) counter.did.step.moved.2 one.one;
        answer = λ order keeps sound. let held = holds-still (keeps, order, sound) in answered result refl order keeps sound (one.answer held.1 held.0 held.2);
        taken_up_to_cluster = λ order keeps sound. let held = holds-still (keeps, order, sound) in nearby result order keeps sound (one.taken_up_to_cluster held.1 held.0 held.2);
        further = one.further;
        stays = one.stays;
        marked = λ order keeps sound whole marked. let held = holds-still (keeps, order, sound) in one.marked held.1 held.0 held.2 whole (marked-raised Old Mid s.mark (counter.did.step.raised order keeps sound tt) marked);
      }
