-- The state that calls of a chain leave to the next call, and their crash images.
use Rattle.std.proofs.Common.{◌≡◌, ◌⊎◌, inl, inr, ℕ, ◌<◌, ◌≤◌, ◌+◌, ◌^◌, [], ◌∷◌, List, length, arith, sym, ap, subst, refl, false}
use Rattle.std.specs.Prelude.{map, Option, Some, None, Result, Ok, Err, IsOk, IsTrue, IfErr}
use Rattle.std.proofs.lemmas.List.{length-map}
use Rattle.imago_storage.specs.Disk.{Value, Disk}
use Rattle.imago_storage.specs.State.{StorageState}
use Rattle.imago_storage.specs.Steps.{Call}
use Rattle.imago_storage.specs.declared.fault.Fault.{Fault}
use Rattle.imago_storage.specs.declared.fault.Fault.TheVariants.{Failed, MissingData, Memory, Storage}
use Rattle.imago_access.specs.declared.driver_model.DriverModel.{Ghosts}
use Rattle.imago_access.specs.declared.mapping.PreparedDataMapping.{PreparedDataMapping}
use Rattle.imago_access.specs.ChainCalls.{ChainStays}
use Rattle.imago_access.specs.Layer.{Layer, KeepsLayerState}
use Rattle.imago_access.specs.Spending.{IsMine}
use Rattle.imago_access.specs.Layers.{chain}
use Rattle.imago_access.specs.Chain.{at, Each, OfFirst}
use Rattle.imago_access.specs.Committing.{IsCommittable, OfNext}
use Rattle.imago_access.specs.Files.{Pairs, HadNoResourceError, UnchangedButMoreFaults as IsKeptFile, files_of}
use Rattle.imago_access.specs.Going.{LookupCall, LookupCallBelow, MutatingCall, KeepsExcessRefcounts}
use Rattle.imago_access.specs.Parts.{PlainCause}
use Rattle.imago_access.specs.Refusals.{unusable_fault}
use Rattle.imago_access.specs.Running.{ChainRangeChange, IsBetween, IsIntactChain, below_ghosts, below_of, chain_disk}
use Rattle.imago_access.specs.Stops.{IsWritten, Left, KeepsCrashImagesTo, GivesNone}
use Rattle.imago_access.proofs.Looking.{chain_same, chain_sees, chain_safe, chain_kept, chain_deeper}
use Rattle.imago_access.proofs.Stopping.{passes_weaker}
use Rattle.qimg_calls.specs.Calls.{commits_down}
use Rattle.qimg_calls.specs.CommittingDown.{MayBegin}
use Rattle.qimg_calls.specs.Since.{Begun, least_size, most_size}
use Rattle.qimg_calls.specs.Held.{MappingIsPrepared, IsReady, chain_with_mapping, state_of}
use Rattle.qimg_calls.specs.Leading.{LeavesForNext, ShowsBetween}
use Rattle.qimg_calls.specs.Moves.{RestsOn}
use Rattle.qimg_calls.specs.declared.call.Call.{Call as CallMade}
use Rattle.qimg_calls.specs.declared.call.Call.TheVariants as calls

-- `ShowsBetween` for disks.
abbrev pub ValuesBetween : (ℕ → Value → Type 0) → Disk → Disk → Type 0
ValuesBetween gives old new = (p : ℕ) → p < new.size → ((p < old.size) × (new.value p ≡ old.value p)) ⊎ gives p (new.value p)

pub usable-by : (l k : Layer) → l.failed ≡ false → k.failed ≡ false → l.fixed ≡ k.fixed → unusable_fault k ≡ None → unusable_fault l ≡ None
usable-by l k a b same was = rw (a) (rw (same) (rw (b) at was))

-- A usable layer has no other plain causes than resource errors. So a call without a resource error succeeded.
pub whole-ok : {T : Type 0} (layer : Layer) (olds news : List StorageState) (result : Result T Fault) → HadNoResourceError result → unusable_fault layer ≡ None → IfErr result (PlainCause layer olds news) → IsOk result
whole-ok layer olds news (Ok x) whole usable why = refl
whole-ok layer olds news (Err Failed) whole usable why = absurd (cc (why, usable))
whole-ok layer olds news (Err MissingData) whole usable why = absurd (cc (why, usable))
whole-ok layer olds news (Err Memory) whole usable why = absurd whole
whole-ok layer olds news (Err Storage) whole usable why = absurd whole
whole-ok layer olds news (Err fault) whole usable why = absurd why

-- `ShowsBetween` from `IsBetween`, for a call that keeps the size.
pub between : (gives : ℕ → Value → Type 0) (below : List Layer) (old new : Layer) → new.size ≡ old.size → IsBetween gives below old new → ShowsBetween gives below old new
between gives below old new size values p inside =
    let was : p < old.size = subst (λ n. p < n) size inside in
    elim (values p was) [ inl same ↦ inl (was, same) | inr gave ↦ inr gave ]

-- Weakens the clause on crash images to more values and more sizes.
pub fewer-stops : {D St : Type 0} (g : Ghosts D St) (below : List Layer) (least least' most most' : ℕ) (gives more : ℕ → Value → Type 0) (old new : D) → least' ≤ least → most ≤ most'
    → ((p : ℕ) (v : Value) → gives p v → more p v) → KeepsCrashImagesTo g below least most gives old new → KeepsCrashImagesTo g below least' most' more old new
fewer-stops g below least least' most most' gives more old new low high weaker stops =
    passes_weaker (Left below (g.layer old) (g.image old).bytes g.sound least most gives) (Left below (g.layer old) (g.image old).bytes g.sound least' most' more) (g.image old) (g.image new)
    (λ f left. record {
      is_sound = left.is_sound;
      backed = left.backed;
      size = omega (arith, left.size, low);
      no_longer = λ exact. omega (arith, left.no_longer exact, high);
      shows = λ p inside in_disk. elim (left.shows p inside in_disk) [
        | inl meant ↦ inl meant
        | inr rest ↦ elim rest [ inl value ↦ inr (inl value) | inr gave ↦ inr (inr (weaker p _ gave)) ]
      ];
    })
    stops

module _ {D St : Type 0} (g : Ghosts D St) where
  -- The next layer after a call that reads it: its chain is still well-formed, and its file says what its disk is.
  next-committable : (olds news : List D) → map g.layer news ≡ map g.layer olds → Pairs IsKeptFile (files_of g olds) (files_of g news) → (OfFirst g.well_formed olds → OfFirst g.well_formed news) → Each g.coherent news
      → OfNext (λ n. IsIntactChain g n × IsWritten g n.0) olds → OfNext (λ n. IsIntactChain g n × IsWritten g n.0) news
  next-committable [] [] same kept first coherent next = tt
  next-committable (x ∷ xs) (y ∷ ys) same kept first coherent next =
      let layer : g.layer y ≡ g.layer x = cc same in
      let rest : map g.layer ys ≡ map g.layer xs = cc same in (
        record {
          is_well_formed = first next.0.is_well_formed;
          is_coherent = coherent.1;
          backed = rw (layer, rest) next.0.backed;
          held = rw (layer, rest) next.0.held;
        },
        rw (layer, kept.0.0.bytes) next.1,
      )
  next-committable [] (y ∷ ys) same kept first coherent next = absurd (cc same)
  next-committable (x ∷ xs) [] same kept first coherent next = absurd (cc same)

  pub stays-committable : (old new : D × List D) → IsIntactChain g new → map g.layer new.1 ≡ map g.layer old.1 → Pairs IsKeptFile (files_of g old.1) (files_of g new.1) → (OfFirst g.well_formed old.1 → OfFirst g.well_formed new.1)
      → IsCommittable g old → IsCommittable g new
  stays-committable old new intact same kept first i = record { chain = intact; next = next-committable old.1 new.1 same kept first intact.is_coherent i.next }

module _ {D St : Type 0} (g : Ghosts D St) (old new : D × List D) (whole ok : Type 0) (call : Call) where
  -- A change of a range.
  pub ran-leads : (well_formed_is_usable : (d : D) → g.well_formed d → (g.layer d).failed ≡ false) (gives : ℕ → Value → Type 0) → ChainRangeChange g ok gives old new
      → (whole → IsReady g old → ok)
      → ((p : ℕ) (v : Value) → gives p v → Begun (below_of g.layer old) (chain_disk g.layer old) call p v)
      → least_size (chain_disk g.layer old) call ≤ (g.layer old.0).size → (g.layer old.0).size ≤ most_size (chain_disk g.layer old) call
      → LeavesForNext g whole call false old new
  ran-leads well_formed_is_usable gives ran done gave low high =
      let same : whole → IsReady g old → map g.layer new.1 ≡ map g.layer old.1 = λ w ready. (ran.lookup_call.stays (done w ready) ready.intact.is_coherent).0 in
      record {
        fixed = ran.mutating_call.fixed;
        counts_not_fallen = ran.mutating_call.counts_not_fallen.0;
        faults = λ w ready. (ran.mutating_call.faults (done w ready)).0;
        excess_refcount = λ w ready. ran.mutating_call.excess_refcount (done w ready, ready.intact.is_coherent) ready.intact.is_well_formed;
        layers_below = λ has_no_dirty_data. ran.lookup_call.unchanged_but_faults has_no_dirty_data;
        deeper = λ clean. ran.lookup_call.deeper clean;
        committable = λ w ready i. stays-committable g old new (ran.intact (done w ready) ready.intact) (same w ready) (ran.lookup_call.unchanged_but_faults ready.has_no_dirty_data).0 (λ f. ran.lookup_call.safely (done w ready) f) i;
        below = same;
        ready = λ w ready.
            let intact = ran.intact (done w ready) ready.intact in
            record {
              intact = intact;
              usable = (usable-by (g.layer new.0) (g.layer old.0) (well_formed_is_usable new.0 intact.is_well_formed) (well_formed_is_usable old.0 ready.intact.is_well_formed) ran.mutating_call.fixed ready.usable.0, subst (Each (λ l. unusable_fault l ≡ None)) (sym (same w ready)) ready.usable.1);
              has_no_dirty_data = (ran.lookup_call.unchanged_but_faults ready.has_no_dirty_data).1;
              layers_bounded = subst (λ ls. length ls + 1 < 2 ^ 64) (sym (same w ready)) ready.layers_bounded;
            };
        shows = λ w ready. between (Begun (below_of g.layer old) (chain_disk g.layer old) call) (map g.layer old.1) (g.layer old.0) (g.layer new.0) ran.size
            (λ p inside. elim (ran.values (done w ready) ready.intact p inside) [ inl is ↦ inl is | inr gives_it ↦ inr (gave p _ gives_it) ]);
        crash_images = λ ready. fewer-stops g (map g.layer old.1) (g.layer old.0).size (least_size (chain_disk g.layer old) call) (g.layer old.0).size (most_size (chain_disk g.layer old) call) gives (Begun (below_of g.layer old) (chain_disk g.layer old) call) old.0 new.0 low high gave (ran.crash_images ready.intact);
      }

  -- A read or lookup through the chain.
  pub look-leads : (well_formed_is_coherent : (d : D) → g.well_formed d → g.coherent d) → Pairs (LookupCall g ok) (chain old) (chain new) → (whole → ok)
      → least_size (chain_disk g.layer old) call ≤ (g.layer old.0).size → (g.layer old.0).size ≤ most_size (chain_disk g.layer old) call → LeavesForNext g whole call false old new
  look-leads well_formed_is_coherent looked done low high =
      let top : whole → IsReady g old → g.layer new.0 ≡ g.layer old.0 = λ w ready. (looked.0.stays (done w) (well_formed_is_coherent old.0 ready.intact.is_well_formed)).0 in
      let same : whole → IsReady g old → map g.layer new.1 ≡ map g.layer old.1 = λ w ready. chain_same g ok old.1 new.1 (done w) ready.intact.is_coherent looked.1 in
      let intact : whole → IsReady g old → IsIntactChain g new = λ w ready. record {
        is_well_formed = looked.0.safely (done w) ready.intact.is_well_formed;
        is_coherent = chain_sees g ok old.1 new.1 (done w) ready.intact.is_coherent looked.1;
        backed = rw (top w ready) (rw (same w ready) ready.intact.backed);
        held = rw (top w ready) (rw (same w ready) ready.intact.held);
      } in
      record {
        fixed = looked.0.keeps_layer_state.fixed;
        counts_not_fallen = looked.0.counts_not_fallen.0;
        faults = λ w ready. (looked.0.faults (done w)).0;
        excess_refcount = λ w ready. looked.0.excess_refcount (done w) ready.intact.is_well_formed;
        layers_below = λ has_no_dirty_data. chain_kept g ok old.1 new.1 has_no_dirty_data looked.1;
        deeper = λ clean. chain_deeper g ok old.1 new.1 clean looked.1;
        committable = λ w ready i. stays-committable g old new (intact w ready) (same w ready) (chain_kept g ok old.1 new.1 ready.has_no_dirty_data looked.1).0 (λ f. chain_safe g ok old.1 new.1 (done w) f looked.1) i;
        below = same;
        ready = λ w ready. record {
          intact = intact w ready;
          usable = rw (top w ready) (rw (same w ready) ready.usable);
          has_no_dirty_data = (chain_kept g ok old.1 new.1 ready.has_no_dirty_data looked.1).1;
          layers_bounded = rw (same w ready) ready.layers_bounded;
        };
        shows = λ w ready p inside. inl (subst (λ (l : Layer). p < l.size) (top w ready) inside, ap (λ l. at (l ∷ map g.layer old.1) p) (top w ready));
        crash_images = λ ready. fewer-stops g (map g.layer old.1) (g.layer old.0).size (least_size (chain_disk g.layer old) call) (g.layer old.0).size (most_size (chain_disk g.layer old) call) GivesNone (Begun (below_of g.layer old) (chain_disk g.layer old) call) old.0 new.0 low high (λ p v none. absurd none)
            (looked.0.crash_images ready.intact.is_well_formed (map g.layer old.1));
      }

module _ {D St : Type 0} (g : Ghosts D St) (old new : D × List D) (whole ok : Type 0) (call : Call) where
  -- A call with its values determined by its step.
  pub step-leads : {w : Type 0} (well_formed_is_usable : (d : D) → g.well_formed d → (g.layer d).failed ≡ false) → MutatingCall g ok w old.0 new.0 → LookupCallBelow (below_ghosts g) ok old.1 new.1
      → (whole → IsReady g old → ok)
      → (whole → IsReady g old → KeepsExcessRefcounts g old.0 new.0)
      → (whole → IsReady g old → IsIntactChain g new)
      → (whole → IsReady g old → ValuesBetween (Begun (below_of g.layer old) (chain_disk g.layer old) call) (chain_disk g.layer old) (chain_disk g.layer new))
      → (IsReady g old → KeepsCrashImagesTo g (map g.layer old.1) (least_size (chain_disk g.layer old) call) (most_size (chain_disk g.layer old) call) (Begun (below_of g.layer old) (chain_disk g.layer old) call) old.0 new.0)
      → LeavesForNext g whole call false old new
  step-leads well_formed_is_usable mutating_call looked done excess_refcount intact values stops =
      let same : whole → IsReady g old → map g.layer new.1 ≡ map g.layer old.1 = λ w ready. (looked.stays (done w ready) ready.intact.is_coherent).0 in
      record {
        fixed = mutating_call.fixed;
        counts_not_fallen = mutating_call.counts_not_fallen.0;
        faults = λ w ready. (mutating_call.faults (done w ready)).0;
        excess_refcount = excess_refcount;
        layers_below = λ has_no_dirty_data. looked.unchanged_but_faults has_no_dirty_data;
        deeper = λ clean. looked.deeper clean;
        committable = λ w ready i. stays-committable g old new (intact w ready) (same w ready) (looked.unchanged_but_faults ready.has_no_dirty_data).0 (λ f. looked.safely (done w ready) f) i;
        below = same;
        ready = λ w ready.
            let now = intact w ready in
            record {
              intact = now;
              usable = (usable-by (g.layer new.0) (g.layer old.0) (well_formed_is_usable new.0 now.is_well_formed) (well_formed_is_usable old.0 ready.intact.is_well_formed) mutating_call.fixed ready.usable.0, subst (Each (λ l. unusable_fault l ≡ None)) (sym (same w ready)) ready.usable.1);
              has_no_dirty_data = (looked.unchanged_but_faults ready.has_no_dirty_data).1;
              layers_bounded = subst (λ ls. length ls + 1 < 2 ^ 64) (sym (same w ready)) ready.layers_bounded;
            };
        shows = λ w ready p inside.
            subst (λ ls. ((p < (g.layer old.0).size) × (at (g.layer new.0 ∷ ls) p ≡ at (g.layer old.0 ∷ map g.layer old.1) p)) ⊎ Begun (below_of g.layer old) (chain_disk g.layer old) call p (at (g.layer new.0 ∷ ls) p))
            (same w ready) (values w ready p inside);
        crash_images = stops;
      }

module _ {D St : Type 0} (g : Ghosts D St) where
  -- Each layer of a ready chain is coherent.
  pub all-see : (well_formed_is_coherent : (d : D) → g.well_formed d → g.coherent d) (c : D × List D) → IsReady g c → Each g.coherent (chain c)
  all-see well_formed_is_coherent c ready = (well_formed_is_coherent c.0 ready.intact.is_well_formed, ready.intact.is_coherent)

  pub fewer : (c : D × List D) → IsReady g c → length (chain c) < 2 ^ 64
  fewer c ready = let same : length (map g.layer c.1) ≡ length c.1 = length-map c.1 g.layer in omega (arith, same, ready.layers_bounded)

  module _ (old new : D × List D) (kept : Option (PreparedDataMapping St)) where
    -- `KeepsLayerState` keeps the prepared mapping.
    pub like-kept : KeepsLayerState (g.layer old.0) (g.layer new.0) → MappingIsPrepared g (chain_with_mapping old kept) → MappingIsPrepared g (chain_with_mapping new kept)
    like-kept like k = record {
      mine = mine-on (state_of kept) k.mine;
      free = λ none. rw (like.unspent) (k.free none);
    } where
      mine-on : (state : Option St) → IsMine g state (g.layer old.0) → IsMine g state (g.layer new.0)
      mine-on None mine = tt
      mine-on (Some s) mine = (rw (like.fixed) mine.0, rw (like.unspent) mine.1)

  -- A ready chain meets the condition of each call. A commit to the layer below has a further one.
  pub ready-rests : (well_formed_is_coherent : (d : D) → g.well_formed d → g.coherent d) (call : CallMade) (c : D × List D) → IsReady g c → (IsTrue (commits_down call) → MayBegin g c) → RestsOn g call c
  ready-rests well_formed_is_coherent (calls.Read offset n) c ready may = all-see well_formed_is_coherent c ready
  ready-rests well_formed_is_coherent (calls.GetMapping offset n) c ready may = (all-see well_formed_is_coherent c ready, fewer c ready)
  ready-rests well_formed_is_coherent (calls.GetShallowMapping offset n) c ready may = all-see well_formed_is_coherent c ready
  ready-rests well_formed_is_coherent calls.CommitDown c ready may = may refl
  ready-rests well_formed_is_coherent call c ready may = ready.intact

  -- A read or lookup leaves the disk unchanged.
  pub looked-stays : (old new : D × List D) (whole : Type 0) → whole → Pairs (LookupCall g whole) (chain old) (chain new) → Each g.coherent (chain old) → ChainStays g old new
  looked-stays old new whole w looked coherent =
      let top = (looked.0.stays w coherent.0).0 in
      let same = chain_same g whole old.1 new.1 w coherent.1 looked.1 in
      rw (top, same) (record { size = refl; value = λ p inside. refl; hold = λ p inside. refl })
