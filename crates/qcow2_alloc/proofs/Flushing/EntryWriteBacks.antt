-- Writing a dirty entry to its cluster. If the file stays consistent, the caches stay well-formed.
use Rattle.std.proofs.Common.{◌≡◌, ◌≢◌, ℕ, ◌+◌, ◌*◌, ◌<◌, arith, sym, subst, List, ◌∷◌, ◌++◌, length, true, false}
use Rattle.std.specs.Prelude.{nat_eq, slice_index}
use Rattle.std.specs.List.{AllByRecursion, IsDistinct}
use Rattle.qcow2_types.specs.Bytes.{Bytes, splice}
use Rattle.qcow2_types.specs.Header.{Header, cluster_size}
use Rattle.qcow2_types.specs.Consistency.{IsConsistent}
use Rattle.qcow2_types.specs.Versions.{IsBetween}
use Rattle.qcow2_types.proofs.Changes.Stops.{apart-falls}
use Rattle.qcow2_alloc.specs.declared.async_lru_cache.Slot.{Slot}
use Rattle.qcow2_alloc.specs.declared.cache.CacheDependency.{CacheDependency}
use Rattle.qcow2_alloc.specs.Memory.{Cached, memory}
use Rattle.qcow2_alloc.specs.WellFormedness.{IsCrashImage, IsOrdered, WellFormed}
use Rattle.qcow2_alloc.proofs.Caching.SingleEntries.{EntryLaws, are-safe, entry-fits, entry-settled, entry-shows, others-safe}
use Rattle.qcow2_alloc.proofs.Caching.EntryTraffic.{keys-with}
use Rattle.qcow2_alloc.proofs.Memory.EntryKinds.{EntryKind, IsSafeMemory}
use Rattle.qcow2_alloc.proofs.Memory.FittingWords.{written-either}
use Rattle.qcow2_alloc.proofs.Memory.Patches.{all-append, all-front, all-back, all-weaker, all-both, others-before, others-behind}

-- The entry was written to file `f`, which is now `x`.
pub record EntryWritten (f x : Bytes) (H : Header) (order : CacheDependency) (cached cached' : Cached) : Type 0 where
  pub well_formed : WellFormed x H cached' order
  pub memory_same : memory x H.fields cached' ≡ memory f H.fields cached
  pub left : IsCrashImage f (memory f H.fields cached) H x

module _ {V W : Type 0} (kind : EntryKind V W) (laws : EntryLaws kind) (f : Bytes) (H : Header) (order : CacheDependency)
    (rest : List (ℕ × Slot W)) (front : List (ℕ × Slot V)) (key : ℕ) (here : Slot V) (back : List (ℕ × Slot V))
    (well_formed : WellFormed f H (kind.put rest (front ++ (key, here) ∷ back)) order) (modified : kind.writes.modified here.value ≡ true)
    (place : ℕ) (at : place ≡ key * cluster_size H.fields) where
  abbrev g : Bytes
  g = memory f H.fields (kind.put rest (front ++ (key, here) ∷ back))

  abbrev x : Bytes
  x = splice f place (kind.bytes here.value)

  pub fills : length (kind.bytes here.value) ≡ cluster_size H.fields
  fills = (laws.is_patch f H well_formed.consistent key here.value (entry-fits kind laws f H rest front key here back order well_formed) modified).long

  pub shown : (k : ℕ) → k < cluster_size H.fields → slice_index (kind.bytes here.value) k ≡ g (place + k)
  shown k less = subst (λ t. slice_index (kind.bytes here.value) k ≡ g (t + k)) (sym at)
      (sym (entry-shows kind laws f H rest front key here back order well_formed modified k (omega (arith, less, fills))))

  -- Entries at other clusters, and all of the other kind, still fit.
  module _ (consistent : IsConsistent x H) (between : IsBetween f x g H.fields) (ordered : IsOrdered order x g H.fields)
      (kept : (cluster : ℕ) (v : V) → key ≢ cluster → kind.Fits f H.fields cluster v → kind.Fits x H.fields cluster v)
      (others : (cluster : ℕ) (w : W) → kind.OtherFits f H.fields cluster w → kind.OtherFits x H.fields cluster w) where
    kept-all : (es : List (ℕ × Slot V)) → AllByRecursion (λ e. key ≢ e.0) es → AllByRecursion (λ (e : ℕ × Slot V). kind.Fits f H.fields e.0 e.1.value) es
        → AllByRecursion (λ (e : ℕ × Slot V). kind.Fits x H.fields e.0 e.1.value) es
    kept-all es apart are = all-weaker _ _ (λ e both. kept e.0 e.1.value both.0 both.1) es (all-both _ _ es apart are)

    pub entry-written : (settled : Slot V) → kind.writes.modified settled.value ≡ false → kind.Fits x H.fields key settled.value
        → EntryWritten f (splice f (key * cluster_size H.fields) (kind.bytes here.value)) H order (kind.put rest (front ++ (key, here) ∷ back))
        (kind.put rest (front ++ (key, settled) ∷ back))
    entry-written settled clean fits =
        let are = are-safe kind laws f H rest front key here back order well_formed in
        let beside = others-safe kind laws f H rest front key here back order well_formed in
        let same : memory x H.fields (kind.put rest (front ++ (key, settled) ∷ back)) ≡ g =
        subst (λ t. memory (splice f t (kind.bytes here.value)) H.fields (kind.put rest (front ++ (key, settled) ∷ back)) ≡ g) (sym at)
        (entry-settled kind laws f H rest front key here back order well_formed modified settled clean) in
        subst (λ t. EntryWritten f (splice f t (kind.bytes here.value)) H order (kind.put rest (front ++ (key, here) ∷ back)) (kind.put rest (front ++ (key, settled) ∷ back))) at (record {
          well_formed = laws.well_formed x H order rest (front ++ (key, settled) ∷ back) consistent
              (record {
                apart = subst (λ (ks : List ℕ). IsDistinct nat_eq ks) (keys-with front key here settled back) are.apart;
                fit = all-append _ front ((key, settled) ∷ back)
                    (kept-all front (others-before key here front back are.apart) (all-front _ front ((key, here) ∷ back) are.fit))
                    (fits, kept-all back (others-behind key here front back are.apart) (all-back _ front ((key, here) ∷ back) are.fit).1);
              })
              (record { apart = beside.apart; fit = all-weaker _ _ (λ e is. others e.0 e.1.value is) rest beside.fit })
              (subst (λ (m : Bytes). IsSafeMemory x m H order) (sym same) (record { apart = apart-falls f x g H.fields between well_formed.apart; ordered = ordered; covered = well_formed.covered }));
          memory_same = same;
          left = record { consistent = consistent; raw_entries = between; bytes = written-either f g place (kind.bytes here.value) (λ k inside. shown k (omega (arith, inside, fills))) };
        })
